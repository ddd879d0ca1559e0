-- Bytes that were read up to a limit are all bytes, if they are fewer than the limit.
use Rattle.std.proofs.Common.{arith, ◌<◌, ◌≤◌, ◌≡◌, ◌∙◌, ap, ℕ, List, [], ◌++◌, Option, Some, None, length, take, min, IfSome, option_map, length-take, take_all}

below : (limit : ℕ) (xs bytes : List ℕ) → bytes ≡ take limit xs → length bytes < limit → bytes ≡ xs
below limit xs bytes is few =
    let count : length bytes ≡ min limit (length xs) = ap length is ∙ length-take limit xs in
    let all : length xs ≤ limit = omega arith in
    is ∙ take_all limit xs all

pub whole : (limit : ℕ) (known front : Option (List ℕ)) (start bytes : List ℕ) → limit ≡ 8388609 → front ≡ known → start ≡ []
    → IfSome (option_map (take limit) front) (λ xs. bytes ≡ start ++ xs) → length bytes ≤ 8388608 → IfSome known (λ xs. bytes ≡ xs)
whole limit known None start bytes is same empty h few = rw (← same) tt
whole limit known (Some xs) start bytes is same empty h few =
    let less : length bytes < limit = omega arith in
    let front_is : bytes ≡ take limit xs = h ∙ ap (λ (s : List ℕ). s ++ take limit xs) empty in
    rw (← same) (below limit xs bytes front_is less)
