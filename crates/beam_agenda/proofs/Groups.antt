-- The groups of a list of numbers that changes.
use Rattle.std.proofs.Common.{◌≡◌, ℕ, zero, suc, ◌+◌, ◌-◌, ◌*◌, ◌/◌, ◌<◌, ◌≤◌, Bool, true, false, cond, List, [], ◌∷◌, ◌++◌, length, take, drop, get_or, refl, sym, ap, subst, ◌∙◌, ⊎_elim, length-drop, length-take, length-append, arith, get_or-take, get_or-drop, drop-set-lt, take_all, drop-drop, Option, Some, None, option_map}
use Rattle.std.specs.List.{count_by}
use Rattle.std.proofs.Math.ListN.{set}
use Rattle.std.proofs.Math.Seq.{take-set-lt}
use Rattle.std.proofs.lemmas.Bool.{cases_lt}
use Rattle.std.proofs.lemmas.Bool.Decides.{nat_tests}
use Rattle.std.proofs.lemmas.List.{take-set-le, drop-set-add, drop_all, take-append-le, drop-append-le, set-get_or, nil_from_length}
use Rattle.std.proofs.lemmas.List.Sums.{count_by-le-length, get_or-le-sum_by, sum_by-set, sum_by_push, sum_by-cons}
use Rattle.beam_agenda.specs.Prelude.{is_set, groups, first_position, position_from}
use Rattle.beam_agenda.proofs.Positions.{first_near, first_far, add_twice}

abbrev pub one_if : Bool → ℕ
one_if t = cond t 1 0

-- ---- a number that changes

counted : (ns : List ℕ) (i n c : ℕ) → i < length ns → c + one_if (is_set (get_or ns i 0)) ≡ count_by is_set ns + one_if (is_set n) → count_by is_set (set ns i n) ≡ c
counted ns i n c l h = omega (arith, sum_by-set (λ n. one_if (is_set n)) ns i n 0 l)

pub groups-set : (k : ℕ) (ns : List ℕ) (i n c : ℕ) → i < length ns → i < 16 * k → c + one_if (is_set (get_or ns i 0)) ≡ get_or (groups k ns) (i / 16) 0 + one_if (is_set n)
    → groups k (set ns i n) ≡ set (groups k ns) (i / 16) c
groups-set zero ns i n c l b h = absurd (omega arith)
groups-set (suc k) ns i n c l b h = ⊎_elim near (far (λ j. groups-set k (drop 16 ns) j n c)) (cases_lt i 16)
  where
    near : i < 16 → groups (suc k) (set ns i n) ≡ set (groups (suc k) ns) (i / 16) c
    near s =
        let first : 0 ≡ i / 16 = omega arith in
        let h0 : c + one_if (is_set (get_or ns i 0)) ≡ count_by is_set (take 16 ns) + one_if (is_set n) = subst (λ g. c + one_if (is_set (get_or ns i 0)) ≡ get_or (groups (suc k) ns) g 0 + one_if (is_set n)) (sym first) h in
        let h1 : c + one_if (is_set (get_or (take 16 ns) i 0)) ≡ count_by is_set (take 16 ns) + one_if (is_set n) = subst (λ m. c + one_if (is_set m) ≡ count_by is_set (take 16 ns) + one_if (is_set n)) (sym (get_or-take 16 ns i 0 s)) h0 in
        let now : count_by is_set (take 16 (set ns i n)) ≡ c = ap (count_by is_set) (take-set-lt 16 ns i n s) ∙ counted (take 16 ns) i n c (omega (arith, length-take 16 ns)) h1 in
        ap (λ m. m ∷ groups k (drop 16 (set ns i n))) now
        ∙ (ap (λ ns. c ∷ groups k ns) (drop-set-lt 16 ns i n s)
        ∙ ap (λ g. set (groups (suc k) ns) g c) first)

    far : ((j : ℕ) → j < length (drop 16 ns) → j < 16 * k → c + one_if (is_set (get_or (drop 16 ns) j 0)) ≡ get_or (groups k (drop 16 ns)) (j / 16) 0 + one_if (is_set n)
        → groups k (set (drop 16 ns) j n) ≡ set (groups k (drop 16 ns)) (j / 16) c)
        → 16 ≤ i → groups (suc k) (set ns i n) ≡ set (groups (suc k) ns) (i / 16) c
    far rest s =
        let j : ℕ = i - 16 in
        let at : 16 + j ≡ i = omega arith in
        let next : suc (j / 16) ≡ i / 16 = omega arith in
        let same : get_or (drop 16 ns) j 0 ≡ get_or ns i 0 = get_or-drop 16 ns j 0 ∙ ap (λ i. get_or ns i 0) at in
        let h0 : c + one_if (is_set (get_or ns i 0)) ≡ get_or (groups k (drop 16 ns)) (j / 16) 0 + one_if (is_set n) = subst (λ g. c + one_if (is_set (get_or ns i 0)) ≡ get_or (groups (suc k) ns) g 0 + one_if (is_set n)) (sym next) h in
        let h1 : c + one_if (is_set (get_or (drop 16 ns) j 0)) ≡ get_or (groups k (drop 16 ns)) (j / 16) 0 + one_if (is_set n) = subst (λ m. c + one_if (is_set m) ≡ get_or (groups k (drop 16 ns)) (j / 16) 0 + one_if (is_set n)) (sym same) h0 in
        ap (λ m. m ∷ groups k (drop 16 (set ns i n))) (ap (count_by is_set) (take-set-le 16 ns i n s))
        ∙ (ap (λ ns'. count_by is_set (take 16 ns) ∷ groups k ns') (ap (λ i. drop 16 (set ns i n)) (sym at) ∙ drop-set-add 16 ns j n)
        ∙ (ap (λ ms. count_by is_set (take 16 ns) ∷ ms) (rest j (omega (arith, length-drop 16 ns)) (omega arith) h1)
        ∙ ap (λ g. set (groups (suc k) ns) g c) next))

pub groups-set_same : (k : ℕ) (ns : List ℕ) (i n : ℕ) → i < length ns → i < 16 * k → is_set (get_or ns i 0) ≡ is_set n → groups k (set ns i n) ≡ groups k ns
groups-set_same k ns i n l b h =
    groups-set k ns i n (get_or (groups k ns) (i / 16) 0) l b (ap (λ t. get_or (groups k ns) (i / 16) 0 + one_if t) h)
    ∙ set-get_or (groups k ns) (i / 16) 0

-- a group has 16 numbers or fewer
pub group_small : (k : ℕ) (ns : List ℕ) (g : ℕ) → get_or (groups k ns) g 0 ≤ 16
group_small zero ns g = omega arith
group_small (suc k) ns zero = omega (arith, count_by-le-length is_set (take 16 ns), length-take 16 ns)
group_small (suc k) ns (suc g) = group_small k (drop 16 ns) g

-- a number that isn't 0 is counted
pub group_has : (k : ℕ) (ns : List ℕ) (i : ℕ) → i < length ns → i < 16 * k → one_if (is_set (get_or ns i 0)) ≤ get_or (groups k ns) (i / 16) 0
group_has zero ns i l b = absurd (omega arith)
group_has (suc k) ns i l b = ⊎_elim near (far (λ j. group_has k (drop 16 ns) j)) (cases_lt i 16)
  where
    near : i < 16 → one_if (is_set (get_or ns i 0)) ≤ get_or (groups (suc k) ns) (i / 16) 0
    near s =
        let first : 0 ≡ i / 16 = omega arith in
        subst (λ g. one_if (is_set (get_or ns i 0)) ≤ get_or (groups (suc k) ns) g 0) first
        (subst (λ n. one_if (is_set n) ≤ count_by is_set (take 16 ns)) (get_or-take 16 ns i 0 s) (get_or-le-sum_by (λ n. one_if (is_set n)) (take 16 ns) i 0 (omega (arith, length-take 16 ns))))

    far : ((j : ℕ) → j < length (drop 16 ns) → j < 16 * k → one_if (is_set (get_or (drop 16 ns) j 0)) ≤ get_or (groups k (drop 16 ns)) (j / 16) 0)
        → 16 ≤ i → one_if (is_set (get_or ns i 0)) ≤ get_or (groups (suc k) ns) (i / 16) 0
    far rest s =
        let j : ℕ = i - 16 in
        let at : 16 + j ≡ i = omega arith in
        let next : suc (j / 16) ≡ i / 16 = omega arith in
        subst (λ g. one_if (is_set (get_or ns i 0)) ≤ get_or (groups (suc k) ns) g 0) next
        (subst (λ n. one_if (is_set n) ≤ get_or (groups k (drop 16 ns)) (j / 16) 0) (get_or-drop 16 ns j 0 ∙ ap (λ i. get_or ns i 0) at) (rest j (omega (arith, length-drop 16 ns)) (omega arith)))

-- ---- a 0 more

pub groups-append : (k : ℕ) (ns : List ℕ) → groups k (ns ++ 0 ∷ []) ≡ groups k ns
groups-append zero ns = refl
groups-append (suc k) ns = ⊎_elim last (later (groups-append k (drop 16 ns))) (cases_lt (length ns) 16)
  where
    last : length ns < 16 → groups (suc k) (ns ++ 0 ∷ []) ≡ groups (suc k) ns
    last s =
        let l : length (ns ++ 0 ∷ []) ≡ length ns + 1 = length-append ns (0 ∷ []) in
        let now : count_by is_set (take 16 (ns ++ 0 ∷ [])) ≡ count_by is_set (take 16 ns) =
        ap (count_by is_set) (take_all 16 (ns ++ 0 ∷ []) (omega arith)) ∙ (omega (arith, sum_by_push (λ n. one_if (is_set n)) ns 0) ∙ ap (count_by is_set) (sym (take_all 16 ns (omega arith)))) in
        ap (λ m. m ∷ groups k (drop 16 (ns ++ 0 ∷ []))) now
        ∙ ap (λ ns'. count_by is_set (take 16 ns) ∷ groups k ns') (drop_all 16 (ns ++ 0 ∷ []) (omega arith) ∙ sym (drop_all 16 ns (omega arith)))

    later : groups k (drop 16 ns ++ 0 ∷ []) ≡ groups k (drop 16 ns) → 16 ≤ length ns → groups (suc k) (ns ++ 0 ∷ []) ≡ groups (suc k) ns
    later rest s =
        ap (λ m. m ∷ groups k (drop 16 (ns ++ 0 ∷ []))) (ap (count_by is_set) (take-append-le 16 ns (0 ∷ []) s))
        ∙ (ap (λ ns'. count_by is_set (take 16 ns) ∷ groups k ns') (drop-append-le 16 ns (0 ∷ []) s)
        ∙ ap (λ ms. count_by is_set (take 16 ns) ∷ ms) rest)

-- an empty group more
pub groups-more : (k : ℕ) (ns : List ℕ) → length ns ≤ 16 * k → groups (suc k) ns ≡ groups k ns ++ 0 ∷ []
groups-more zero ns h = subst (λ ns. groups 1 ns ≡ 0 ∷ []) (sym (nil_from_length ns (omega arith))) refl
groups-more (suc k) ns h = ap (λ ms. count_by is_set (take 16 ns) ∷ ms) (groups-more k (drop 16 ns) (omega (arith, length-drop 16 ns)))

-- ---- what comes first

pub set_true : (n : ℕ) → is_set n ≡ true → 0 < n
set_true n h = grind (arith, nat_tests)

pub set_false : (n : ℕ) → is_set n ≡ false → n ≡ 0
set_false n h = grind (arith, nat_tests)

none_counted : (ns : List ℕ) → count_by is_set ns ≡ 0 → first_position is_set ns ≡ None
none_counted [] h = refl
none_counted (n ∷ ns) h = at (is_set n) (none_counted ns) (omega (arith, h, sum_by-cons (λ n. one_if (is_set n)) n ns))
  where
    at : (t : Bool) → (count_by is_set ns ≡ 0 → first_position is_set ns ≡ None) → one_if t + count_by is_set ns ≡ 0 → cond t (Some 0) (option_map (λ n. n + 1) (first_position is_set ns)) ≡ None
    at true rest c = absurd (omega arith)
    at false rest c = ap (option_map (λ n. n + 1)) (rest (omega arith))

some_counted : (ns : List ℕ) → first_position is_set ns ≡ None → count_by is_set ns ≡ 0
some_counted [] h = refl
some_counted (n ∷ ns) h = sum_by-cons (λ n. one_if (is_set n)) n ns ∙ at (is_set n) (first_position is_set ns) (some_counted ns) h
  where
    at : (t : Bool) (o : Option ℕ) → (o ≡ None → count_by is_set ns ≡ 0) → cond t (Some 0) (option_map (λ n. n + 1) o) ≡ None → one_if t + count_by is_set ns ≡ 0
    at true o rest e = absurd (cc)
    at false None rest e = omega (arith, rest refl)
    at false (Some m) rest e = absurd (cc)

-- the first of that group
abbrev pub in_group : List ℕ → Option ℕ → Option ℕ
in_group ns None = None
in_group ns (Some g) = option_map (λ n. 16 * g + n) (first_position is_set (take 16 (drop (16 * g) ns)))

in_group_later : (ns : List ℕ) (j : ℕ) (o : Option ℕ) → option_map (λ n. 16 * j + n) (in_group (drop (16 * j) ns) o) ≡ in_group ns (option_map (λ g. j + g) o)
in_group_later ns j None = refl
in_group_later ns j (Some g) =
    let sum : 16 * j + 16 * g ≡ 16 * (j + g) = omega arith in
    add_twice (16 * j) (16 * g) (first_position is_set (take 16 (drop (16 * g) (drop (16 * j) ns))))
    ∙ (ap (λ ns'. option_map (λ n. 16 * j + 16 * g + n) (first_position is_set (take 16 ns'))) (drop-drop (16 * g) (16 * j) ns)
    ∙ ap (λ m. option_map (λ n. m + n) (first_position is_set (take 16 (drop m ns)))) sum)

add_one : (o : Option ℕ) → option_map (λ g. 1 + g) o ≡ option_map (λ n. n + 1) o
add_one None = refl
add_one (Some n) = let e : 1 + n ≡ n + 1 = omega arith in ap Some e

first_by_groups : (k : ℕ) (ns : List ℕ) → length ns ≤ 16 * k → first_position is_set ns ≡ in_group ns (first_position is_set (groups k ns))
first_by_groups zero ns h = subst (λ ns. first_position is_set ns ≡ None) (sym (nil_from_length ns (omega arith))) refl
first_by_groups (suc k) ns h = at (is_set (count_by is_set (take 16 ns))) refl (first_by_groups k (drop 16 ns) (omega (arith, length-drop 16 ns)))
  where
    here : (o : Option ℕ) → first_position is_set (take 16 ns) ≡ o → 0 < count_by is_set (take 16 ns) → first_position is_set ns ≡ option_map (λ n. 16 * 0 + n) (first_position is_set (take 16 ns))
    here None f c = absurd (omega (arith, some_counted (take 16 ns) f))
    here (Some n) f c =
        let e : n ≡ 16 * 0 + n = omega arith in
        first_near is_set 16 ns n f ∙ (ap Some e ∙ ap (option_map (λ n. 16 * 0 + n)) (sym f))

    at : (t : Bool) → is_set (count_by is_set (take 16 ns)) ≡ t → first_position is_set (drop 16 ns) ≡ in_group (drop 16 ns) (first_position is_set (groups k (drop 16 ns)))
        → first_position is_set ns ≡ in_group ns (cond t (Some 0) (option_map (λ n. n + 1) (first_position is_set (groups k (drop 16 ns)))))
    at false e rest =
        first_far is_set 16 ns (none_counted (take 16 ns) (set_false _ e))
        ∙ (ap (option_map (λ n. 16 + n)) rest
        ∙ (in_group_later ns 1 (first_position is_set (groups k (drop 16 ns)))
        ∙ ap (in_group ns) (add_one (first_position is_set (groups k (drop 16 ns))))))
    at true e rest = here (first_position is_set (take 16 ns)) refl (set_true _ e)

drop-groups : (g k : ℕ) (ns : List ℕ) → drop g (groups k ns) ≡ groups (k - g) (drop (16 * g) ns)
drop-groups zero k ns = let e : k ≡ k - 0 = omega arith in ap (λ k. groups k ns) e
drop-groups (suc g) zero ns = let e : 0 ≡ 0 - suc g = omega arith in ap (λ k. groups k (drop (16 * suc g) ns)) e
drop-groups (suc g) (suc k) ns =
    let e : k - g ≡ suc k - suc g = omega arith in
    let at : 16 + 16 * g ≡ 16 * suc g = omega arith in
    drop-groups g k (drop 16 ns)
    ∙ (ap (groups (k - g)) (drop-drop (16 * g) 16 ns ∙ ap (λ m. drop m ns) at)
    ∙ ap (λ k. groups k (drop (16 * suc g) ns)) e)

pub position_by_groups : (g k : ℕ) (ns : List ℕ) → length ns ≤ 16 * k → position_from is_set (16 * g) ns ≡ in_group ns (position_from is_set g (groups k ns))
position_by_groups g k ns h =
    ap (option_map (λ n. 16 * g + n)) (first_by_groups (k - g) (drop (16 * g) ns) (omega (arith, length-drop (16 * g) ns)))
    ∙ (in_group_later ns g (first_position is_set (groups (k - g) (drop (16 * g) ns)))
    ∙ ap (λ ms. in_group ns (option_map (λ h. g + h) (first_position is_set ms))) (sym (drop-groups g k ns)))
