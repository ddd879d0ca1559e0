-- Trees that hold equal tags have one number.
use Rattle.std.proofs.Common.{◌≡◌, ◌≢◌, ℕ, zero, suc, ◌-◌, ◌≤◌, List, [], ◌∷◌, ◌++◌, length, take, drop, Option, Some, None, ap, sym, ◌∙◌, ⊎_elim, arith, slice_get, unwrap_or}
use Rattle.std.proofs.Math.Seq.{drop-append_seam, take-append_seam}
use Rattle.std.proofs.lemmas.Bool.{cases_eq}
use Rattle.beam_shapes.specs.declared.trees.Halves.{Halves}
use Rattle.beam_shapes.specs.Prelude.{Parts, no_halves, part_of, halves_of, tags_of, IsTree, IsTidy, IsAbsent, AreDistinct}
use Rattle.beam_shapes.proofs.Grown.{tags_long}
use Rattle.beam_shapes.proofs.Firsts.{part_there}

pred_same : (m n : ℕ) → m ≢ 0 → n ≢ 0 → m - 1 ≡ n - 1 → m ≡ n
pred_same m n a b e = omega (arith, a, b, e)

head_same : (x y : Option ℕ) → x ∷ [] ≡ y ∷ [] → x ≡ y
head_same x y e = cc

-- a label's number
same_part : (xs : List ℕ) (m n : ℕ) → AreDistinct xs → m ≤ length xs → n ≤ length xs → part_of xs m ≡ part_of xs n → m ≡ n
same_part xs m n apart few_m few_n e =
    ⊎_elim
    (λ (zm : m ≡ 0).
    ⊎_elim
    (λ (zn : n ≡ 0). zm ∙ sym zn)
    (λ (sn : n ≢ 0).
    let t = part_there xs n sn few_n in
    let none : part_of xs m ≡ None = ap (part_of xs) zm in
    let wrong : None ≡ Some t.0 = sym none ∙ (e ∙ t.1) in absurd (cc wrong))
    (cases_eq n 0))
    (λ (sm : m ≢ 0).
    let s = part_there xs m sm few_m in
    ⊎_elim
    (λ (zn : n ≡ 0).
    let none : part_of xs n ≡ None = ap (part_of xs) zn in
    let wrong : None ≡ Some s.0 = sym none ∙ (sym e ∙ s.1) in absurd (cc wrong))
    (λ (sn : n ≢ 0).
    let t = part_there xs n sn few_n in
    let one : Some t.0 ≡ Some s.0 = sym t.1 ∙ (sym e ∙ s.1) in
    pred_same m n sm sn (apart (m - 1) (n - 1) s.0 s.2 (t.2 ∙ one)))
    (cases_eq n 0))
    (cases_eq m 0)

-- a number of halves
halves_at : (hs : List Halves) (n : ℕ) → n ≢ 0 → n ≤ length hs → slice_get hs (n - 1) ≡ Some (halves_of hs n)
halves_at hs n some few =
    let t = part_there hs n some few in
    let is : halves_of hs n ≡ t.0 = ap (λ (o : Option Halves). unwrap_or o no_halves) t.1 in
    t.2 ∙ ap (λ (h : Halves). Some h) (sym is)

same_halves : (hs : List Halves) (m n : ℕ) → AreDistinct hs → IsAbsent no_halves hs → m ≤ length hs → n ≤ length hs → halves_of hs m ≡ halves_of hs n → m ≡ n
same_halves hs m n apart absent few_m few_n e =
    ⊎_elim
    (λ (zm : m ≡ 0).
    let none : halves_of hs m ≡ no_halves = ap (halves_of hs) zm in
    ⊎_elim
    (λ (zn : n ≡ 0). zm ∙ sym zn)
    (λ (sn : n ≢ 0). absurd (absent (n - 1) (halves_at hs n sn few_n ∙ ap (λ (h : Halves). Some h) (sym e ∙ none))))
    (cases_eq n 0))
    (λ (sm : m ≢ 0).
    ⊎_elim
    (λ (zn : n ≡ 0).
    let none : halves_of hs n ≡ no_halves = ap (halves_of hs) zn in absurd (absent (m - 1) (halves_at hs m sm few_m ∙ ap (λ (h : Halves). Some h) (e ∙ none))))
    (λ (sn : n ≢ 0).
    pred_same m n sm sn (apart (m - 1) (n - 1) (halves_of hs m) (halves_at hs m sm few_m) (halves_at hs n sn few_n ∙ ap (λ (h : Halves). Some h) (sym e))))
    (cases_eq n 0))
    (cases_eq m 0)

append_left : {X : Type 0} (a b c d : List X) → length a ≡ length c → a ++ b ≡ c ++ d → a ≡ c
append_left a b c d long e =
    sym (take-append_seam a b) ∙ (ap (take (length a)) e ∙ (ap (λ n. take n (c ++ d)) long ∙ take-append_seam c d))

append_right : {X : Type 0} (a b c d : List X) → length a ≡ length c → a ++ b ≡ c ++ d → b ≡ d
append_right a b c d long e =
    sym (drop-append_seam a b) ∙ (ap (drop (length a)) e ∙ (ap (λ n. drop n (c ++ d)) long ∙ drop-append_seam c d))

pub same_tree : (p : Parts) (h m n : ℕ) → IsTidy p → IsTree p h m → IsTree p h n → tags_of p h m ≡ tags_of p h n → m ≡ n
unfolding tags_of IsTree
same_tree p zero m n tidy one other e = same_part p.labels m n tidy.0 one other (head_same (part_of p.labels m) (part_of p.labels n) e)
same_tree p (suc h) m n tidy one other e =
    let a = halves_of p.halves m in let b = halves_of p.halves n in
    let long : length (tags_of p h a.left) ≡ length (tags_of p h b.left) = tags_long p h a.left ∙ sym (tags_long p h b.left) in
    let l = same_tree p h a.left b.left tidy one.1 other.1 (append_left (tags_of p h a.left) (tags_of p h a.right) (tags_of p h b.left) (tags_of p h b.right) long e) in
    let r = same_tree p h a.right b.right tidy one.2 other.2 (append_right (tags_of p h a.left) (tags_of p h a.right) (tags_of p h b.left) (tags_of p h b.right) long e) in
    same_halves p.halves m n tidy.1 tidy.2 one.0 other.0 (ap (λ k. record { left = k; right = a.right }) l ∙ ap (λ k. record { left = b.left; right = k }) r)
