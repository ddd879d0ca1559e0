-- The starts of instructions, kept in groups of 16, and one more at their end.
use Rattle.std.proofs.Common.{◌≡◌, ◌≢◌, ℕ, ◌+◌, ◌/◌, ◌%◌, ◌^◌, ◌<◌, ◌≤◌, false, cond, ltb, List, [], ◌∷◌, ◌++◌, length, get_or, Option, Some, refl, sym, ap, ap₂, ◌∙◌, arith, map, slice_get, unwrap_or, lt-ltb, le-ltb}
use Rattle.std.specs.Ordering.{nat_cmp}
use Rattle.std.specs.List.{range_with_len}
use Rattle.std.specs.Map.{lookup}
use Rattle.std.specs.BTreeMap.{get, is_at, Updates, BTreeMap}
use Rattle.std.proofs.lemmas.Bool.Decides.{nat_tests}
use Rattle.std.proofs.lemmas.List.{get_or_append_left, get_or_push, get_or_default, length_push}
use Rattle.std.proofs.lemmas.List.Elements.{All-push}
use Rattle.std.proofs.lemmas.List.FromFn.{length-map-range_with_len, get_or-map-range_with_len, map-range_with_len_more, fill_by_all}
use Rattle.std.proofs.lemmas.Option.{slice_get-get_or}
use Rattle.beam_code.specs.Prelude.{start_at, starts_of, AreGrouped}

pub as_many : (bases offsets : List ℕ) (far : BTreeMap ℕ ℕ) → length (starts_of bases offsets far) ≡ length offsets
unfolding starts_of
as_many bases offsets far = length-map-range_with_len (start_at bases offsets far) 0 (length offsets)

at_each : (bases offsets : List ℕ) (far : BTreeMap ℕ ℕ) (at d : ℕ) → at < length offsets → get_or (starts_of bases offsets far) at d ≡ start_at bases offsets far at
unfolding starts_of
at_each bases offsets far at d lt = get_or-map-range_with_len (start_at bases offsets far) 0 (length offsets) at at d lt (omega arith)

-- ---- where one begins

pub near_start : (bases offsets : List ℕ) (far : BTreeMap ℕ ℕ) (at base offset : ℕ) → at < length offsets → at / 16 < length bases
    → offset ≡ get_or offsets at offset → base ≡ get_or bases (at / 16) base → offset < 255 → start_at bases offsets far at ≡ base + offset
near_start bases offsets far at base offset lt based is of near =
    let o : get_or offsets at 255 ≡ offset = get_or_default offsets at 255 offset lt ∙ sym is in
    let b : get_or bases (at / 16) 0 ≡ base = get_or_default bases (at / 16) 0 base based ∙ sym of in
    ap₂ (λ (x y : ℕ). cond (ltb x 255) (y + x) (unwrap_or (get nat_cmp far at) 0)) o b
    ∙ ap (λ t. cond t (base + offset) (unwrap_or (get nat_cmp far at) 0)) (lt-ltb offset 255 near)

pub far_start : (bases offsets : List ℕ) (far : BTreeMap ℕ ℕ) (at offset : ℕ) → at < length offsets
    → offset ≡ get_or offsets at offset → 255 ≤ offset → start_at bases offsets far at ≡ unwrap_or (get nat_cmp far at) 0
far_start bases offsets far at offset lt is long =
    let o : get_or offsets at 255 ≡ offset = get_or_default offsets at 255 offset lt ∙ sym is in
    ap (λ t. cond t (get_or bases (at / 16) 0 + get_or offsets at 255) (unwrap_or (get nat_cmp far at) 0)) (ap (λ (x : ℕ). ltb x 255) o ∙ le-ltb offset 255 long)

-- the start of a position is its entry in the list
pub stands_in : (bases offsets : List ℕ) (far : BTreeMap ℕ ℕ) (starts : List ℕ) (at start : ℕ) → starts_of bases offsets far ≡ starts → at < length starts
    → start_at bases offsets far at ≡ start → slice_get starts at ≡ Some start
stands_in bases offsets far starts at start are lt is =
    slice_get-get_or starts at 0 lt
    ∙ ap (λ (x : ℕ). Some x) (ap (λ (xs : List ℕ). get_or xs at 0) (sym are) ∙ at_each bases offsets far at 0 (omega (arith, lt, as_many bases offsets far, ap length are)) ∙ is)

-- each start fits in 32 bits
pub fits : (bases offsets : List ℕ) (far : BTreeMap ℕ ℕ) (at start : ℕ) → AreGrouped bases offsets far → at < length offsets → start_at bases offsets far at ≡ start → start < 2 ^ 32
fits bases offsets far at start g lt is =
    let small = g.fit at 0 (omega (arith, as_many bases offsets far)) in
    rw (sym is, ← at_each bases offsets far at 0 lt) small

-- ---- one more at the end

-- the starts of earlier instructions are unchanged
as_before : (bases offsets : List ℕ) (far : BTreeMap ℕ ℕ) (bases' : List ℕ) (far' : BTreeMap ℕ ℕ) (offset at : ℕ) → at < length offsets
    → get_or bases' (at / 16) 0 ≡ get_or bases (at / 16) 0 → get nat_cmp far' at ≡ get nat_cmp far at
    → start_at bases' (offsets ++ offset ∷ []) far' at ≡ start_at bases offsets far at
as_before bases offsets far bases' far' offset at lt base same =
    ap (λ (o : ℕ). cond (ltb o 255) (get_or bases' (at / 16) 0 + o) (unwrap_or (get nat_cmp far' at) 0)) (get_or_append_left offsets (offset ∷ []) 255 at lt)
    ∙ ap₂ (λ (b : ℕ) (f : Option ℕ). cond (ltb (get_or offsets at 255) 255) (b + get_or offsets at 255) (unwrap_or f 0)) base same

-- the starts with one more, kept by these
pub record AreMore (bases offsets : List ℕ) (far : BTreeMap ℕ ℕ) (start : ℕ) (bases' offsets' : List ℕ) (far' : BTreeMap ℕ ℕ) : Type 0 where
  pub starts : starts_of bases' offsets' far' ≡ starts_of bases offsets far ++ start ∷ []
  pub grouped : AreGrouped bases' offsets' far'

one_more : (bases offsets : List ℕ) (far : BTreeMap ℕ ℕ) (start : ℕ) (bases' : List ℕ) (offset : ℕ) (far' : BTreeMap ℕ ℕ) → AreGrouped bases offsets far
    → start < 2 ^ 32
    → length bases' ≡ (length offsets + 16) / 16
    → ((at : ℕ) → at < length offsets → get_or bases' (at / 16) 0 ≡ get_or bases (at / 16) 0)
    → ((at : ℕ) → at < length offsets → get nat_cmp far' at ≡ get nat_cmp far at)
    → start_at bases' (offsets ++ offset ∷ []) far' (length offsets) ≡ start
    → AreMore bases offsets far start bases' (offsets ++ offset ∷ []) far'
unfolding starts_of
one_more bases offsets far start bases' offset far' g small based base same is = record {
  starts = more;
  grouped = record { based = omega (arith, based, length_push offsets offset); fit = rw more (All-push (λ (s : ℕ). s < 2 ^ 32) (starts_of bases offsets far) start g.fit small) };
}
  where
    n : ℕ
    n = length offsets

    now : ℕ → ℕ
    now = start_at bases' (offsets ++ offset ∷ []) far'

    before : starts_of bases offsets far ≡ map now (range_with_len 0 n)
    before = fill_by_all now (starts_of bases offsets far) n 0 (as_many bases offsets far)
        (λ k lt. at_each bases offsets far k 0 lt ∙ sym (as_before bases offsets far bases' far' offset k lt (base k lt) (same k lt)))

    more : starts_of bases' (offsets ++ offset ∷ []) far' ≡ starts_of bases offsets far ++ start ∷ []
    more =
        ap (λ (k : ℕ). map now (range_with_len 0 k)) (length_push offsets offset)
        ∙ map-range_with_len_more now 0 n n (omega arith)
        ∙ ap₂ (λ (xs : List ℕ) (x : ℕ). xs ++ x ∷ []) (sym before) is

-- one more start, the first of a group
pub first_more : (bases offsets : List ℕ) (far : BTreeMap ℕ ℕ) (start : ℕ) → AreGrouped bases offsets far → start < 2 ^ 32 → length offsets % 16 ≡ 0
    → AreMore bases offsets far start (bases ++ start ∷ []) (offsets ++ 0 ∷ []) far
first_more bases offsets far start g small first =
    let last : length bases ≡ length offsets / 16 = omega (arith, g.based, first) in
    one_more bases offsets far start (bases ++ start ∷ []) 0 far g small (omega (arith, last, first, length_push bases start))
    (λ at lt. get_or_append_left bases (start ∷ []) 0 (at / 16) (omega (arith, lt, last, first)))
    (λ at lt. refl)
    (near_start (bases ++ start ∷ []) (offsets ++ 0 ∷ []) far (length offsets) start 0 (omega (arith, length_push offsets 0)) (omega (arith, last, length_push bases start))
    (sym (get_or_push offsets 0 0 (length offsets) refl)) (sym (get_or_push bases start start (length offsets / 16) last)) (omega arith) ∙ omega arith)

-- one more start, near its base
pub near_more : (bases offsets : List ℕ) (far : BTreeMap ℕ ℕ) (start base offset : ℕ) → AreGrouped bases offsets far → start < 2 ^ 32 → length offsets % 16 ≢ 0
    → base ≡ get_or bases (length offsets / 16) base → offset < 255 → base + offset ≡ start
    → AreMore bases offsets far start bases (offsets ++ offset ∷ []) far
near_more bases offsets far start base offset g small later of near is =
    one_more bases offsets far start bases offset far g small (omega (arith, g.based, later)) (λ at lt. refl) (λ at lt. refl)
    (near_start bases (offsets ++ offset ∷ []) far (length offsets) base offset (omega (arith, length_push offsets offset)) (omega (arith, g.based, later))
    (sym (get_or_push offsets offset offset (length offsets) refl)) of near ∙ is)

apart : (n at : ℕ) → at ≢ n → is_at (nat_cmp n) at ≡ false
apart n at ne = grind (arith, nat_tests)

-- one more start, far from its base
pub far_more : (bases offsets : List ℕ) (far far' : BTreeMap ℕ ℕ) (start : ℕ) → AreGrouped bases offsets far → start < 2 ^ 32 → length offsets % 16 ≢ 0
    → Updates nat_cmp far far' (length offsets) (Some start)
    → AreMore bases offsets far start bases (offsets ++ 255 ∷ []) far'
far_more bases offsets far far' start g small later put =
    one_more bases offsets far start bases 255 far' g small (omega (arith, g.based, later)) (λ at lt. refl)
    (λ at lt. put.2 at (apart (length offsets) at (omega arith)))
    (far_start bases (offsets ++ 255 ∷ []) far' (length offsets) 255 (omega (arith, length_push offsets 255)) (sym (get_or_push offsets 255 255 (length offsets) refl)) (omega arith)
    ∙ ap (λ (o : Option ℕ). unwrap_or o 0) put.1)

-- ---- where memory runs out

pub same_entries : (bases offsets : List ℕ) (far far' : BTreeMap ℕ ℕ) → far'.entries ≡ far.entries → starts_of bases offsets far' ≡ starts_of bases offsets far
unfolding starts_of
same_entries bases offsets far far' e =
    ap (λ (es : List (ℕ × ℕ)). map (λ (at : ℕ). cond (ltb (get_or offsets at 255) 255) (get_or bases (at / 16) 0 + get_or offsets at 255) (unwrap_or (lookup (is_at (nat_cmp at)) es) 0)) (range_with_len 0 (length offsets))) e

pub same_grouped : (bases offsets : List ℕ) (far far' : BTreeMap ℕ ℕ) → far'.entries ≡ far.entries → AreGrouped bases offsets far → AreGrouped bases offsets far'
same_grouped bases offsets far far' e g = record { based = g.based; fit = rw (same_entries bases offsets far far' e) g.fit }
