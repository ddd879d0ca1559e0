-- y registers that stand in a tree from a place on.
use Rattle.std.proofs.Common.{◌≡◌, ℕ, zero, suc, ◌+◌, ◌-◌, ◌<◌, ◌≤◌, ◌==◌, Bool, true, false, if◌then◌else◌, List, [], ◌∷◌, ◌++◌, length, get_or, set, take, drop, replicate, map, Option, Some, None, refl, ap, sym, ◌∙◌, subst, arith, slice_get, nat_lt, IsTrue, ◌↔◌, nat_eq, option_map, eq-eqb, ne_eqb, le-ltb, length-drop, take-append-drop, get_or-drop}
use Rattle.std.specs.Cmp.Lexicographic.{pointwise}
use Rattle.std.specs.Option.{option_eq}
use Rattle.std.proofs.lemmas.Bool.{false_from_ne_true}
use Rattle.std.proofs.lemmas.List.{drop-set-add, take-set-le, set_past, drop-replicate, take-replicate}
use Rattle.std.proofs.lemmas.Option.{slice_get-get_or, slice_get_past}
use Rattle.beam_model.specs.Prelude.{first_in, is_there, is_value, is_value_in}
use Rattle.beam_model.specs.Framed as book
use Rattle.beam_shapes.specs.Prelude.{shown_effect, shown_registers, shown, AreRegisters, IsShape, IsKnown, Parts, tags_of, IsTree, Grows}
use Rattle.beam_shapes.specs.declared.row.Effect.{Effect}
use Rattle.beam_shapes.specs.declared.row.Effect.TheVariants as effect
use Rattle.beam_shapes.specs.declared.shape.YRegisters.{YRegisters}
use Rattle.beam_shapes.specs.declared.shape.Shape.{Shape}
use Rattle.beam_shapes.specs.declared.shape.Shape.TheVariants as shape
use Rattle.beam_shapes.proofs.Grown.{tags_long, tags_none, tree_none, tags_stay, tree_stays}
use Rattle.beam_shapes.proofs.Lower.{tags_decide}

pub long : (p : Parts) (r : YRegisters) → length (shown_registers p r) ≡ 1024 - r.from
long p r =
    let a = length-drop r.from (tags_of p 10 r.tags) in
    let b : length (tags_of p 10 r.tags) ≡ 1024 = tags_long p 10 r.tags in omega (arith, a, b)

pub none_new : (p : Parts) (count : ℕ) → count ≤ 1024 → AreRegisters p (record { from = 1024 - count; tags = 0 })
none_new p count few =
    let n : tags_of p 10 0 ≡ replicate 1024 None = tags_none p 10 in
    let within : 1024 - count ≤ 1024 = omega arith in
    (within, tree_none p 10, ap (take (1024 - count)) n ∙ take-replicate (1024 - count) 1024 None within)

pub shown_new : (p : Parts) (count : ℕ) → count ≤ 1024 → shown_registers p (record { from = 1024 - count; tags = 0 }) ≡ replicate count None
shown_new p count few =
    let n : tags_of p 10 0 ≡ replicate 1024 None = tags_none p 10 in
    let e : 1024 - (1024 - count) ≡ count = omega (arith, few) in
    ap (drop (1024 - count)) n ∙ (drop-replicate (1024 - count) 1024 None ∙ ap (λ k. replicate k None) e)

pub tag_is : (p : Parts) (r : YRegisters) (n : ℕ) (t : Option ℕ) → r.from + n < 1024 → t ≡ get_or (tags_of p 10 r.tags) (r.from + n) None → slice_get (shown_registers p r) n ≡ Some t
tag_is p r n t within e =
    let l = long p r in
    slice_get-get_or (shown_registers p r) n None (omega (arith, l, within)) ∙ ap (λ (o : Option ℕ). Some o) (get_or-drop r.from (tags_of p 10 r.tags) n None ∙ sym e)

first_past : (n : ℕ) (y : List (Option ℕ)) → first_in (replicate n None ++ y) ≡ first_in y
first_past zero y = refl
first_past (suc n) y = first_past n y

pub split : (p : Parts) (r : YRegisters) → AreRegisters p r → tags_of p 10 r.tags ≡ replicate r.from None ++ shown_registers p r
split p r are = sym (take-append-drop r.from (tags_of p 10 r.tags)) ∙ ap (λ ts. ts ++ shown_registers p r) are.2

pub first_is : (p : Parts) (r : YRegisters) → AreRegisters p r → first_in (tags_of p 10 r.tags) ≡ first_in (shown_registers p r)
first_is p r are = ap first_in (split p r are) ∙ first_past r.from (shown_registers p r)

-- one register is written
pub put_shown : (old new : Parts) (r : YRegisters) (tags n : ℕ) (t : Option ℕ) → tags_of new 10 tags ≡ set (tags_of old 10 r.tags) (r.from + n) t
    → shown_registers new (record { from = r.from; tags = tags }) ≡ set (shown_registers old r) n t
put_shown old new r tags n t e = ap (drop r.from) e ∙ drop-set-add r.from (tags_of old 10 r.tags) n t

pub put_past : (p : Parts) (r : YRegisters) (n : ℕ) (t : Option ℕ) → 1024 - r.from ≤ n → shown_registers p r ≡ set (shown_registers p r) n t
put_past p r n t past = let l = long p r in sym (set_past (shown_registers p r) n t (omega (arith, l, past)))

pub put_are : (old new : Parts) (r : YRegisters) (tags n : ℕ) (t : Option ℕ) → AreRegisters old r → IsTree new 10 tags → tags_of new 10 tags ≡ set (tags_of old 10 r.tags) (r.from + n) t
    → AreRegisters new (record { from = r.from; tags = tags })
put_are old new r tags n t are tree e =
    (are.0, tree, ap (take r.from) e ∙ (take-set-le r.from (tags_of old 10 r.tags) (r.from + n) t (omega arith) ∙ are.2))

-- registers stay as they are while parts are added
pub registers_stay : (old new : Parts) → Grows old new → (r : YRegisters) → AreRegisters old r → AreRegisters new r × (shown_registers new r ≡ shown_registers old r)
registers_stay old new grown r are =
    let s = tags_stay old new grown 10 r.tags are.1 in
    ((are.0, tree_stays old new grown 10 r.tags are.1, ap (take r.from) s ∙ are.2), ap (drop r.from) s)

-- ---- a shape's registers

pub there_is : (p : Parts) (s : Shape) (r : YRegisters) (n k : ℕ) → s ≡ shape.Sized r → k ≡ 1024 - r.from → nat_lt n k ≡ is_there (shown p s) n
there_is p s r n k is count = ap (nat_lt n) (count ∙ sym (long p r)) ∙ ap (λ (t : Shape). is_there (shown p t) n) (sym is)

pub value_past : (p : Parts) (s : Shape) (r : YRegisters) (n k : ℕ) → s ≡ shape.Sized r → k ≡ 1024 - r.from → k ≤ n → nat_lt n k ≡ is_value (shown p s) n
value_past p s r n k is count past =
    let l = long p r in
    let none : slice_get (shown_registers p r) n ≡ None = slice_get_past (shown_registers p r) n (omega (arith, l, count, past)) in
    le-ltb n k past ∙ sym (ap (λ (t : Shape). is_value (shown p t) n) is ∙ ap is_value_in none)

module _ (p : Parts) (e : Effect) (s : Shape) (r : YRegisters) (k : ℕ) (is : s ≡ shape.Sized r) (count : k ≡ 1024 - r.from) where
  drops_is : (n : ℕ) (b : Bool) → e ≡ effect.Drops n → (k == n) ≡ b → (if b then Some book.bare else None) ≡ book.after_effect (shown_effect e) (shown p s)
  drops_is n b what test =
      ap (λ (c : Bool). if c then Some book.bare else None) (sym test ∙ ap (λ m. m == n) (count ∙ sym (long p r)))
      ∙ sym (ap (λ (f : Effect). book.after_effect (shown_effect f) (shown p s)) what ∙ ap (λ (t : Shape). book.after_effect (book.drops n) (shown p t)) is)

  pub drops : (n : ℕ) → e ≡ effect.Drops n → k ≡ n → Some book.bare ≡ book.after_effect (shown_effect e) (shown p s)
  drops n what same = drops_is n true what (eq-eqb k n same)

  pub drops_not : (n : ℕ) → e ≡ effect.Drops n → (k ≡ n → ⊥) → None ≡ book.after_effect (shown_effect e) (shown p s)
  drops_not n what other = drops_is n false what (ne_eqb k n other)

  trims_is : (m n : ℕ) (b : Bool) → e ≡ effect.Trims m n → (k == m + n) ≡ b
      → (if b then Some (book.sized (drop m (shown_registers p r))) else None) ≡ book.after_effect (shown_effect e) (shown p s)
  trims_is m n b what test =
      ap (λ (c : Bool). if c then Some (book.sized (drop m (shown_registers p r))) else None) (sym test ∙ ap (λ j. j == m + n) (count ∙ sym (long p r)))
      ∙ sym (ap (λ (f : Effect). book.after_effect (shown_effect f) (shown p s)) what ∙ ap (λ (t : Shape). book.after_effect (book.trims m n) (shown p t)) is)

  pub trims : (m n : ℕ) (y : List (Option ℕ)) → e ≡ effect.Trims m n → m ≤ k → n ≡ k - m → y ≡ drop m (shown_registers p r) → Some (book.sized y) ≡ book.after_effect (shown_effect e) (shown p s)
  trims m n y what few rest y_is =
      ap (λ (ts : List (Option ℕ)). Some (book.sized ts)) y_is ∙ trims_is m n true what (eq-eqb k (m + n) (omega (arith, few, rest)))

  pub trims_not : (m n : ℕ) → e ≡ effect.Trims m n → (k ≡ m + n → ⊥) → None ≡ book.after_effect (shown_effect e) (shown p s)
  trims_not m n what other = trims_is m n false what (ne_eqb k (m + n) other)

-- ---- equal registers

tests_same : (b c : Bool) → (IsTrue b → c ≡ true) → (c ≡ true → IsTrue b) → b ≡ c
tests_same true true f g = refl
tests_same true false f g = sym (f refl)
tests_same false true f g = g refl
tests_same false false f g = refl

pub same_shown : (p : Parts) (r s : YRegisters) (b : Bool) → AreRegisters p r → AreRegisters p s → r.from ≡ s.from → (IsTrue b ↔ (tags_of p 10 r.tags ≡ tags_of p 10 s.tags))
    → b ≡ pointwise (option_eq nat_eq) (shown_registers p r) (shown_registers p s)
same_shown p r s b one other from is =
    let d = tags_decide (shown_registers p r) (shown_registers p s) in
    tests_same b (pointwise (option_eq nat_eq) (shown_registers p r) (shown_registers p s))
    (λ t. d.1 (ap (drop r.from) (is.0 t) ∙ ap (λ n. drop n (tags_of p 10 s.tags)) from))
    (λ e. is.1 (split p r one ∙ (ap (λ ys. replicate r.from None ++ ys) (d.0 e) ∙ (ap (λ n. replicate n None ++ shown_registers p s) from ∙ sym (split p s other)))))

pub other_shown : (p : Parts) (r s : YRegisters) (b : Bool) → AreRegisters p r → AreRegisters p s → (r.from ≡ s.from → ⊥) → b ≡ false → b ≡ pointwise (option_eq nat_eq) (shown_registers p r) (shown_registers p s)
other_shown p r s b one other from fails =
    let d = tags_decide (shown_registers p r) (shown_registers p s) in
    fails ∙ sym (false_from_ne_true (pointwise (option_eq nat_eq) (shown_registers p r) (shown_registers p s))
    (λ e. let l = long p r in let m = long p s in let k = ap length (d.0 e) in let f = one.0 in let g = other.0 in from (omega (arith, l, m, k, f, g))))

-- ---- shapes

-- a shape stays as it is while parts are added
pub shape_stays : (old new : Parts) → Grows old new → (s : Shape) → IsShape old s → IsShape new s × (shown new s ≡ shown old s)
shape_stays old new grown shape.Bare is = (tt, refl)
shape_stays old new grown (shape.Sized r) is =
    let stays = registers_stay old new grown r is in (stays.0, ap (λ (ts : List (Option ℕ)). book.sized ts) stays.1)
shape_stays old new grown shape.Any is = (tt, refl)

pub known_stays : (old new : Parts) → Grows old new → (o : Option Shape) → IsKnown old o → IsKnown new o × (option_map (shown new) o ≡ option_map (shown old) o)
known_stays old new grown None is = (tt, refl)
known_stays old new grown (Some s) is =
    let stays = shape_stays old new grown s is in (stays.0, ap (λ (t : book.Shape). Some t) stays.1)

pub all_stay : (old new : Parts) → Grows old new → (shapes : List (Option Shape)) → ((at : ℕ) → IsKnown old (get_or shapes at None))
    → ((at : ℕ) → IsKnown new (get_or shapes at None)) × (map (option_map (shown new)) shapes ≡ map (option_map (shown old)) shapes)
all_stay old new grown [] are = (λ at. tt, refl)
all_stay old new grown (o ∷ rest) are =
    let first = known_stays old new grown o (are 0) in
    let others = all_stay old new grown rest (λ at. are (suc at)) in
    (each first.0 others.0, ap (λ (k : Option book.Shape). k ∷ map (option_map (shown new)) rest) first.1 ∙ ap (λ (ks : List (Option book.Shape)). option_map (shown old) o ∷ ks) others.1)
  where
    each : IsKnown new o → ((at : ℕ) → IsKnown new (get_or rest at None)) → (at : ℕ) → IsKnown new (get_or (o ∷ rest) at None)
    each f g zero = f
    each f g (suc at) = g at

-- nothing is known at any place
pub none_known : (p : Parts) (shapes : List (Option Shape)) (n : ℕ) → shapes ≡ replicate n None → map (option_map (shown p)) shapes ≡ replicate n None
none_known p shapes n e = ap (map (option_map (shown p))) e ∙ nones n where
  nones : (k : ℕ) → map (option_map (shown p)) (replicate k None) ≡ replicate k None
  nones zero = refl
  nones (suc k) = ap (λ (ks : List (Option book.Shape)). None ∷ ks) (nones k)

pub none_are : (p : Parts) (shapes : List (Option Shape)) (n : ℕ) → shapes ≡ replicate n None → (at : ℕ) → IsKnown p (get_or shapes at None)
none_are p shapes n e at = subst (λ (ks : List (Option Shape)). IsKnown p (get_or ks at None)) (sym e) (nones n at) where
  nones : (k i : ℕ) → IsKnown p (get_or (replicate k None) i None)
  nones zero i = tt
  nones (suc k) zero = tt
  nones (suc k) (suc i) = nones k i

-- registers are written one after another
pub put_more : (t : Option ℕ) (n : ℕ) (ns : List ℕ) (s : book.Shape) → book.put_all t ns (book.put_all t (n ∷ []) s) ≡ book.put_all t (n ∷ ns) s
put_more t n ns book.bare = refl
put_more t n ns (book.sized y) = refl
put_more t n ns book.any = refl
