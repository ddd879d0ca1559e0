-- The row that a spot names, position by position.
use Rattle.std.proofs.Common.{◌≡◌, ℕ, zero, suc, ◌+◌, ◌-◌, ◌≤◌, ◌<◌, ◌≢◌, true, false, nat_lt, cond, List, [], ◌∷◌, length, drop, refl, sym, ap, subst, ◌∙◌, arith, Option, Some, None, slice_get, unwrap_or, option_map, option_and_then}
use Rattle.std.proofs.lemmas.Bool.Decides.{nat_tests}
use Rattle.std.proofs.lemmas.Option.{slice_get_within}
use Rattle.beam_lemmas.proofs.Tests.{itself}
use Rattle.beam_machine.specs.declared.debug.Version.{Version}
use Rattle.beam_machine.specs.declared.debug.Version.TheVariants.{Current, Old}
use Rattle.beam_machine.specs.Prelude.{Code, Instance, versions_of, listing_of, listing_in, rows_after, instance_of_version, Versions}
use Rattle.beam_model.specs.declared.instruction.Instruction.{Instruction}
use Rattle.beam_model.specs.Prelude.{end_of_code, instruction_at, Listing, is_this_number, label_of, row_of_label, next_row, gap_before_row, next_at, Place, same_text}
use Rattle.beam_laws.specs.Prelude.{bears, how_many}
use Rattle.beam_laws.proofs.Kinship.{bears_own}
use Rattle.beam_codesrv.proofs.Homes.{missed}

-- ---- the instance of a number

listed_own : (o : Option Instance) (i : Instance) (rest : Option Listing) → o ≡ Some i → listing_in o i.number rest ≡ Some i.listing
listed_own o i rest e = ap (λ o. listing_in o i.number rest) e ∙ ap (λ b. cond b (Some i.listing) rest) (itself i.number)

version_bears : (v : Version) (vs : Versions) (i : Instance) → instance_of_version v vs ≡ Some i → 1 ≤ bears i.number vs.current + bears i.number vs.old
version_bears Current vs i e = omega (arith, bears_own i vs.current e)
version_bears Old vs i e = omega (arith, bears_own i vs.old e)

borne : (v : Version) (code : Code) (name : List ℕ) (i : Instance) → instance_of_version v (versions_of code name) ≡ Some i → 1 ≤ how_many i.number code
borne v [] name i = λ e. none v e
  where
    none : (v : Version) → instance_of_version v (record { name = name; current = None; old = None }) ≡ Some i → 1 ≤ 0
    none Current e = cc
    none Old e = cc
borne v (vs ∷ rest) name i = elim (same_text vs.name name) as (λ b. instance_of_version v (cond b vs (versions_of rest name)) ≡ Some i → 1 ≤ how_many i.number (vs ∷ rest)) [
  | true ↦ λ e. omega (arith, version_bears v vs i e)
  | false ↦ λ e. omega (arith, borne v rest name i e)
]

here : (v : Version) (vs : Versions) (i : Instance) (rest : Option Listing) → bears i.number vs.current + bears i.number vs.old ≤ 1 → instance_of_version v vs ≡ Some i
    → listing_in vs.current i.number (listing_in vs.old i.number rest) ≡ Some i.listing
here Current vs i rest once e = listed_own vs.current i (listing_in vs.old i.number rest) e
here Old vs i rest once e =
    missed i.number vs.current (listing_in vs.old i.number rest) (omega (arith, once, bears_own i vs.old e)) ∙ listed_own vs.old i rest e

-- the listing of a module's instance is found by the instance's number
pub listing_of_version : (v : Version) (code : Code) (name : List ℕ) (i : Instance) → how_many i.number code ≤ 1 → instance_of_version v (versions_of code name) ≡ Some i → listing_of code i.number ≡ Some i.listing
listing_of_version v [] name i once = λ e. none v e
  where
    none : (v : Version) → instance_of_version v (record { name = name; current = None; old = None }) ≡ Some i → None ≡ Some i.listing
    none Current e = cc
    none Old e = cc
listing_of_version v (vs ∷ rest) name i once = elim (same_text vs.name name) as (λ b. instance_of_version v (cond b vs (versions_of rest name)) ≡ Some i → listing_of (vs ∷ rest) i.number ≡ Some i.listing) [
  | true ↦ λ e. here v vs i (listing_of rest i.number) (omega (arith, once)) e
  | false ↦ λ e.
      let there : 1 ≤ how_many i.number rest = borne v rest name i e in
      missed i.number vs.current (listing_in vs.old i.number (listing_of rest i.number)) (omega (arith, once, there))
      ∙ (missed i.number vs.old (listing_of rest i.number) (omega (arith, once, there)) ∙ listing_of_version v rest name i (omega (arith, once, there)) e)
]

-- a place that is found in a module's instance is found by the instance's number
pub found_by_number : (v : Version) (code : Code) (name : List ℕ) (n : ℕ) (f : Instance → Option Place) → how_many n code ≤ 1
    → option_map (λ i. i.number) (instance_of_version v (versions_of code name)) ≡ Some n
    → option_and_then f (instance_of_version v (versions_of code name)) ≡ option_and_then (λ l. f (record { number = n; listing = l })) (listing_of code n)
found_by_number v code name n f once e = go (instance_of_version v (versions_of code name)) refl e
  where
    some_is : (a b : ℕ) → Some a ≡ Some b → a ≡ b
    some_is a b e = cc

    go : (o : Option Instance) → instance_of_version v (versions_of code name) ≡ o → option_map (λ i. i.number) o ≡ Some n
        → option_and_then f o ≡ option_and_then (λ l. f (record { number = n; listing = l })) (listing_of code n)
    go None is e = cc
    go (Some i) is e =
        let same : i.number ≡ n = some_is i.number n e in
        let once_here : how_many i.number code ≤ 1 = subst (λ k. how_many k code ≤ 1) (sym same) once in
        subst (λ k. f i ≡ option_and_then (λ l. f (record { number = k; listing = l })) (listing_of code k)) same
        (ap (option_and_then (λ l. f (record { number = i.number; listing = l }))) (sym (listing_of_version v code name i once_here is)))

-- ---- positions

at_position : (xs : List Instruction) (at : ℕ) (i : Instruction) → slice_get xs at ≡ Some i → drop at xs ≡ i ∷ drop (at + 1) xs
at_position [] at i = λ e. cc
at_position (x ∷ xs) zero i = λ e. ap (λ (y : Instruction). y ∷ xs) (inner x i e)
  where
    inner : (a b : Instruction) → Some a ≡ Some b → a ≡ b
    inner a b e = cc
at_position (x ∷ xs) (suc at) i = λ e.
    let same : suc (at + 1) ≡ suc at + 1 = omega arith in
    at_position xs at i e ∙ ap (λ n. i ∷ drop n (x ∷ xs)) same

past_end : (xs : List Instruction) (at : ℕ) → slice_get xs at ≡ None → drop at xs ≡ []
past_end [] zero = λ e. refl
past_end [] (suc at) = λ e. refl
past_end (x ∷ xs) zero = λ e. cc
past_end (x ∷ xs) (suc at) = λ e. past_end xs at e

is_within : (xs : List Instruction) (at : ℕ) (i : Instruction) → slice_get xs at ≡ Some i → nat_lt at (length xs) ≡ true
is_within xs at i e =
    let less : at < length xs = slice_get_within xs at i e in
    grind (arith, nat_tests)

is_past : (xs : List Instruction) (at : ℕ) → slice_get xs at ≡ None → nat_lt at (length xs) ≡ false
is_past [] at = λ e. grind (arith, nat_tests)
is_past (x ∷ xs) zero = λ e. cc
is_past (x ∷ xs) (suc at) = λ e.
    let rest : nat_lt at (length xs) ≡ false = is_past xs at e in
    grind (arith, nat_tests)

-- a row stands at a position of the listing, and the next row after it
pub step_there : (l : Listing) (at next : ℕ) → next_at l at ≡ Some next → (i : Instruction) × (slice_get l.instructions at ≡ Some i) × (next ≡ next_row at l.instructions)
step_there l at next e = go (slice_get l.instructions at) refl e
  where
    next_is : (a b : ℕ) → Some a ≡ Some b → b ≡ a
    next_is a b e = cc

    go : (o : Option Instruction) → slice_get l.instructions at ≡ o → option_map (λ i. next_row at l.instructions) o ≡ Some next
        → (i : Instruction) × (slice_get l.instructions at ≡ Some i) × (next ≡ next_row at l.instructions)
    go None is e = cc
    go (Some i) is e = (i, is, next_is (next_row at l.instructions) next e)

-- no row is after the end of a listing
pub step_past : (l : Listing) (at : ℕ) → next_at l at ≡ None → slice_get l.instructions at ≡ None
step_past l at e = go (slice_get l.instructions at) e
  where
    go : (o : Option Instruction) → option_map (λ i. next_row at l.instructions) o ≡ None → o ≡ None
    go None e = refl
    go (Some i) e = cc

-- ---- the first row after a label

found_at : (l : Listing) (label at : ℕ) (i : Instruction) → slice_get l.instructions at ≡ Some i
    → row_of_label label at (drop at l.instructions)
    ≡ cond {A = Option ℕ} (is_this_number label (label_of (instruction_at l at))) (Some (next_row at l.instructions)) (row_of_label label (at + 1) (drop (at + 1) l.instructions))
found_at l label at i e =
    ap (row_of_label label at) (at_position l.instructions at i e)
    ∙ ap (λ (j : Instruction). cond {A = Option ℕ} (is_this_number label (label_of j)) (Some (next_row at l.instructions)) (row_of_label label (at + 1) (drop (at + 1) l.instructions)))
    (sym (ap (λ o. unwrap_or o end_of_code) e))

pub label_here : (l : Listing) (label at next : ℕ) → next_at l at ≡ Some next → is_this_number label (label_of (instruction_at l at)) ≡ true
    → row_of_label label at (drop at l.instructions) ≡ Some next
label_here l label at next e h =
    let s = step_there l at next e in
    found_at l label at s.0 s.1
    ∙ (ap (λ b. cond {A = Option ℕ} b (Some (next_row at l.instructions)) (row_of_label label (at + 1) (drop (at + 1) l.instructions))) h
    ∙ ap (λ (n : ℕ). Some n) (sym s.2))

pub label_later : (l : Listing) (label at next : ℕ) → next_at l at ≡ Some next → is_this_number label (label_of (instruction_at l at)) ≡ false
    → row_of_label label at (drop at l.instructions) ≡ row_of_label label (at + 1) (drop (at + 1) l.instructions)
label_later l label at next e h =
    let s = step_there l at next e in
    found_at l label at s.0 s.1
    ∙ ap (λ b. cond {A = Option ℕ} b (Some (next_row at l.instructions)) (row_of_label label (at + 1) (drop (at + 1) l.instructions))) h

pub label_nowhere : (l : Listing) (label at : ℕ) → next_at l at ≡ None → row_of_label label at (drop at l.instructions) ≡ None
label_nowhere l label at e = ap (row_of_label label at) (past_end l.instructions at (step_past l at e))

-- the position after a row fits a machine word
pub next_above : (l : Listing) (at next : ℕ) → next_at l at ≡ Some next → at + 1 ≤ next
next_above l at next e =
    let s = step_there l at next e in
    let is : next ≡ at + 1 + gap_before_row (drop (at + 1) l.instructions) = s.2 in
    omega (arith, is)

pub at_within : (l : Listing) (at next : ℕ) → next_at l at ≡ Some next → at < length l.instructions
at_within l at next e = let s = step_there l at next e in slice_get_within l.instructions at s.0 s.1

-- ---- rows after a position

pub rows_here : (l : Listing) (at next : ℕ) → next_at l at ≡ Some next → rows_after 0 at l.instructions ≡ Some at
rows_here l at next e =
    let s = step_there l at next e in
    ap (λ b. cond {A = Option ℕ} b (Some at) None) (is_within l.instructions at s.0 s.1)

pub rows_later : (l : Listing) (at n next : ℕ) → next_at l at ≡ Some next → n ≢ 0 → rows_after n at l.instructions ≡ rows_after (n - 1) next l.instructions
rows_later l at zero next e h = absurd (h refl)
rows_later l at (suc n) next e h =
    let s = step_there l at next e in
    let less : suc n - 1 ≡ n = omega arith in
    ap (λ b. cond {A = Option ℕ} b (rows_after n (next_row at l.instructions) l.instructions) None) (is_within l.instructions at s.0 s.1)
    ∙ (ap (λ k. rows_after n k l.instructions) (sym s.2) ∙ ap (λ k. rows_after k next l.instructions) (sym less))

pub rows_nowhere : (l : Listing) (at n : ℕ) → next_at l at ≡ None → rows_after n at l.instructions ≡ None
rows_nowhere l at zero e = ap (λ b. cond {A = Option ℕ} b (Some at) None) (is_past l.instructions at (step_past l at e))
rows_nowhere l at (suc n) e = ap (λ b. cond {A = Option ℕ} b (rows_after n (next_row at l.instructions) l.instructions) None) (is_past l.instructions at (step_past l at e))
