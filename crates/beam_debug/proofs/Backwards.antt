-- The instructions before a position of a listing, searched from the position backwards.
use Rattle.std.proofs.Common.{◌≡◌, ℕ, zero, suc, ◌+◌, Bool, true, false, cond, List, [], ◌∷◌, ◌++◌, take, refl, ap, ◌∙◌, arith, Option, Some, None, is_some, option_and_then, slice_get}
use Rattle.beam_machine.specs.Prelude.{LastLabel, location_in, function_of, last_function, later, last_label, label_or_row}
use Rattle.beam_model.specs.declared.function.Import.{Import}
use Rattle.beam_model.specs.declared.instruction.Instruction.{Instruction}
use Rattle.beam_model.specs.Prelude.{label_of, is_row, Place}
use Rattle.beam_debug.specs.declared.label_or_rows.LabelOrRows.{LabelOrRows}
use Rattle.beam_debug.specs.declared.label_or_rows.LabelOrRows.TheVariants.{Label, Rows}
use Rattle.beam_debug.specs.Prelude.{label_or_rows_at, label_or_rows_by}

-- the list of an element, if there is one
abbrev one_of : Option Instruction → List Instruction
one_of (Some i) = i ∷ []
one_of None = []

take_suc : (at : ℕ) (code : List Instruction) → take (suc at) code ≡ take at code ++ one_of (slice_get code at)
take_suc zero [] = refl
take_suc (suc at) [] = refl
take_suc zero (i ∷ rest) = refl
take_suc (suc at) (i ∷ rest) = ap (λ l. i ∷ l) (take_suc at rest)

take_one : (at : ℕ) (code : List Instruction) → take (at + 1) code ≡ take at code ++ one_of (slice_get code at)
take_one at code =
    let more : at + 1 ≡ suc at = omega arith in
    ap (λ n. take n code) more ∙ take_suc at code

-- ---- the last function

functions_after : (found : Option Import) (xs ys : List Instruction) → last_function found (xs ++ ys) ≡ last_function (last_function found xs) ys
functions_after found [] ys = refl
functions_after found (i ∷ rest) ys = functions_after (later (function_of i) found) rest ys

one_function : (found : Option Import) (o : Option Instruction) → last_function found (one_of o) ≡ later (option_and_then function_of o) found
one_function found None = refl
one_function found (Some i) = refl

pub function_before : (at : ℕ) (code : List Instruction) → last_function None (take (at + 1) code) ≡ later (option_and_then function_of (slice_get code at)) (last_function None (take at code))
function_before at code =
    ap (last_function None) (take_one at code)
    ∙ (functions_after None (take at code) (one_of (slice_get code at)) ∙ one_function (last_function None (take at code)) (slice_get code at))

-- ---- the last label

-- the state of the search before the first instruction
abbrev pub none_passed : LastLabel
none_passed = record { label = 0; rows = 0 }

-- the state of the search after n more rows
abbrev pub with_rows : ℕ → LastLabel → LastLabel
with_rows n p = record p { rows = p.rows + n }

abbrev pub passed_by : LabelOrRows → LastLabel → LastLabel
passed_by (Label n) p = record { label = n; rows = 0 }
passed_by (Rows n) p = record p { rows = p.rows + n }

labels_after : (found : LastLabel) (xs ys : List Instruction) → last_label found (xs ++ ys) ≡ last_label (last_label found xs) ys
labels_after found [] ys = refl
labels_after found (i ∷ rest) ys = labels_after (label_or_row (label_of i) i found) rest ys

no_rows_more : (found : LastLabel) → found ≡ passed_by (Rows 0) found
no_rows_more found = let same : found.rows ≡ found.rows + 0 = omega arith in ap (λ (k : ℕ). record found { rows = k }) same

by_row : (found : LastLabel) (b : Bool) → cond {A = LastLabel} b (record found { rows = found.rows + 1 }) found ≡ passed_by (cond {A = LabelOrRows} b (Rows 1) (Rows 0)) found
by_row found true = refl
by_row found false = no_rows_more found

by_label : (found : LastLabel) (i : Instruction) (o : Option ℕ) → label_or_row o i found ≡ passed_by (label_or_rows_by i o) found
by_label found i (Some n) = refl
by_label found i None = by_row found (is_row i)

one_label : (found : LastLabel) (o : Option Instruction) → last_label found (one_of o) ≡ passed_by (label_or_rows_at o) found
one_label found None = no_rows_more found
one_label found (Some i) = by_label found i (label_of i)

pub label_before : (found : LastLabel) (at : ℕ) (code : List Instruction) → last_label found (take (at + 1) code) ≡ passed_by (label_or_rows_at (slice_get code at)) (last_label found (take at code))
label_before found at code =
    ap (last_label found) (take_one at code)
    ∙ (labels_after found (take at code) (one_of (slice_get code at)) ∙ one_label (last_label found (take at code)) (slice_get code at))

-- the instruction at the position is a label
pub label_found : (rows left n : ℕ) (code : List Instruction) → label_or_rows_at (slice_get code left) ≡ Label n
    → with_rows rows (last_label none_passed (take (left + 1) code)) ≡ record { label = n; rows = rows }
label_found rows left n code e =
    let none : 0 + rows ≡ rows = omega arith in
    ap (with_rows rows) (label_before none_passed left code ∙ ap (λ (x : LabelOrRows). passed_by x (last_label none_passed (take left code))) e)
    ∙ ap (λ (k : ℕ). record { label = n; rows = k }) none

-- the instruction at the position is a row, or neither a row nor a label
pub rows_found : (rows left n : ℕ) (code : List Instruction) → label_or_rows_at (slice_get code left) ≡ Rows n
    → with_rows rows (last_label none_passed (take (left + 1) code)) ≡ with_rows (rows + n) (last_label none_passed (take left code))
rows_found rows left n code e =
    let p : LastLabel = last_label none_passed (take left code) in
    let more : (p.rows + n) + rows ≡ p.rows + (rows + n) = omega arith in
    ap (with_rows rows) (label_before none_passed left code ∙ ap (λ (x : LabelOrRows). passed_by x p) e)
    ∙ ap (λ (k : ℕ). record p { rows = k }) more

take_none : (code : List Instruction) → take 0 code ≡ []
take_none [] = refl
take_none (i ∷ rest) = refl

-- no instruction is before the position
pub none_left : (rows left : ℕ) (code : List Instruction) → left ≡ 0 → with_rows rows (last_label none_passed (take left code)) ≡ record { label = 0; rows = rows }
none_left rows left code e =
    let none : 0 + rows ≡ rows = omega arith in
    ap (λ (k : ℕ). with_rows rows (last_label none_passed (take k code))) e
    ∙ (ap (λ l. with_rows rows (last_label none_passed l)) (take_none code) ∙ ap (λ (k : ℕ). record { label = 0; rows = k }) none)

later_some : (o rest : Option Import) → is_some o ≡ true → later o rest ≡ o
later_some (Some f) rest e = refl
later_some None rest e = cc

later_none : (o rest : Option Import) → is_some o ≡ false → later o rest ≡ rest
later_none (Some f) rest e = cc
later_none None rest e = refl

-- the last function up to a position is that of its instruction, or the last before it
at_head : (at : ℕ) (code : List Instruction) (o : Option Import) → option_and_then function_of (slice_get code at) ≡ o
    → last_function None (take (at + 1) code) ≡ later o (last_function None (take at code))
at_head at code o e = function_before at code ∙ ap (λ o. later o (last_function None (take at code))) e

-- the instruction at the position is the head of a function
pub function_here : (at : ℕ) (code : List Instruction) (o : Option Import) → option_and_then function_of (slice_get code at) ≡ o → is_some o ≡ true
    → last_function None (take (at + 1) code) ≡ o
function_here at code o e some = at_head at code o e ∙ later_some o (last_function None (take at code)) some

-- the instruction at the position isn't the head of a function
pub no_function_here : (at : ℕ) (code : List Instruction) (o : Option Import) → option_and_then function_of (slice_get code at) ≡ o → is_some o ≡ false
    → last_function None (take (at + 1) code) ≡ last_function None (take at code)
no_function_here at code o e none = at_head at code o e ∙ later_none o (last_function None (take at code)) none

pub no_function_left : (at : ℕ) (code : List Instruction) → at ≡ 0 → last_function None (take at code) ≡ None
no_function_left at code e = ap (λ k. last_function None (take k code)) e ∙ ap (last_function None) (take_none code)

take_nowhere : (at : ℕ) → take {A = Instruction} at [] ≡ []
take_nowhere zero = refl
take_nowhere (suc at) = refl

-- an instance that is not there
pub standing_nowhere : (place : Place) → location_in place [] ≡ record { function = None; label = 0; rows = 0; instance = place.instance }
standing_nowhere place =
    ap (λ (l : List Instruction). record { function = last_function None l; label = (last_label none_passed (take place.at [])).label; rows = (last_label none_passed (take place.at [])).rows; instance = place.instance }) (take_nowhere (place.at + 1))
    ∙ ap (λ (l : List Instruction). record { function = None; label = (last_label none_passed l).label; rows = (last_label none_passed l).rows; instance = place.instance }) (take_nowhere place.at)
