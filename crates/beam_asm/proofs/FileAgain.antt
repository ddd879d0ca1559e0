-- The file of a listing spells the listing.
use Rattle.std.proofs.Common.{◌≡◌, ℕ, ◌^◌, ◌<◌, ◌≤◌, Bool, true, false, cond, List, [], ◌∷◌, ◌++◌, length, Option, Some, None, Result, Ok, Err, refl, sym, ap, ◌∙◌, inr, arith, length-append, ◌&&◌, map, fold, slice_get, option_map, codes}
use Rattle.std.specs.Result.{result_ok}
use Rattle.std.specs.List.{list_any, list_all, All}
use Rattle.std.proofs.lemmas.List.Elements.{All-nil, All-cons}
use Rattle.std.proofs.lemmas.Bool.{and_parts}
use Rattle.beam_lemmas.proofs.Options.{chained, mapped}
use Rattle.byteorder.specs.Endian.{big_bytes}
use Rattle.beam_model.specs.declared.function.Function.{Function}
use Rattle.beam_model.specs.declared.instruction.Argument.{Argument}
use Rattle.beam_model.specs.declared.instruction.Operand.{Operand}
use Rattle.beam_model.specs.declared.instruction.Instruction.{Instruction}
use Rattle.beam_model.specs.declared.opcode.Opcode.{Opcode}
use Rattle.beam_model.specs.Prelude.{form_body, form_bytes, form_at, read_again, Tables, TableFault, TableChunks, tables_bytes, tables_at, form_with, required_chunk, found, atom_of_index, IsReadBack, tables_again, CodeParts, code_of, parts_of_form, listing_of_parts, listing_of_form, listing_of_file, Listing, label_by, same_text, kinds_of, Stage, start, first_label, informed, body, body_label, next_stage, after_first_label, within_body, after_body_label, function_at, functions_from, functions_of, are_functions_lawful, all_operands, is_within, are_labels_lawful, are_heads_lawful, are_exports_lawful, are_natives_known, are_limits_met, IsLoadable, Numbering, noted, with_term, with_argument, with_operand, with_instruction, numbering_of, code_bytes, tables_with, file_with, file_of, HasFile, without_line_number, without_line_numbers, are_few_atoms, are_short_atoms, Form}
use Rattle.beam_term.specs.Prelude.{TermValue, int_term, atom_term, reference_term, pid_term, nil_term, pair_term, tuple_term}
use Rattle.beam_model.specs.declared.instruction.Argument.TheVariants as argument
use Rattle.beam_model.specs.declared.instruction.Operand.TheVariants as operand
use Rattle.beam_model.specs.declared.opcode.Opcode.TheVariants as op
use Rattle.beam_model.specs.CodeChunk.{is_end}
use Rattle.beam_model.specs.Assembly.{code_parts}
use Rattle.beam_check.specs.declared.error.CheckError.{CheckError}
use Rattle.beam_check.specs.declared.error.CheckError.TheVariants as checks
use Rattle.beam_asm.specs.declared.error.AsmError.TheVariants.{Check}
use Rattle.beam_asm.specs.Refusals.{Fails, Refuses}
use Rattle.beam_code.proofs.RoundTrip.{IsWritable, code_again}

-- ---- the first atom

abbrev HasFirst : List ℕ → Numbering → Type 0
HasFirst name n = slice_get n.atoms 0 ≡ Some name

first_kept : (name : List ℕ) (atoms : List (List ℕ)) (text : List ℕ) → slice_get atoms 0 ≡ Some name → slice_get (noted same_text atoms text) 0 ≡ Some name
first_kept name [] text e = absurd cc
first_kept name (a ∷ atoms) text e = by (list_any (same_text text) (a ∷ atoms))
  where
    by : (b : Bool) → slice_get (cond b (a ∷ atoms) ((a ∷ atoms) ++ text ∷ [])) 0 ≡ Some name
    by true = e
    by false = e

term_keeps : (name : List ℕ) (n : Numbering) (t : TermValue) → HasFirst name n → HasFirst name (with_term n t)
term_keeps name n (atom_term text) e = first_kept name n.atoms text e
term_keeps name n (int_term z) e = e
term_keeps name n nil_term e = e
term_keeps name n (reference_term node creation words) e = e
term_keeps name n (pid_term node id serial creation) e = e
term_keeps name n (pair_term head tail) e = e
term_keeps name n (tuple_term items) e = e

argument_keeps : (name : List ℕ) (n : Numbering) (a : Argument) → HasFirst name n → HasFirst name (with_argument n a)
argument_keeps name n (argument.Term t) e = term_keeps name n t e
argument_keeps name n _ e = e

arguments_keep : (name : List ℕ) (as' : List Argument) (n : Numbering) → HasFirst name n → HasFirst name (fold with_argument n as')
arguments_keep name [] n e = e
arguments_keep name (a ∷ as') n e = arguments_keep name as' (with_argument n a) (argument_keeps name n a e)

operand_keeps : (name : List ℕ) (n : Numbering) (o : Operand) → HasFirst name n → HasFirst name (with_operand n o)
operand_keeps name n (operand.One a) e = argument_keeps name n a e
operand_keeps name n (operand.Import i) e = first_kept name (noted same_text n.atoms i.«module») i.function (first_kept name n.atoms i.«module» e)
operand_keeps name n (operand.List as') e = arguments_keep name as' n e

operands_keep : (name : List ℕ) (os : List Operand) (n : Numbering) → HasFirst name n → HasFirst name (fold with_operand n os)
operands_keep name [] n e = e
operands_keep name (o ∷ os) n e = operands_keep name os (with_operand n o) (operand_keeps name n o e)

instructions_keep : (name : List ℕ) (is : List Instruction) (n : Numbering) → HasFirst name n → HasFirst name (fold with_instruction n is)
instructions_keep name [] n e = e
instructions_keep name (i ∷ is) n e = instructions_keep name is (with_instruction n i) (operands_keep name i.operands n e)

first_atom : (l : Listing) → HasFirst l.name (numbering_of l)
first_atom l = instructions_keep l.name l.instructions (record { atoms = l.name ∷ []; imports = []; literals = [] }) refl

name_again : (l : Listing) → atom_of_index (numbering_of l).atoms 1 ≡ Ok l.name
unfolding atom_of_index
name_again l = ap found (first_atom l)

-- ---- instructions of a loadable listing

label_is_no_end : {X : Type 0} (o : Opcode) (os : List Operand) (x : X) (s : X) → option_map (λ n. x) (label_by o os) ≡ Some s → is_end o ≡ false
label_is_no_end op.IntCodeEnd os x s e = absurd cc
label_is_no_end _ os x s e = refl

first_is_no_end : (name : List ℕ) (o : Opcode) (os : List Operand) (s : Stage) → after_first_label name o os ≡ Some s → is_end o ≡ false
first_is_no_end name op.IntCodeEnd os s e = absurd cc
first_is_no_end name _ os s e = refl

body_is_no_end : (o : Opcode) (s : Stage) → within_body o ≡ Some s → is_end o ≡ false
body_is_no_end op.IntCodeEnd s e = absurd cc
body_is_no_end _ s e = refl

body_label_is_no_end : (name : List ℕ) (o : Opcode) (os : List Operand) (s : Stage) → after_body_label name o os ≡ Some s → is_end o ≡ false
body_label_is_no_end name op.IntCodeEnd os s e = absurd cc
body_label_is_no_end name _ os s e = refl

is_no_end : (name : List ℕ) (stage : Stage) (i : Instruction) (s : Stage) → next_stage name stage i ≡ Some s → is_end i.opcode ≡ false
is_no_end name start i s e = label_is_no_end i.opcode i.operands first_label s e
is_no_end name first_label i s e = first_is_no_end name i.opcode i.operands s e
is_no_end name (informed f a) i s e = label_is_no_end i.opcode i.operands body s e
is_no_end name body i s e = body_is_no_end i.opcode s e
is_no_end name body_label i s e = body_label_is_no_end name i.opcode i.operands s e

none_left : {A B : Type 0} (f : A → B) (o : Option A) (y : B) → option_map f o ≡ Some y → (x : A) × (o ≡ Some x)
none_left f (Some x) y e = (x, refl)
none_left f None y e = absurd cc

abbrev pub kinds_kept : Instruction → Bool
kinds_kept i = all_operands is_within (kinds_of i.opcode) i.operands

all_writable : (name : List ℕ) (is : List Instruction) (stage : Stage) (fs : List Function) → functions_from name stage is ≡ Some fs → list_all kinds_kept is ≡ true → All IsWritable is
all_writable name [] stage fs e k = All-nil IsWritable
all_writable name (i ∷ is) stage fs e k =
    let s = chained (λ next. option_map (λ gs. function_at stage i ++ gs) (functions_from name next is)) (next_stage name stage i) fs e in
    let t = none_left (λ gs. function_at stage i ++ gs) (functions_from name s.0 is) fs s.2 in
    let w = and_parts (kinds_kept i) (list_all kinds_kept is) k in
    All-cons IsWritable i is (is_no_end name stage i s.0 s.1, w.0) (all_writable name is s.0 t.0 t.1 w.1)

has_functions : (count : ℕ) (o : Option (List Function)) → are_functions_lawful count o ≡ true → (fs : List Function) × (o ≡ Some fs)
has_functions count (Some fs) e = (fs, refl)
has_functions count None e = absurd cc

pub heads_and_limits : (a b c d f : Bool) → (a && b && c && d && f) ≡ true → (b ≡ true) × (f ≡ true)
heads_and_limits true true true true true e = (refl, refl)
heads_and_limits false b c d f e = absurd cc
heads_and_limits true false c d f e = absurd cc
heads_and_limits true true false d f e = absurd cc
heads_and_limits true true true false f e = absurd cc
heads_and_limits true true true true false e = absurd cc

writable : (l : Listing) → IsLoadable l → All IsWritable l.instructions
writable l e =
    let p = heads_and_limits (are_labels_lawful l) (are_heads_lawful l) (are_exports_lawful l) (are_natives_known l) (are_limits_met l) e.0 in
    let fs = has_functions l.function_count (functions_of l) p.0 in
    all_writable l.name l.instructions start fs.0 fs.1 p.1

-- ---- the file

-- a form, its tables and its code give the listing
spelled_by : (bytes : List ℕ) (form : Form) (t : Tables) (code name : List ℕ) (parts : CodeParts) → form_at bytes ≡ Ok form → tables_at form ≡ Ok t → form.code ≡ Some code
    → atom_of_index t.atoms 1 ≡ Ok name → code_of t.atoms t.imports t.literals code ≡ Ok parts
    → listing_of_file bytes ≡ Ok (record { name = name; exports = t.exports; label_count = parts.label_count; function_count = parts.function_count; instructions = parts.instructions })
unfolding listing_of_file listing_of_form parts_of_form listing_of_parts required_chunk
spelled_by bytes form t code name parts formed tables there named read = rw (formed, tables, there, named, read) refl

abbrev fine : TableChunks → Result TableChunks TableFault
fine c = Ok c

result_is : (r : Result TableChunks TableFault) (chunks : TableChunks) → result_ok r ≡ Some chunks → r ≡ Ok chunks
result_is (Ok c) chunks e = let same : c ≡ chunks = cc in ap fine same
result_is (Err f) chunks e = absurd cc

-- the chunks and the code of a file
pub record HasParts (n : Numbering) (l : Listing) (bytes : List ℕ) : Type 0 where
  pub chunks : TableChunks
  pub code : List ℕ
  pub tables : tables_bytes (tables_with n l.exports) ≡ Ok chunks
  pub coded : code_bytes n (code_parts l) ≡ Some code
  pub formed : form_bytes (form_with chunks code) ≡ bytes

pub has_parts : (n : Numbering) (l : Listing) (bytes : List ℕ) → file_with n l ≡ Some bytes → HasParts n l bytes
unfolding file_with
has_parts n l bytes made =
    let c = chained (λ chunks. option_map (λ code. form_bytes (form_with chunks code)) (code_bytes n (code_parts l))) (result_ok (tables_bytes (tables_with n l.exports))) bytes made in
    let d = mapped (λ code. form_bytes (form_with c.0 code)) (code_bytes n (code_parts l)) bytes c.2 in
    record { chunks = c.0; code = d.0; tables = result_is (tables_bytes (tables_with n l.exports)) c.0 c.1; coded = d.1; formed = d.2 }

body_fits : (form : Form) (bytes : List ℕ) → form_bytes form ≡ bytes → length bytes ≤ 8388608 → length (form_body form) < 2 ^ 32
body_fits form bytes is small = omega (arith, length-append (codes "FOR1" ++ big_bytes 4 (length (form_body form))) (form_body form), ap length is)

pub file_again : (l : Listing) (bytes : List ℕ) → IsLoadable l → All IsReadBack (numbering_of l).literals → HasFile l bytes → listing_of_file bytes ≡ Ok (without_line_numbers l)
file_again l bytes loads back has =
    let n = numbering_of l in
    let p = has_parts n l bytes has.0 in
    let form = form_with p.chunks p.code in
    let formed : form_at bytes ≡ Ok form = ap form_at (sym p.formed) ∙ read_again form (body_fits form bytes p.formed has.1) in
    let tables : tables_at form ≡ Ok (tables_with n l.exports) = tables_again (tables_with n l.exports) p.chunks p.code back p.tables in
    let read = code_again n (code_parts l) p.code (writable l loads) p.coded in
    spelled_by bytes form (tables_with n l.exports) p.code l.name (record (code_parts l) { instructions = map without_line_number l.instructions }) formed tables refl (name_again l) read

no_file : (l : Listing) (n : Numbering) → n ≡ numbering_of l → file_with n l ≡ None → (bytes : List ℕ) → HasFile l bytes → ⊥
no_file l n is h bytes has = let none : file_of l ≡ None = ap (λ (m : Numbering). file_with m l) (sym is) ∙ h in absurd (differ none has.0)
  where
    differ : {o : Option (List ℕ)} {b : List ℕ} → o ≡ None → o ≡ Some b → ⊥
    differ e f = cc

-- a file that can't be written is too large
pub refused_file : (e : CheckError) (l : Listing) (n : Numbering) → n ≡ numbering_of l → Fails e (file_with n l) → IsLoadable l
    → are_few_atoms l ≡ true → are_short_atoms l ≡ true → Refuses (Check e) l
refused_file checks.NoMemory l n is h loads few short = tt
refused_file checks.LimitExceeded l n is h loads few short = inr (record { loadable = loads; few = few; short = short; none = no_file l n is h })
refused_file _ l n is h loads few short = absurd h
