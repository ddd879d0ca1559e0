-- In a listing that a file spells, each line has the operand 0.
use Rattle.std.proofs.Common.{◌≡◌, ℕ, zero, suc, ◌+◌, Bool, true, false, cond, List, [], ◌∷◌, length, Result, Ok, refl, ap, subst, ◌∙◌, inl, inr, ◌⊎◌, map}
use Rattle.std.specs.List.{All}
use Rattle.beam_lemmas.proofs.Steps.{bind_ok}
use Rattle.beam_model.specs.declared.function.Import.{Import}
use Rattle.beam_model.specs.declared.instruction.Operand.{Operand}
use Rattle.beam_model.specs.declared.instruction.Instruction.{Instruction}
use Rattle.beam_model.specs.declared.opcode.Opcode.{Opcode}
use Rattle.beam_model.specs.Prelude.{form_at, atom_of_index, CodeParts, CodeFault, listed_operands, opcode_at, operands_at, instruction_after_opcode, instructions_at, word_at, expected_at, code_of, kinds_of, FileFault, form_fault, table_fault, code_fault, in_layer, Parts, parts_of_form, listing_of_parts, listing_of_form, listing_of_file, Listing, IsLoadable, numbering_of, HasFile, without_line_number, without_line_numbers}
use Rattle.beam_term.specs.Prelude.{TermValue, IsTerm}
use Rattle.beam_model.specs.CodeChunk.{is_end}
use Rattle.beam_model.specs.File.{◌>>=◌}
use Rattle.beam_etf.proofs.RoundTrip.{written_back}
use Rattle.beam_code.proofs.RoundTrip.{listed_once}
use Rattle.beam_disasm.proofs.Files.{layer_is}
use Rattle.beam_asm.proofs.FileAgain.{file_again}

abbrev done : {A F : Type 0} → A → Result A F
done x = Ok x

ok_is : {A F : Type 0} (x y : A) → done {F = F} x ≡ done y → x ≡ y
ok_is x y e = cc

ends_or_not : (b : Bool) (r : Result (List Instruction) CodeFault) (is : List Instruction) → cond b (Ok []) r ≡ Ok is → ([] ≡ is) ⊎ (r ≡ Ok is)
ends_or_not true r is e = inl (ok_is [] is e)
ends_or_not false r is e = inr e

abbrev listed_instruction : Opcode → List Operand → Instruction
listed_instruction o os = record { opcode = o; operands = listed_operands o os }

one_canonical : (atoms : List (List ℕ)) (imports : List Import) (literals : List TermValue) (code : List ℕ) (o : Opcode) (at : ℕ) (x : Instruction × ℕ)
    → instruction_after_opcode atoms imports literals code o at ≡ Ok x → without_line_number x.0 ≡ x.0
unfolding instruction_after_opcode
one_canonical atoms imports literals code o at x e =
    let b = bind_ok (operands_at atoms imports literals code (kinds_of o) at) (λ os. done (listed_instruction o os.0, os.1)) x e in
    let is : (listed_instruction o b.0.0, b.0.1) ≡ x = ok_is (listed_instruction o b.0.0, b.0.1) x b.2 in
    let once : without_line_number (listed_instruction o b.0.0) ≡ listed_instruction o b.0.0 = ap (λ (os : List Operand). made o os) (listed_once o b.0.0) in
    subst (λ (y : Instruction × ℕ). without_line_number y.0 ≡ y.0) is once
  where
    made : Opcode → List Operand → Instruction
    made o os = record { opcode = o; operands = os }

all_canonical : (atoms : List (List ℕ)) (imports : List Import) (literals : List TermValue) (code : List ℕ) (limit at : ℕ) (is : List Instruction)
    → instructions_at atoms imports literals code limit at ≡ Ok is → map without_line_number is ≡ is
unfolding instructions_at
all_canonical atoms imports literals code zero at is e = absurd cc
all_canonical atoms imports literals code (suc limit) at is e =
    let o = bind_ok (opcode_at code at) (λ opcode. cond (is_end opcode) (Ok []) (instruction_after_opcode atoms imports literals code opcode (at + 1) >>= λ first. instructions_at atoms imports literals code limit first.1 >>= λ others. done (first.0 ∷ others))) is e in
    by (λ next others read. all_canonical atoms imports literals code limit next others read) o.0 (ends_or_not (is_end o.0) (instruction_after_opcode atoms imports literals code o.0 (at + 1) >>= λ first. instructions_at atoms imports literals code limit first.1 >>= λ others. done (first.0 ∷ others)) is o.2)
  where
    by : ((next : ℕ) (others : List Instruction) → instructions_at atoms imports literals code limit next ≡ Ok others → map without_line_number others ≡ others) → (opcode : Opcode) → ([] ≡ is) ⊎ ((instruction_after_opcode atoms imports literals code opcode (at + 1) >>= λ first. instructions_at atoms imports literals code limit first.1 >>= λ others. done (first.0 ∷ others)) ≡ Ok is) → map without_line_number is ≡ is
    by again opcode (inl none) = subst (λ (xs : List Instruction). map without_line_number xs ≡ xs) none refl
    by again opcode (inr more) =
        let f = bind_ok (instruction_after_opcode atoms imports literals code opcode (at + 1)) (λ first. instructions_at atoms imports literals code limit first.1 >>= λ others. done (first.0 ∷ others)) is more in
        let r = bind_ok (instructions_at atoms imports literals code limit f.0.1) (λ others. done (f.0.0 ∷ others)) is f.2 in
        let first = one_canonical atoms imports literals code opcode (at + 1) f.0 f.1 in
        let others = again f.0.1 r.0 r.1 in
        subst (λ (xs : List Instruction). map without_line_number xs ≡ xs) (ok_is (f.0.0 ∷ r.0) is r.2) (λ k. first k ∷ others k)

abbrev parts_done : ℕ → ℕ → List Instruction → Result CodeParts CodeFault
parts_done labels functions is = Ok (record { label_count = labels; function_count = functions; instructions = is })

code_canonical : (atoms : List (List ℕ)) (imports : List Import) (literals : List TermValue) (code : List ℕ) (p : CodeParts) → code_of atoms imports literals code ≡ Ok p → map without_line_number p.instructions ≡ p.instructions
unfolding code_of
code_canonical atoms imports literals code p e =
    let is = instructions_at atoms imports literals code (length code) 20 in
    let s = bind_ok (expected_at code 0 16) (λ size. expected_at code 4 0 >>= λ format. word_at code 8 >>= λ greatest. word_at code 12 >>= λ labels. word_at code 16 >>= λ functions. is >>= λ xs. parts_done labels functions xs) p e in
    let f = bind_ok (expected_at code 4 0) (λ format. word_at code 8 >>= λ greatest. word_at code 12 >>= λ labels. word_at code 16 >>= λ functions. is >>= λ xs. parts_done labels functions xs) p s.2 in
    let g = bind_ok (word_at code 8) (λ greatest. word_at code 12 >>= λ labels. word_at code 16 >>= λ functions. is >>= λ xs. parts_done labels functions xs) p f.2 in
    let l = bind_ok (word_at code 12) (λ labels. word_at code 16 >>= λ functions. is >>= λ xs. parts_done labels functions xs) p g.2 in
    let n = bind_ok (word_at code 16) (λ functions. is >>= λ xs. parts_done l.0 functions xs) p l.2 in
    let i = bind_ok is (λ xs. parts_done l.0 n.0 xs) p n.2 in
    let made : record { label_count = l.0; function_count = n.0; instructions = i.0 } ≡ p = ok_is {F = CodeFault} (record { label_count = l.0; function_count = n.0; instructions = i.0 }) p i.2 in
    subst (λ (q : CodeParts). map without_line_number q.instructions ≡ q.instructions) made (all_canonical atoms imports literals code (length code) 20 i.0 i.1)

abbrev listing_done : Parts → List ℕ → CodeParts → Result Listing FileFault
listing_done p name code = Ok (record { name = name; exports = p.tables.exports; label_count = code.label_count; function_count = code.function_count; instructions = code.instructions })

parts_canonical : (p : Parts) (l : Listing) → listing_of_parts p ≡ Ok l → without_line_numbers l ≡ l
unfolding listing_of_parts
parts_canonical p l e =
    let read = in_layer code_fault (code_of p.tables.atoms p.tables.imports p.tables.literals p.code) in
    let a = bind_ok (in_layer table_fault (atom_of_index p.tables.atoms 1)) (λ name. read >>= λ code. listing_done p name code) l e in
    let c = bind_ok read (λ code. listing_done p a.0 code) l a.2 in
    let made = listing_of p a.0 c.0 in
    let same : map without_line_number c.0.instructions ≡ c.0.instructions =
    code_canonical p.tables.atoms p.tables.imports p.tables.literals p.code c.0 (layer_is code_fault (code_of p.tables.atoms p.tables.imports p.tables.literals p.code) c.0 c.1) in
    let once : without_line_numbers made ≡ made = ap (λ (is : List Instruction). with made is) same in
    subst (λ (m : Listing). without_line_numbers m ≡ m) (ok_is {F = FileFault} made l c.2) once
  where
    listing_of : Parts → List ℕ → CodeParts → Listing
    listing_of p name code = record { name = name; exports = p.tables.exports; label_count = code.label_count; function_count = code.function_count; instructions = code.instructions }

    with : Listing → List Instruction → Listing
    with m is = record m { instructions = is }

pub file_canonical : (bytes : List ℕ) (l : Listing) → listing_of_file bytes ≡ Ok l → without_line_numbers l ≡ l
unfolding listing_of_file listing_of_form
file_canonical bytes l e =
    let f = bind_ok (in_layer form_fault (form_at bytes)) listing_of_form l e in
    let p = bind_ok (parts_of_form f.0) listing_of_parts l f.2 in
    parts_canonical p.0 l p.2

pub assembled : (l : Listing) (bytes : List ℕ) → IsLoadable l → All IsTerm (numbering_of l).literals → HasFile l bytes → listing_of_file bytes ≡ Ok (without_line_numbers l)
assembled l bytes loads lawful has = file_again l bytes loads (λ k d lt. written_back _ (lawful k d lt)) has

pub reassembled : (file bytes : List ℕ) (l : Listing) → listing_of_file file ≡ Ok l → IsLoadable l → All IsTerm (numbering_of l).literals → HasFile l bytes → listing_of_file bytes ≡ Ok l
reassembled file bytes l e loads lawful has = assembled l bytes loads lawful has ∙ ap (λ (m : Listing). done m) (file_canonical file l e)
