use Rattle.std.proofs.Common.{◌≡◌, ◌∙◌, ap, ℕ, List, [], ◌∷◌, ◌++◌}
use Rattle.beam_lemmas.proofs.AnyError.{on_err}
use Rattle.beam_model.specs.declared.instruction.Argument.{Argument}
use Rattle.beam_model.specs.declared.instruction.Operand.{Operand}
use Rattle.beam_model.specs.Prelude.{arguments_text, operands_text, plain_text, atom_text}
use Rattle.beam_model.specs.declared.instruction.Operand.TheVariants as operand
use Rattle.beam_print.proofs.Begun.{begun_longer, between, closed, not_begun, stopped}
use Rattle.beam_print.proofs.Listed.{listed_is}
use Rattle.beam_print.proofs.instruction_text.write_listed.Goals as goal

-- the text after the members
abbrev after : List ℕ
after = 93 ∷ 125 ∷ 125 ∷ []

-- the text of the instruction, in the pieces in which it is written
pieces : (old start name : List ℕ) (os : List Operand) (members : List Argument)
    → start ≡ old ++ (123 ∷ (name ++ operands_text (44 ∷ []) os ++ 44 ∷ 123 ∷ 108 ∷ 105 ∷ 115 ∷ 116 ∷ 44 ∷ 91 ∷ []))
    → old ++ plain_text name (os ++ operand.List members ∷ []) ≡ (start ++ arguments_text [] members) ++ after
pieces old start name os members is =
    let before : List ℕ = 123 ∷ (name ++ operands_text (44 ∷ []) os ++ 44 ∷ 123 ∷ 108 ∷ 105 ∷ 115 ∷ 116 ∷ 44 ∷ 91 ∷ []) in
    ap (λ (t : List ℕ). old ++ t) (listed_is name os members) ∙ between old start before (arguments_text [] members) after is

pub returns-in_err-print_before_members-clause-begun : goal.returns-in_err-print_before_members-clause-begun
returns-in_err-print_before_members-clause-begun g c = not_begun _ _ _

pub returns-in_err-write_members-clause-begun : goal.returns-in_err-write_members-clause-begun
returns-in_err-write_members-clause-begun g c =
    let start : List ℕ = c.print_before_members.new.out.items in
    let middle : List ℕ = arguments_text [] c.args.members.now in
    on_err _ _ (begun_longer _ _ (start ++ middle) after _ c.in_err-write_members.ensures.begun
    (pieces c.args.waiting.now.items start (atom_text c.args.name.now) c.args.operands.now c.args.members.now c.in_ok-print_before_members.ensures))

pub returns-in_err-extend_from_slice-clause-begun : goal.returns-in_err-extend_from_slice-clause-begun
returns-in_err-extend_from_slice-clause-begun g c =
    let start : List ℕ = c.print_before_members.new.out.items in
    let middle : List ℕ = arguments_text [] c.args.members.now in
    on_err _ _ (stopped _ _ (start ++ middle) c.write_members.new.waiting.items after _ c.in_ok-write_members.ensures.written
    (pieces c.args.waiting.now.items start (atom_text c.args.name.now) c.args.operands.now c.args.members.now c.in_ok-print_before_members.ensures))

pub returns-clause-written : goal.returns-clause-written
returns-clause-written g c =
    let start : List ℕ = c.print_before_members.new.out.items in
    let middle : List ℕ = arguments_text [] c.args.members.now in
    closed _ _ (start ++ middle) c.write_members.new.waiting.items after _ _ c.in_ok-write_members.ensures.written
    (pieces c.args.waiting.now.items start (atom_text c.args.name.now) c.args.operands.now c.args.members.now c.in_ok-print_before_members.ensures)
    c.in_ok-extend_from_slice.ensures.items
