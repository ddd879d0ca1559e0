use Rattle.std.proofs.Common.{Ok, sym, ap, ◌∙◌}
use Rattle.std.proofs.lemmas.Result.{err_from_is_err_and}
use Rattle.beam_model.specs.declared.instruction.Instruction.{Instruction}
use Rattle.beam_code.specs.Prelude.{tables_of}
use Rattle.beam_code.proofs.Shared.{instruction_of, made_alone, standing_is}
use Rattle.beam_code.proofs.instruction.standing.Goals as goal

pub returns : goal.returns
returns c =
    let head = c.in_ok-head.head in
    let new = c.instruction.new.pool.items in
    let put = rw c.new-pool.ensures.items at c.in_ok-head.ensures.put in
    let made = made_alone new head put ∙ ap (instruction_of head.opcode) (sym c.in_ok-operands.ensures) in
    standing_is (tables_of c.args.atoms.now c.args.imports.now c.args.literals.now) c.args.code.now c.args.at c.in_ok-opcode.opcode c.in_ok-opcode.ensures.exact
    ∙ c.in_ok-head.ensures.exact ∙ ap (λ (i : Instruction). Ok (i, c.in_ok-head.next)) made

pub returns-in_err-head : goal.returns-in_err-head
returns-in_err-head c =
    let p = err_from_is_err_and c.from_residual-in_err-head.result c.from_residual-in_err-head.ensures.1 in
    rw (p.1, p.2, standing_is (tables_of c.args.atoms.now c.args.imports.now c.args.literals.now) c.args.code.now c.args.at c.in_ok-opcode.opcode c.in_ok-opcode.ensures.exact)
    c.in_err-head.ensures.exact
