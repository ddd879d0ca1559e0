use Rattle.std.proofs.Common.{rules, ◌≡◌, ◌++◌, take, drop, sym, ap, ◌∙◌, List, take-append-drop}
use Rattle.beam_model.specs.declared.instruction.Operand.{Operand}
use Rattle.beam_model.specs.Prelude.{listed_operands}
use Rattle.beam_code.proofs.instruction.as_listed.Goals as goal

pub returns-else-eq : goal.returns-else-eq
returns-else-eq c =
    let own : List Operand = drop c.args.from c.args.pool.now.items in
    let same : own ≡ listed_operands c.args.opcode own = search rules in
    sym (take-append-drop c.args.from c.args.pool.now.items) ∙ ap (λ (os : List Operand). take c.args.from c.args.pool.now.items ++ os) same
