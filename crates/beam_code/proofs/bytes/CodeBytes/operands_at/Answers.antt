use Rattle.std.proofs.Common.{ap, sym, subst, ◌∙◌}
use Rattle.beam_code.specs.Prelude.{AreStarts, read_or_none}
use Rattle.beam_code.proofs.InstructionsAtStarts.{operands_are, not_line}
use Rattle.beam_code.proofs.bytes.CodeBytes.operands_at.Goals as goal

pub invariant_of-result : goal.invariant_of-result
invariant_of-result c =
    let s = subst AreStarts c.self.view_is c.self.invariant.0 in
    let p = operands_are c.args.self.now s c.args.at in
    rw (c.requires.opcode, c.start_within.ensures.value) (p.0, p.1)

pub returns-clause-operands : goal.returns-clause-operands
returns-clause-operands c =
    let s = subst AreStarts c.self.view_is c.self.invariant.0 in
    let p = operands_are c.args.self.now s c.args.at in
    rw (c.requires.opcode, c.start_within.ensures.value) (λ n. ap read_or_none p.1 ∙ sym (not_line _ p.0.0 n) ∙ p.2)
