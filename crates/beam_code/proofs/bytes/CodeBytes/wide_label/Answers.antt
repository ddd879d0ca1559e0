use Rattle.std.proofs.Common.{lit<, arith, sym, ap, ℕ, ◌+◌, Some, subst, ◌<◌, ◌^◌, ◌∙◌}
use Rattle.beam_model.specs.declared.instruction.Argument.TheVariants as argument
use Rattle.beam_model.specs.declared.compact.CompactTag.TheVariants as tag
use Rattle.beam_code.proofs.Lent.{lendable}
use Rattle.beam_code.proofs.Short.{wide_argument, wide_here}
use Rattle.beam_code.proofs.bytes.CodeBytes.wide_label.Goals as goal

pub rest-requires : goal.rest-requires
rest-requires c = let within = (lendable c.args.self.now c.args.at c.requires).read.within in omega (arith, within)

pub returns-in-len2-up-clause-is : goal.returns-in-len2-up-clause-is
returns-in-len2-up-clause-is c =
    let fits = subst (λ (n : ℕ). n < 2 ^ 32) c.two_bytes.ensures c.two_bytes.type_inv in
    wide_argument c.args.self.now c.args.at _ _ _ tag.Label (wide_here c.args.self.now c.args.at tag.Label (lit< tt) c.rest.result.now c.rest.ensures.rest c.in-len2-up.len_at_least c.if-first-eq13.true fits c.requires)
    ∙ ap (λ (n : ℕ). Some (argument.Label n, c.args.at + 2)) (sym c.two_bytes.ensures)
