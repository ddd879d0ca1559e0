use Rattle.std.proofs.Common.{lit<}
use Rattle.beam_model.specs.declared.compact.CompactTag.TheVariants as tag
use Rattle.beam_code.proofs.Lent.{lendable}
use Rattle.beam_code.proofs.Short.{short_argument}
use Rattle.beam_code.proofs.bytes.CodeBytes.label_argument.Goals as goal

pub byte-first-requires : goal.byte-first-requires
byte-first-requires c = (lendable c.args.self.now c.args.at c.requires).read.within

pub returns-then-first-eq5-clause-is : goal.returns-then-first-eq5-clause-is
returns-then-first-eq5-clause-is c = short_argument c.args.self.now c.args.at c.byte-first.result tag.Label (record { within = (lendable c.args.self.now c.args.at c.requires).read.within; there = c.byte-first.ensures.there; byte = c.byte-first.type_inv; low = c.if-first-eq5.true; one = lit< tt })
