use Rattle.std.proofs.Common.{◌+◌, ap, lit<, ◌∙◌, option_map}
use Rattle.beam_model.specs.declared.compact.CompactTag.TheVariants as tag
use Rattle.beam_code.proofs.Lent.{lendable}
use Rattle.beam_code.proofs.Short.{short_argument, short_meant}
use Rattle.beam_code.proofs.bytes.CodeBytes.other_argument.Goals as goal

pub byte-first-requires : goal.byte-first-requires
byte-first-requires c = (lendable c.args.self.now c.args.at c.requires).read.within

pub atom-requires : goal.atom-requires
atom-requires c = short_meant c.args.self.now c.args.at c.byte-first.result tag.Atom (record { within = (lendable c.args.self.now c.args.at c.requires).read.within; there = c.byte-first.ensures.there; byte = c.byte-first.type_inv; low = c.in-2.is; one = lit< tt }) c.requires

pub returns-in-0-clause-is : goal.returns-in-0-clause-is
returns-in-0-clause-is c = short_argument c.args.self.now c.args.at c.byte-first.result tag.Number (record { within = (lendable c.args.self.now c.args.at c.requires).read.within; there = c.byte-first.ensures.there; byte = c.byte-first.type_inv; low = c.in-0.is; one = lit< tt })

pub returns-in-2-clause-is : goal.returns-in-2-clause-is
returns-in-2-clause-is c = short_argument c.args.self.now c.args.at c.byte-first.result tag.Atom (record { within = (lendable c.args.self.now c.args.at c.requires).read.within; there = c.byte-first.ensures.there; byte = c.byte-first.type_inv; low = c.in-2.is; one = lit< tt }) ∙ ap (option_map (λ a. (a, c.args.at + 1))) c.atom.ensures.is

pub returns-in-5-clause-is : goal.returns-in-5-clause-is
returns-in-5-clause-is c = short_argument c.args.self.now c.args.at c.byte-first.result tag.Label (record { within = (lendable c.args.self.now c.args.at c.requires).read.within; there = c.byte-first.ensures.there; byte = c.byte-first.type_inv; low = c.in-5.is; one = lit< tt })
