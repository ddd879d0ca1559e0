use Rattle.beam_code.proofs.Lent.{lendable}
use Rattle.beam_code.proofs.Short.{short_front}
use Rattle.beam_code.proofs.bytes.CodeBytes.front.Goals as goal

pub byte-first-requires : goal.byte-first-requires
byte-first-requires c = (lendable c.args.self.now c.args.at c.requires).read.within

pub returns : goal.returns
returns c = short_front c.args.self.now c.args.at c.byte-first.result (lendable c.args.self.now c.args.at c.requires).read.within c.byte-first.ensures.there c.byte-first.type_inv
