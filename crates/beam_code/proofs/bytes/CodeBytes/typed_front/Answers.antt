use Rattle.std.proofs.Common.{arith, ℕ, subst, ◌<◌, ◌^◌}
use Rattle.beam_code.proofs.Lent.{lendable}
use Rattle.beam_code.proofs.Short.{typed_front}
use Rattle.beam_code.proofs.bytes.CodeBytes.typed_front.Goals as goal

pub rest-requires : goal.rest-requires
rest-requires c = let within = (lendable c.args.self.now c.args.at c.requires).read.within in omega (arith, within)

pub returns-in-len3-up : goal.returns-in-len3-up
returns-in-len3-up c =
    let fits = subst (λ (n : ℕ). n < 2 ^ 32) c.one_byte-number.ensures c.one_byte-number.type_inv in
    let type_fits = subst (λ (n : ℕ). n < 2 ^ 32) c.one_byte-type_index.ensures c.one_byte-type_index.type_inv in
    typed_front c.args.self.now c.args.at c.rest.result.now c.rest.ensures.rest c.in-len3-up.len_at_least c.if-first-eq-TYPED.true c.if-index-eq0.true fits type_fits c.requires
