use Rattle.std.proofs.Common.{length, arith, ap, Err}
use Rattle.std.specs.Str.{chars}
use Rattle.std.proofs.lemmas.Str.{encodes-chars, length-le-encodes}
use Rattle.beam_bif.proofs.value.atom.Goals as goal

pub unreachable-requires : goal.unreachable-requires
unreachable-requires c =
    omega (arith, length-le-encodes (chars c.args.text.now), ap length (encodes-chars c.args.text.now c.utf8.text), c.in-Err-TooLong.ensures.too_long.0 (ap Err c.in-Err-TooLong.field-0-is))
