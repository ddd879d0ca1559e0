use Rattle.std.proofs.Common.{refl, arith}
use Rattle.beam_tables.proofs.Texts.{length-chars-le}
use Rattle.beam_tables.proofs.fields.atom_of_text.Goals as goal

pub unreachable-requires : goal.unreachable-requires
unreachable-requires c =
    let long = (rw c.in-Err-TooLong.field-0-is at c.in-Err-TooLong.ensures.too_long).0 refl in
    omega (arith, long, length-chars-le c.args.text.now c.utf8.text)
