use Rattle.std.proofs.Common.{ap, length, arith}
use Rattle.beam_etf.proofs.Lengths.{atom_short}
use Rattle.beam_etf.proofs.writing.write_atom.Goals as goal

pub overflow_cast-text-else-text-lt256 : goal.overflow_cast-text-else-text-lt256
overflow_cast-text-else-text-lt256 c = omega (arith, atom_short c.args.atom.now c.as_str-text.ensures.lawful, ap length c.as_str-text.ensures.value)
