use Rattle.std.proofs.Common.{ap, arith}
use Rattle.beam_term.specs.Prelude.{depth_of}
use Rattle.beam_erltext.proofs.Depths.{depth_of_characters}
use Rattle.beam_erltext.proofs.read.read_characters.Goals as goal

pub returns-clause-depth : goal.returns-clause-depth
returns-clause-depth c = omega (arith, ap depth_of c.in_ok-character_list.ensures.ok, depth_of_characters c.deref.result.now)
