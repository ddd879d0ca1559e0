use Rattle.std.proofs.Common.{ap, drop, arith, length-drop}
use Rattle.beam_term.specs.Prelude.{depth_of}
use Rattle.beam_erltext.proofs.Depths.{depth_of_characters}
use Rattle.beam_erltext.proofs.read.character_list.Goals as goal

pub pair-requires : goal.pair-requires
pair-requires c =
    let xs = c.args.characters.now in
    let i = c.loop-i.i in
    omega (arith, ap depth_of c.integer.ensures, ap depth_of c.loop-i.invariant, depth_of_characters (drop i xs), length-drop i xs)
