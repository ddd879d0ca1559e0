use Rattle.std.proofs.Common.{◌≡◌, drop}
use Rattle.beam_model.specs.Prelude.{list_of_characters}
use Rattle.beam_erltext.proofs.read.character_list.Given as goal

abbrev pub invariant-loop-i : goal.invariant-loop-i
invariant-loop-i l = l.list ≡ list_of_characters (drop l.i l.characters)
