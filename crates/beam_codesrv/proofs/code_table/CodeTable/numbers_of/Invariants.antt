use Rattle.std.proofs.Common.{◌≡◌, ◌++◌, drop, map}
use Rattle.beam_machine.specs.Prelude.{numbers_of}
use Rattle.beam_codesrv.proofs.code_table.CodeTable.numbers_of.Given as goal

abbrev pub invariant-loop-image : goal.invariant-loop-image
invariant-loop-image l = l.numbers.items ++ map (numbers_of l.self) (drop l.image-index l.images) ≡ map (numbers_of l.self) l.images
