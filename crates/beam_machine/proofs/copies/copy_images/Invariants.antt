use Rattle.std.proofs.Common.{◌≡◌, ◌++◌, drop}
use Rattle.beam_machine.proofs.copies.copy_images.Given as goal

abbrev pub invariant-loop-image : goal.invariant-loop-image
invariant-loop-image g l = l.copies.items ++ drop l.image-index l.images ≡ l.images
