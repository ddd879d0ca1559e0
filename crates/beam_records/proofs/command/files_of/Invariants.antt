use Rattle.std.proofs.Common.{take}
use Rattle.beam_records.specs.JournalFile.{AreImages}
use Rattle.beam_records.proofs.command.files_of.Given as goal

-- the files taken so far belong to the images taken so far, in their order
abbrev pub invariant-loop-image : goal.invariant-loop-image
invariant-loop-image l = AreImages l.files.items (take l.image-index l.images)
