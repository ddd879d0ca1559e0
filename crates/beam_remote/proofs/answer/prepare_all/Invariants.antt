use Rattle.std.proofs.Common.{take}
use Rattle.beam_remote.specs.Prelude.{ArePrepared}
use Rattle.beam_remote.proofs.answer.prepare_all.Given as goal

-- the files so far are prepared, as the listings so far
abbrev pub invariant-loop-file : goal.invariant-loop-file
invariant-loop-file l = ArePrepared (take l.file-index l.files) l.images.items
