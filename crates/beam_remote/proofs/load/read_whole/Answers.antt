use Rattle.std.proofs.Common.{◌++◌, take}
use Rattle.beam_remote.proofs.Bytes.{joined}
use Rattle.beam_remote.proofs.load.read_whole.Goals as goal

pub returns-in_default-extend_from_slice-clause-unread : goal.returns-in_default-extend_from_slice-clause-unread
returns-in_default-extend_from_slice-clause-unread g c =
    let before = c.loop-buffer.bytes.items in
    let piece = take c.in-Ok.count c.read.new.buffer in
    (before ++ piece, joined _ _ _ before piece c.loop-buffer.invariant.input c.in-Ok.ensures.input, tt)
