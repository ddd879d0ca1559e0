use Rattle.std.proofs.Common.{None}
use Rattle.beam_debug.specs.Prelude.{reply_of}
use Rattle.beam_journal.specs.Entering.{entry_of}
use Rattle.beam_shared.proofs.node.Node.replay_event.Given as goal

abbrev pub ghosts-enter_without_seat : goal.ghosts-enter_without_seat
ghosts-enter_without_seat g a = record { entry = entry_of a.event None (reply_of a.reply.now) }
