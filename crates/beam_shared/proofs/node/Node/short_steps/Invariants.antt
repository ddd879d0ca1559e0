use Rattle.std.proofs.Common.{Some}
use Rattle.beam_debug.specs.Prelude.{reply_of}
use Rattle.beam_journal.specs.Entering.{entry_of}
use Rattle.beam_shared.proofs.node.Node.short_steps.Given as goal

abbrev pub ghosts-enter_for_seat : goal.ghosts-enter_for_seat
ghosts-enter_for_seat g a = record { entry = entry_of a.event (Some a.seat.now.number) (reply_of a.reply.now) }
