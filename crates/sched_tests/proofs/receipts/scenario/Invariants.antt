use Rattle.std.proofs.Common.{length, Some}
use Rattle.beam_machine.specs.declared.debug.DebugEvent.TheVariants.{Resume}
use Rattle.beam_machine.specs.declared.event.Reply.TheVariants.{Done}
use Rattle.beam_machine.specs.declared.debug.DebugReply.TheVariants.{Node}
use Rattle.beam_receipts.specs.Receipts.{no_entry, no_origin}
use Rattle.sched_tests.proofs.receipts.scenario.Given as goal

-- at a function: the values from which the entry is made are among its arguments
abbrev pub ghosts-resume : goal.ghosts-resume
ghosts-resume g a = record { entry = record { event = Resume a.pid; seat = Some a.seat.now.number; reply = Node Done } }

-- at a method: the call's arguments alone
abbrev pub ghosts-enter_for_seat : goal.ghosts-enter_for_seat
ghosts-enter_for_seat g a = record { entry = record no_entry { seat = Some a.seat.now.number } }

abbrev pub ghosts-enter_without_seat : goal.ghosts-enter_without_seat
ghosts-enter_without_seat g a = record { entry = record no_entry { event = Resume (length a.self.now.journal) } }

abbrev pub ghosts-hand_out : goal.ghosts-hand_out
ghosts-hand_out g a = record { origin = record no_origin { pid = a.pid } }
