use Rattle.std.proofs.Common.{◌≡◌, ◌≤◌, take, length}
use Rattle.std.specs.Vec.{vec_capacity}
use Rattle.beam_machine.specs.Prelude.{run, effective_events, effective_answers, StopsLoudly, LacksMemory, Each}
use Rattle.beam_core.proofs.node.Core.run.Given as goal

abbrev pub invariant-loop-event : goal.invariant-loop-event
invariant-loop-event l = record {
  each : length l.answers.items ≡ l.event-index;
  capacity : length l.events ≤ vec_capacity l.answers;
  run : run l.fn.self (effective_events (take l.event-index l.events) l.answers.items) ≡ record { answers = effective_answers l.answers.items; state = l.self };
  loud : Each StopsLoudly l.fn.self (take l.event-index l.events) l.answers.items;
  memory : Each LacksMemory l.fn.self (take l.event-index l.events) l.answers.items;
}
