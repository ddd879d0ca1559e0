use Rattle.std.proofs.Common.{◌≡◌, ◌≤◌, take, length, map}
use Rattle.std.specs.Vec.{vec_capacity}
use Rattle.beam_machine.specs.Prelude.{debug_run, effective_debug_events, effective_debug_answers}
use Rattle.beam_debug.specs.Prelude.{answer_of, Each, LacksMemory, DebugLoudly}
use Rattle.beam_debug.proofs.debugger.Debugger.run.Given as goal

abbrev pub invariant-loop-event : goal.invariant-loop-event
invariant-loop-event l = record {
  each : length l.answers.items ≡ l.event-index;
  capacity : length l.events ≤ vec_capacity l.answers;
  run : debug_run l.fn.self.state (effective_debug_events (take l.event-index l.events) (map answer_of l.answers.items))
      ≡ record { answers = effective_debug_answers (map answer_of l.answers.items); state = l.self.state };
  held : l.fn.self.capacity ≤ l.self.capacity;
  loud : Each DebugLoudly l.fn.self.state (take l.event-index l.events) (map answer_of l.answers.items);
  memory : Each LacksMemory l.fn.self.state (take l.event-index l.events) (map answer_of l.answers.items);
}
