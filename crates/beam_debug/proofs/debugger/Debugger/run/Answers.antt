use Rattle.std.proofs.Common.{◌≡◌, ◌<◌, List, ◌++◌, ◌∷◌, [], length, take, arith, ◌∙◌, ◌+◌, ap, sym, map, take_all, length-take-le}
use Rattle.std.proofs.lemmas.List.{take_more, length_push, length-map}
use Rattle.beam_model.specs.Prelude.{Listing}
use Rattle.beam_machine.specs.declared.debug.DebugEvent.{DebugEvent as TheEvent}
use Rattle.beam_machine.specs.Prelude.{Debugged, DebugAnswer, DebugRun, debug_run, effective_debug_events, effective_debug_answers}
use Rattle.beam_laws.proofs.Debugging.{run_erased}
use Rattle.beam_debug.specs.Prelude.{answer_of, LacksMemory, DebugLoudly}
use Rattle.beam_debug.proofs.Runs.{each_more, run_more, map_push}
use Rattle.beam_debug.proofs.debugger.Debugger.run.Goals as goal

pub loop-event-preserved : goal.loop-event-preserved
loop-event-preserved c =
    let events = c.args.events.now in
    let at = c.loop-event.event-index in
    let event = c.event-item.result in
    let answers = c.loop-event.answers.items in
    let answer = c.apply-answer.result in
    let within : at < length events = omega arith in
    let pushed : c.push.new.self.items ≡ answers ++ answer ∷ [] = rw c.unwrap.ensures at c.push.ensures.items in
    let told : map answer_of c.push.new.self.items ≡ map answer_of answers ++ answer_of answer ∷ [] = ap (map answer_of) pushed ∙ map_push answer_of answers answer in
    let front : take (at + 1) events ≡ take at events ++ event ∷ [] =
    take_more events at event within ∙ ap (λ (e : TheEvent Listing). take at events ++ e ∷ []) (sym c.event-item.is) in
    let each : length (map answer_of answers) ≡ length (take at events) = omega (arith, length-map answers answer_of, length-take-le at events (omega arith), c.loop-event.invariant.each) in
    let longer : length c.push.new.self.items ≡ length answers + 1 = ap length pushed ∙ length_push answers answer in
    let so_far : (debug_run c.args.self.now.state (effective_debug_events (take at events) (map answer_of answers))).state ≡ c.loop-event.self.state = ap (λ (r : DebugRun). r.state) c.loop-event.invariant.run in
    record {
      each = omega (arith, longer, c.loop-event.invariant.each);
      capacity = omega (arith, c.push.ensures.capacity, c.loop-event.invariant.capacity);
      run = rw (front, told) (run_more c.args.self.now.state c.loop-event.self.state c.apply-answer.new.self.state (take at events) (map answer_of answers) event (answer_of answer) each c.loop-event.invariant.run c.apply-answer.ensures.next);
      held = omega (arith, c.apply-answer.ensures.capacity, c.loop-event.invariant.held);
      loud = rw (front, told) (each_more DebugLoudly c.args.self.now.state c.loop-event.self.state c.apply-answer.new.self.state (take at events) (map answer_of answers) event (answer_of answer) each so_far c.loop-event.invariant.loud c.apply-answer.ensures.next c.apply-answer.ensures.loud);
      memory = rw (front, told) (each_more LacksMemory c.args.self.now.state c.loop-event.self.state c.apply-answer.new.self.state (take at events) (map answer_of answers) event (answer_of answer) each so_far c.loop-event.invariant.memory c.apply-answer.ensures.next c.apply-answer.ensures.memory);
    }

pub returns-clause-node : goal.returns-clause-node
returns-clause-node c =
    let d : Debugged = c.args.self.now.state in
    let events : List (TheEvent Listing) = c.args.events.now in
    let answers : List DebugAnswer = map answer_of c.loop-event.answers.items in
    let all : take c.loop-event.event-index events ≡ events = take_all c.loop-event.event-index events c.loop-event-test.false in
    let done : debug_run d (effective_debug_events events answers) ≡ record { answers = effective_debug_answers answers; state = c.loop-event.self.state } =
    ap (λ (es : List (TheEvent Listing)). debug_run d (effective_debug_events es answers)) (sym all) ∙ c.loop-event.invariant.run in
    run_erased d (effective_debug_events events answers) ∙ ap (λ (r : DebugRun). r.state.node) done
