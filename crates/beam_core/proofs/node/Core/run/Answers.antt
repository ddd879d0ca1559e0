use Rattle.std.proofs.Common.{◌≡◌, ◌<◌, ◌++◌, ◌∷◌, [], length, take, arith, ◌∙◌, ◌+◌, ap, sym, length-take-le}
use Rattle.std.proofs.lemmas.List.{take_more, length_push}
use Rattle.beam_model.specs.Prelude.{Listing}
use Rattle.beam_machine.specs.declared.event.Event.{Event as TheEvent}
use Rattle.beam_machine.specs.Prelude.{StopsLoudly, LacksMemory}
use Rattle.beam_core.proofs.Runs.{run_more, each_more}
use Rattle.beam_core.proofs.node.Core.run.Goals as goal

pub loop-event-preserved : goal.loop-event-preserved
loop-event-preserved c =
    let events = c.args.events.now in
    let at = c.loop-event.event-index in
    let event = c.event-item.result in
    let answers = c.loop-event.answers.items in
    let answer = c.apply-answer.result in
    let within : at < length events = omega arith in
    let pushed : c.push.new.self.items ≡ answers ++ answer ∷ [] = rw c.unwrap.ensures at c.push.ensures.items in
    let front : take (at + 1) events ≡ take at events ++ event ∷ [] =
    take_more events at event within ∙ ap (λ (e : TheEvent Listing). take at events ++ e ∷ []) (sym c.event-item.is) in
    let each : length answers ≡ length (take at events) = omega (arith, length-take-le at events (omega arith), c.loop-event.invariant.each) in
    let longer : length c.push.new.self.items ≡ length answers + 1 = ap length pushed ∙ length_push answers answer in
    let front_run = ap (λ r. r.state) c.loop-event.invariant.run in
    record {
      each = omega (arith, longer, c.loop-event.invariant.each);
      capacity = omega (arith, c.push.ensures.capacity, c.loop-event.invariant.capacity);
      run = rw (front, pushed) (run_more c.args.self.now c.loop-event.self c.apply-answer.new.self (take at events) answers event answer each c.loop-event.invariant.run c.apply-answer.ensures.next);
      loud = rw (front, pushed) (each_more StopsLoudly c.args.self.now c.loop-event.self c.apply-answer.new.self (take at events) answers event answer each front_run c.loop-event.invariant.loud c.apply-answer.ensures.next c.apply-answer.ensures.loud);
      memory = rw (front, pushed) (each_more LacksMemory c.args.self.now c.loop-event.self c.apply-answer.new.self (take at events) answers event answer each front_run c.loop-event.invariant.memory c.apply-answer.ensures.next c.apply-answer.ensures.memory);
    }
