use Rattle.std.proofs.Common.{Ok, Err}
use Rattle.beam_machine.specs.Prelude.{Debugged}
use Rattle.beam_machine.specs.declared.debug.DebugEvent.TheVariants.{Node as NodeEvent}
use Rattle.beam_machine.specs.declared.debug.DebugReply.TheVariants.{Node}
use Rattle.beam_debug.specs.Prelude.{debugged}
use Rattle.beam_debug.proofs.Accepted.{event_may, event_loud}
use Rattle.beam_debug.proofs.Changes.{with_state}
use Rattle.beam_debug.proofs.Debugging.{answers_event, refuses_event}
use Rattle.beam_debug.proofs.Capacities.{other_capacity}
use Rattle.beam_debug.proofs.debugger.other_event.Goals as goal

pub returns-in-Ok-clause-next : goal.returns-in-Ok-clause-next
returns-in-Ok-clause-next c =
    let d : Debugged = debugged c.args.core.now c.args.debug.now in
    with_state d _ _ (NodeEvent c.args.event.now) (Node c.in-Ok.reply) c.settle.ensures.debug
    (answers_event d c.args.event.now c.in-Ok.reply c.apply.new.self c.requires c.in-Ok.ensures.next)

pub returns-in-Ok-clause-loud : goal.returns-in-Ok-clause-loud
returns-in-Ok-clause-loud c =
    let d : Debugged = debugged c.args.core.now c.args.debug.now in
    let u : Debugged = debugged c.apply.new.self c.settle.new.debug in
    event_loud d u c.args.event.now (Ok (Node c.in-Ok.reply)) c.requires

pub returns-in-Err-clause-next : goal.returns-in-Err-clause-next
returns-in-Err-clause-next c =
    let d : Debugged = debugged c.args.core.now c.args.debug.now in
    refuses_event d c.args.event.now c.in-Err.refused c.apply.new.self c.requires c.in-Err.ensures.next

pub returns-in-Err-clause-memory : goal.returns-in-Err-clause-memory
returns-in-Err-clause-memory c =
    let d : Debugged = debugged c.args.core.now c.args.debug.now in
    event_may d c.args.event.now c.in-Err.refused c.apply.new.self c.requires c.in-Err.ensures.memory

pub returns-in-Err-clause-loud : goal.returns-in-Err-clause-loud
returns-in-Err-clause-loud c =
    let d : Debugged = debugged c.args.core.now c.args.debug.now in
    let u : Debugged = debugged c.apply.new.self c.args.debug.now in
    event_loud d u c.args.event.now (Err c.in-Err.refused) c.requires

pub returns-in-Ok-clause-begun : goal.returns-in-Ok-clause-begun
returns-in-Ok-clause-begun c = other_capacity _ c.args.event.now c.requires
