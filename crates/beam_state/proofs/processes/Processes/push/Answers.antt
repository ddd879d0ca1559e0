use Rattle.std.proofs.Common.{ap, ◌∙◌}
use Rattle.beam_machine.specs.Prelude.{Process}
use Rattle.beam_state.proofs.Keeping.{push_keeps, push_monitored_if}
use Rattle.beam_state.proofs.processes.Processes.push.Goals as goal

pub invariant_of-self-2 : goal.invariant_of-self-2
invariant_of-self-2 c =
    let x : Process = c.in_ok-entry.entry in (
      push_keeps _ c.self.inside.agenda c.push.new.self c.self.inside.items.items c.reserve.new.self.items c.push_reserved.new.self.items x c.entry_of.result (ap (λ (p : Process). p.name) c.in_ok-entry.ensures ∙ c.requires.nameless) c.entry_of.ensures c.in_ok-push.ensures.ok c.reserve.ensures.items c.push_reserved.ensures.items c.self.invariant.0,
      push_monitored_if c.self.inside.complete c.self.inside.monitor_index c.self.inside.items.items c.reserve.new.self.items c.push_reserved.new.self.items x (ap (λ (p : Process). p.monitors) c.in_ok-entry.ensures ∙ c.requires.alone) c.reserve.ensures.items c.push_reserved.ensures.items c.self.invariant.1,
    )
