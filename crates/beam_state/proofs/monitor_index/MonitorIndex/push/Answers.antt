use Rattle.std.proofs.Common.{◌≡◌, true, sym, subst}
use Rattle.beam_state.specs.Prelude.{has_key}
use Rattle.beam_state.proofs.Keys.{inserted}
use Rattle.beam_state.proofs.monitor_index.MonitorIndex.push.Goals as goal

pub returns-clause-kept : goal.returns-clause-kept
returns-clause-kept c = λ key had.
    inserted c.self.inside.keys.keys c.insert.new.self.keys c.monitor_key.result c.in_ok-insert.ensures.updates.0 key (subst (λ ks. has_key ks key ≡ true) (sym c.self.view_is) had)
