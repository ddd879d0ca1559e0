use Rattle.std.proofs.Common.{◌≡◌, true, sym, subst, rules, tests}
use Rattle.std.proofs.lemmas.Fn.{filter_same}
use Rattle.beam_state.specs.Prelude.{monitored_in, has_key, is_live_key}
use Rattle.beam_state.proofs.Keys.{in_filter}
use Rattle.beam_state.proofs.monitor_index.MonitorIndex.sweep.Goals as goal

pub returns : goal.returns
returns c = λ key is had.
    let kept = filter_same _ (λ k. is_live_key c.args.processes.now (monitored_in k) k) _ (λ k b g step. search (rules, tests)) _ _ c.retain.ensures.filtered in
    subst (λ ks. has_key ks key ≡ true) (sym kept)
    (in_filter (λ k. is_live_key c.args.processes.now (monitored_in k) k) c.self.inside.keys.keys key (subst (λ ks. has_key ks key ≡ true) (sym c.self.view_is) had) is)
