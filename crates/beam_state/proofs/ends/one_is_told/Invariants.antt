use Rattle.std.proofs.Common.{◌≡◌, filter}
use Rattle.std.specs.List.{list_any}
use Rattle.beam_state.specs.Prelude.{is_key_of, is_told}
use Rattle.beam_state.proofs.ends.one_is_told.Given as goal

abbrev pub invariant-loop-key : goal.invariant-loop-key
invariant-loop-key l =
    list_any (is_told l.fn.processes l.fn.pid) l.key-iterator ≡ list_any (is_told l.fn.processes l.fn.pid) (filter (is_key_of l.fn.pid) l.fn.monitor_index)
