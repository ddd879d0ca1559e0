use Rattle.std.proofs.Common.{◌≡◌, ◌++◌, map, filter}
use Rattle.beam_state.specs.Prelude.{is_key_of, is_told, down_of}
use Rattle.beam_state.proofs.ends.found.Given as goal

abbrev pub invariant-loop-key : goal.invariant-loop-key
invariant-loop-key l =
    l.sent.items ++ map (down_of l.fn.reason) (filter (is_told l.fn.processes l.fn.pid) l.key-iterator)
    ≡ l.fn.sent.items ++ map (down_of l.fn.reason) (filter (is_told l.fn.processes l.fn.pid) (filter (is_key_of l.fn.pid) l.fn.monitor_index))
