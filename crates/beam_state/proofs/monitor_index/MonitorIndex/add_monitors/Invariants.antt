use Rattle.std.proofs.Common.{◌≡◌, ℕ, true, List}
use Rattle.beam_watches.specs.MonitorEntries.{monitors_in}
use Rattle.beam_state.specs.Prelude.{has_key, AreKeyed}
use Rattle.beam_state.proofs.monitor_index.MonitorIndex.add_monitors.Given as goal

abbrev pub invariant-loop-reference : goal.invariant-loop-reference
invariant-loop-reference l = record {
  kept : (key : ℕ) → has_key l.fn.self key ≡ true → has_key l.self key ≡ true;
  all : (keys : List ℕ) → ((key : ℕ) → has_key l.self key ≡ true → has_key keys key ≡ true)
      → AreKeyed keys l.fn.receiver (monitors_in l.reference-iterator) → AreKeyed keys l.fn.receiver l.fn.monitors;
}
