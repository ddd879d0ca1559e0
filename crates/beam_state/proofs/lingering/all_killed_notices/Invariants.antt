use Rattle.std.proofs.Common.{◌≡◌, ◌++◌, ◌||◌, drop}
use Rattle.std.specs.List.{list_any}
use Rattle.beam_machine.specs.Prelude.{pids_of}
use Rattle.beam_state.specs.Ends.{lingers_in, notices_of_each}
use Rattle.beam_state.proofs.lingering.all_killed_notices.Given as goal

abbrev pub invariant-loop-index : goal.invariant-loop-index
invariant-loop-index l = record {
  sent : l.sent.items ++ notices_of_each l.entries (pids_of (lingers_in l.fn.old) (drop l.index l.entries)) ≡ notices_of_each l.entries (pids_of (lingers_in l.fn.old) l.entries);
  some : (l.some || list_any (lingers_in l.fn.old) (drop l.index l.entries)) ≡ list_any (lingers_in l.fn.old) l.entries;
}
