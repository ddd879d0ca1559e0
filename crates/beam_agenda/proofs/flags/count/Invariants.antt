use Rattle.std.proofs.Common.{◌≡◌, ◌≤◌, take}
use Rattle.std.specs.List.{count_by}
use Rattle.beam_agenda.specs.Prelude.{is_set}
use Rattle.beam_agenda.proofs.flags.count.Given as goal

abbrev pub invariant-loop-number : goal.invariant-loop-number
invariant-loop-number l = (l.count ≡ count_by is_set (take l.number-index l.numbers)) × (l.count ≤ l.number-index)
