use Rattle.std.proofs.Common.{◌≡◌, ◌+◌, ◌*◌, ◌/◌, take}
use Rattle.beam_agenda.specs.Prelude.{is_set, position_from}
use Rattle.beam_agenda.proofs.flags.first_in_group.Given as goal

abbrev pub invariant-loop-at : goal.invariant-loop-at
invariant-loop-at l = position_from is_set l.at (take (16 * (l.from / 16) + 16) l.numbers) ≡ position_from is_set l.from (take (16 * (l.from / 16) + 16) l.numbers)
