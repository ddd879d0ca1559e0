use Rattle.std.proofs.Common.{◌≡◌, ◌≤◌, vec_len}
use Rattle.beam_term.specs.Prelude.{list_before}
use Rattle.beam_tools.proofs.arguments.elements.Given as goal

abbrev pub invariant-loop-items : goal.invariant-loop-items
invariant-loop-items l = record { list : list_before l.items.items l.rest ≡ l.fn.list; few : vec_len l.items ≤ 255 }
