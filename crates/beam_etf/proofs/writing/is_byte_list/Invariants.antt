use Rattle.std.proofs.Common.{◌≡◌}
use Rattle.beam_model.specs.Prelude.{is_byte_list}
use Rattle.beam_etf.proofs.writing.is_byte_list.Given as goal

abbrev pub invariant-loop-head : goal.invariant-loop-head
invariant-loop-head l = is_byte_list l.rest ≡ is_byte_list l.list
