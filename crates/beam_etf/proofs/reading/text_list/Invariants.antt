use Rattle.std.proofs.Common.{◌≡◌, drop}
use Rattle.beam_model.specs.Prelude.{text_list}
use Rattle.beam_etf.proofs.reading.text_list.Given as goal

abbrev pub invariant-loop-i : goal.invariant-loop-i
invariant-loop-i l = l.list ≡ text_list (drop l.i l.text)
