use Rattle.std.proofs.Common.{◌≡◌, ◌++◌, drop}
use Rattle.std.specs.List.{flat_map}
use Rattle.std.specs.Int.{to_be_bytes, w32}
use Rattle.beam_model.specs.Prelude.{written_reference}
use Rattle.beam_etf.proofs.writing.write_reference.Given as goal

-- the output so far, with the remaining words written, is the whole
abbrev pub invariant-loop-word : goal.invariant-loop-word
invariant-loop-word l =
    l.out.items ++ flat_map (to_be_bytes w32) (drop l.word-index l.words) ≡ l.fn.out.items ++ written_reference l.fn.reference.node l.fn.reference.creation l.fn.reference.words
