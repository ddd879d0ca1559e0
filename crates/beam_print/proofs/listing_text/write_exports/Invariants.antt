use Rattle.std.proofs.Common.{[], ◌++◌, drop}
use Rattle.beam_model.specs.Prelude.{exports_text}
use Rattle.beam_print.specs.Begun.{IsWrittenUpTo}
use Rattle.beam_print.proofs.listing_text.write_exports.Given as goal

-- the text was written up to the waiting text and the remaining exports
abbrev pub invariant-loop-export : goal.invariant-loop-export
invariant-loop-export g l = IsWrittenUpTo (g.W.Write.contents l.initial.out) (g.W.Write.contents l.out) (l.initial.waiting.items ++ exports_text [] l.exports)
    (l.waiting.items ++ exports_text l.separator (drop l.export-index l.exports))
