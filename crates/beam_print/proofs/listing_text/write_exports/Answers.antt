use Rattle.std.proofs.Common.{◌≡◌, ◌+◌, ◌<◌, ap, rules, [], ◌∷◌, ◌++◌, drop, length, List, ℕ}
use Rattle.beam_lemmas.proofs.AnyError.{on_err}
use Rattle.beam_model.specs.declared.function.Export.{Export}
use Rattle.beam_model.specs.Prelude.{export_text, exports_text}
use Rattle.beam_print.proofs.Begun.{at_item, step, step_begun}
use Rattle.beam_print.proofs.listing_text.write_exports.Goals as goal

pub returns-in_err-write_export-clause-begun : goal.returns-in_err-write_export-clause-begun
returns-in_err-write_export-clause-begun g c =
    let separator : List ℕ = c.loop-export.separator.now in
    let item = c.export-item.result in
    let others : List ℕ = exports_text (44 ∷ []) (drop (c.loop-export.export-index + 1) c.args.exports.now) in
    let left = ap (exports_text separator) (at_item c.args.exports.now c.loop-export.export-index item (search rules) c.export-item.is) in
    on_err c.from_residual.result _
    (step_begun _ _ _ _ c.loop-export.waiting.items _ (separator ++ export_text item) others c.loop-export.invariant left c.in_err-write_export.ensures.begun)

pub loop-export-preserved : goal.loop-export-preserved
loop-export-preserved g c =
    let separator : List ℕ = c.loop-export.separator.now in
    let item = c.export-item.result in
    let others : List ℕ = exports_text (44 ∷ []) (drop (c.loop-export.export-index + 1) c.args.exports.now) in
    let left = ap (exports_text separator) (at_item c.args.exports.now c.loop-export.export-index item (search rules) c.export-item.is) in
    step _ _ _ _ c.loop-export.waiting.items _ (separator ++ export_text item) others _ c.loop-export.invariant left c.in_ok-write_export.ensures.written
