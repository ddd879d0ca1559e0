use Rattle.std.proofs.Common.{◌≡◌, ◌∙◌, ap, append_assoc, ℕ, List, [], ◌∷◌, ◌++◌}
use Rattle.beam_lemmas.proofs.AnyError.{on_err}
use Rattle.beam_model.specs.declared.function.Export.{Export}
use Rattle.beam_model.specs.Prelude.{exports_line, exports_text, stop}
use Rattle.beam_print.proofs.Begun.{begun_longer, between, closed, not_begun, stopped}
use Rattle.beam_print.proofs.listing_text.write_exports_line.Goals as goal

-- the text before the exports, and the text after them
abbrev before : List ℕ
before = 123 ∷ 101 ∷ 120 ∷ 112 ∷ 111 ∷ 114 ∷ 116 ∷ 115 ∷ 44 ∷ 91 ∷ []

abbrev after : List ℕ
after = 93 ∷ 125 ∷ 46 ∷ 10 ∷ []

-- the line, in the pieces in which it is written
pieces : (old start : List ℕ) (exports : List Export) → start ≡ old ++ before → old ++ exports_line exports ≡ (start ++ exports_text [] exports) ++ after
pieces old start exports is =
    let middle : List ℕ = exports_text [] exports in
    ap (λ (t : List ℕ). old ++ t) (append_assoc (before ++ middle) (93 ∷ 125 ∷ []) stop) ∙ between old start before middle after is

pub returns-in_err-extend_from_slice-clause-begun : goal.returns-in_err-extend_from_slice-clause-begun
returns-in_err-extend_from_slice-clause-begun g c = not_begun _ _ _

pub returns-in_err-write_exports-clause-begun : goal.returns-in_err-write_exports-clause-begun
returns-in_err-write_exports-clause-begun g c =
    let start : List ℕ = c.extend_from_slice.new.self.items in
    let middle : List ℕ = exports_text [] c.args.exports.now in
    on_err _ _ (begun_longer _ _ (start ++ middle) after _ c.in_err-write_exports.ensures.begun
    (pieces c.args.waiting.now.items start c.args.exports.now c.in_ok-extend_from_slice.ensures.items))

pub returns-in_err-extend_from_slice-2-clause-begun : goal.returns-in_err-extend_from_slice-2-clause-begun
returns-in_err-extend_from_slice-2-clause-begun g c =
    let start : List ℕ = c.extend_from_slice.new.self.items in
    let middle : List ℕ = exports_text [] c.args.exports.now in
    on_err _ _ (stopped _ _ (start ++ middle) c.write_exports.new.waiting.items after _ c.in_ok-write_exports.ensures.written
    (pieces c.args.waiting.now.items start c.args.exports.now c.in_ok-extend_from_slice.ensures.items))

pub returns-clause-written : goal.returns-clause-written
returns-clause-written g c =
    let start : List ℕ = c.extend_from_slice.new.self.items in
    let middle : List ℕ = exports_text [] c.args.exports.now in
    closed _ _ (start ++ middle) c.write_exports.new.waiting.items after _ _ c.in_ok-write_exports.ensures.written
    (pieces c.args.waiting.now.items start c.args.exports.now c.in_ok-extend_from_slice.ensures.items) c.in_ok-extend_from_slice-2.ensures.items
