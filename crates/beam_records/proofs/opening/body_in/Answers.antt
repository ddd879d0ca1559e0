use Rattle.std.proofs.Common.{◌≡◌, ◌∙◌, sym, Some, None}
use Rattle.beam_records.specs.JournalFile.{width_of}
use Rattle.beam_records.proofs.Fronts.{found_or_none, at_width, below_width, at_size, size_of}
use Rattle.beam_records.proofs.opening.body_in.Goals as goal

pub returns-in-Some : goal.returns-in-Some
returns-in-Some c =
    let width : width_of c.args.kind ≡ Some c.in-Some.width = sym c.width_of.ensures ∙ c.in-Some.is in
    found_or_none c.bytes_in.result
    (λ few a r h. below_width c.args.bytes.now c.args.kind c.in-Some.width width few a r h)
    (λ p h. at_width c.args.bytes.now c.args.kind c.in-Some.width p.0.now p.1.now width h.0 h.1)
    c.bytes_in.ensures

pub returns-in-None : goal.returns-in-None
returns-in-None c =
    let width : width_of c.args.kind ≡ None = sym c.width_of.ensures ∙ c.in-None.is in
    found_or_none c.sized_in.result
    (λ none a r h. none a r (size_of c.args.bytes.now c.args.kind a r width h))
    (λ p h. at_size c.args.bytes.now c.args.kind p.0.now p.1.now width h)
    c.sized_in.ensures
