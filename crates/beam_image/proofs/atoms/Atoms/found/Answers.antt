use Rattle.std.proofs.Common.{ℕ, List, ap, refl, sym, ◌∙◌, slice_get, unwrap_or, []}
use Rattle.std.proofs.lemmas.Option.{slice_get_read}
use Rattle.beam_lemmas.proofs.SameText.{text_is}
use Rattle.beam_code.specs.Prelude.{CodeBytes}
use Rattle.beam_image.proofs.atoms.Atoms.found.Goals as goal

pub returns-in-Some : goal.returns-in-Some
returns-in-Some c =
    let index = c.in_ok-index.field-0.now in
    let found = c.in-Some.found.now in
    let lookup = c.in-Some.ensures.lookup in
    let read = slice_get_read c.atoms.result.now _ index found refl lookup.3.0 lookup.1 in
    ap (λ o. unwrap_or o []) (ap (λ (b : CodeBytes). slice_get b.tables.atoms index) (sym c.self.view_is) ∙ (ap (λ (as' : List (List ℕ)). slice_get as' index) (sym c.atoms.ensures) ∙ read))
    ∙ text_is found c.args.atom.now (sym c.eq.ensures ∙ c.if-eq.true)
