use Rattle.std.proofs.Common.{◌≡◌, ◌-◌, [], length}
use Rattle.beam_model.specs.Prelude.{elements_from}
use Rattle.beam_listing.proofs.forms.elements_up_to.Given as goal

abbrev pub invariant-loop : goal.invariant-loop
invariant-loop l = elements_from (length l.text - l.counter) l.close l.elements.items l.rest ≡ elements_from (length l.text) l.close [] l.text
