use Rattle.std.proofs.Common.{◌≡◌, ◌+◌, ◌-◌, take, slice_get, ap, sym, ◌∙◌, subst}
use Rattle.beam_stack.specs.Prelude.{older_than, IsStack, below_in}
use Rattle.beam_stack.proofs.Lists.{take_most}
use Rattle.beam_stack.proofs.Tops.{IsPopped, popped}
use Rattle.beam_stack.proofs.walk.Walk.pass.Goals as goal

pub invariant_of-self : goal.invariant_of-self
invariant_of-self c =
    let words = c.self.inside.words.now in
    let newest = c.self.inside.newest in
    let rest : IsPopped words newest = popped words newest c.self.invariant.0 in
    let place : c.saturating_sub-self-inside.result ≡ newest - (1 + below_in (slice_get words newest)) = c.saturating_sub-self-inside.ensures ∙ ap (λ n. newest - (1 + n)) c.below_at-below.ensures in (
      subst (λ n. IsStack (take newest words) n) (sym place) rest.stack,
      take_most newest 65536 words c.self.invariant.1,
    )

pub returns : goal.returns
returns c =
    let rest : IsPopped c.self.inside.words.now c.self.inside.newest = popped c.self.inside.words.now c.self.inside.newest c.self.invariant.0 in
    rest.frames ∙ ap older_than c.self.view_is
