use Rattle.std.proofs.Common.{◌≡◌, ◌≤◌, ◌+◌, ◌-◌, length, take, slice_get, ap, sym, ◌∙◌, subst}
use Rattle.beam_stack.specs.Prelude.{older_than, frames_of, IsStack, below_in}
use Rattle.beam_stack.proofs.Lists.{take_most}
use Rattle.beam_stack.proofs.Tops.{IsPopped, popped}
use Rattle.beam_stack.proofs.frames.Frames.pop.Goals as goal

pub invariant_of-self : goal.invariant_of-self
invariant_of-self c =
    let items = c.self.inside.words.items in
    let newest = c.self.inside.newest in
    let at = c.saturating_sub-self-inside.result in
    let rest : IsPopped items newest = popped items newest c.self.invariant.0 in
    let place : at ≡ newest - (1 + below_in (slice_get items newest)) = c.saturating_sub-self-inside.ensures
    ∙ ap (λ n. newest - (1 + n)) (c.below_at-below.ensures ∙ ap (λ ws. below_in (slice_get ws newest)) c.deref.ensures.value) in (
      subst (λ ws. IsStack ws at) (sym c.truncate_words.ensures) (subst (λ n. IsStack (take newest items) n) (sym place) rest.stack),
      subst (λ ws. length ws ≤ 65536) (sym c.truncate_words.ensures) (take_most newest 65536 items c.self.invariant.1),
    )

pub returns : goal.returns
returns c =
    let rest : IsPopped c.self.inside.words.items c.self.inside.newest = popped c.self.inside.words.items c.self.inside.newest c.self.invariant.0 in
    ap frames_of c.truncate_words.ensures ∙ rest.frames ∙ ap older_than c.self.view_is
