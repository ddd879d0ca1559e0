use Rattle.std.proofs.Common.{◌≡◌, ◌≤◌, ◌+◌, ◌-◌, length, take, slice_get, ap, sym, ◌∙◌, subst, arith}
use Rattle.beam_stack.specs.Prelude.{is_bare, older_than, frames_of, IsStack, below_in}
use Rattle.beam_stack.proofs.Heads.{bare_end, bare_plain}
use Rattle.beam_stack.proofs.Lists.{take_most}
use Rattle.beam_stack.proofs.Tops.{IsPopped, popped}
use Rattle.beam_stack.proofs.frames.Frames.pop_bare.Goals as goal

pub drop_last-requires-clause-some : goal.drop_last-requires-clause-some
drop_last-requires-clause-some c =
    let end : length c.self.inside.words.items ≡ c.self.inside.newest + 1 = bare_end c.self.inside.words.items c.self.inside.newest c.self.invariant.0 (ap is_bare c.self.view_is ∙ c.requires) in
    omega (arith, end, c.self.inside.words.ok.0)

pub drop_last-requires-clause-plain : goal.drop_last-requires-clause-plain
drop_last-requires-clause-plain c = bare_plain c.self.inside.words.items c.self.inside.newest c.self.invariant.0 (ap is_bare c.self.view_is ∙ c.requires)

pub invariant_of-self : goal.invariant_of-self
invariant_of-self c =
    let items = c.self.inside.words.items in
    let newest = c.self.inside.newest in
    let at = c.saturating_sub-self-inside.result in
    let end : length items ≡ newest + 1 = bare_end items newest c.self.invariant.0 (ap is_bare c.self.view_is ∙ c.requires) in
    let last : length items - 1 ≡ newest = omega (arith, end) in
    let left : c.drop_last.new.words.items ≡ take newest items = c.drop_last.ensures ∙ ap (λ n. take n items) last in
    let rest : IsPopped items newest = popped items newest c.self.invariant.0 in
    let place : at ≡ newest - (1 + below_in (slice_get items newest)) = c.saturating_sub-self-inside.ensures
    ∙ ap (λ n. newest - (1 + n)) (c.below_at-below.ensures ∙ ap (λ ws. below_in (slice_get ws newest)) c.deref.ensures.value) in (
      subst (λ ws. IsStack ws at) (sym left) (subst (λ n. IsStack (take newest items) n) (sym place) rest.stack),
      subst (λ ws. length ws ≤ 65536) (sym left) (take_most newest 65536 items c.self.invariant.1),
    )

pub returns : goal.returns
returns c =
    let items = c.self.inside.words.items in
    let newest = c.self.inside.newest in
    let end : length items ≡ newest + 1 = bare_end items newest c.self.invariant.0 (ap is_bare c.self.view_is ∙ c.requires) in
    let last : length items - 1 ≡ newest = omega (arith, end) in
    let rest : IsPopped items newest = popped items newest c.self.invariant.0 in
    ap frames_of (c.drop_last.ensures ∙ ap (λ n. take n items) last) ∙ rest.frames ∙ ap older_than c.self.view_is
