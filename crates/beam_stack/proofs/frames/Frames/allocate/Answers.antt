use Rattle.std.proofs.Common.{◌≡◌, ◌<◌, true, length, ap, sym, ◌∙◌, subst, ◌++◌, [], ◌∷◌, replicate, Some, arith}
use Rattle.beam_term.specs.Prelude.{nil_term}
use Rattle.beam_machine.specs.declared.process.Slot.TheVariants as slot
use Rattle.beam_machine.specs.Prelude.{words_of, with_y}
use Rattle.beam_stack.specs.Word as word
use Rattle.beam_stack.specs.Prelude.{is_bare, frames_of, IsStack, marked}
use Rattle.beam_stack.proofs.Heads.{IsMarked, allocated, allocated_length, bare_length}
use Rattle.beam_stack.proofs.Lists.{Ends, ends}
use Rattle.beam_stack.proofs.frames.Frames.allocate.Goals as goal

pub invariant_of-self-2 : goal.invariant_of-self-2
invariant_of-self-2 c =
    let items = c.self.inside.words.items in
    let newest = c.self.inside.newest in
    let n = c.args.count in
    let some : 0 < length items = bare_length items newest c.self.invariant.0 (ap is_bare c.self.view_is ∙ c.requires.bare) in
    let end : Ends items = ends items some in
    let front = end.front in
    let head = end.last in
    let words : c.push_nils.new.words.items ≡ (front ++ marked true head ∷ []) ++ replicate n (word.Value nil_term) =
    c.push_nils.ensures ∙ ap (λ ws. ws ++ replicate n (word.Value nil_term)) (c.mark_last.ensures.last front head (c.reserve.ensures.items ∙ end.is)) in
    let is : items ≡ front ++ head ∷ [] = end.is in
    let made : IsMarked ((front ++ marked true head ∷ []) ++ replicate n (word.Value nil_term)) newest (with_y (frames_of items) (Some (replicate n (slot.Value nil_term)))) =
    allocated items newest front head n nil_term c.self.invariant.0 (ap is_bare c.self.view_is ∙ c.requires.bare) is in (
      subst (λ ws. IsStack ws newest) (sym words) made.stack,
      omega (arith, ap length words, allocated_length front head (marked true head) n (word.Value nil_term), ap length is, c.self.invariant.0.whole, ap words_of c.self.view_is, c.requires.room),
    )

pub returns-clause-ok : goal.returns-clause-ok
returns-clause-ok c =
    let items = c.self.inside.words.items in
    let newest = c.self.inside.newest in
    let n = c.args.count in
    let some : 0 < length items = bare_length items newest c.self.invariant.0 (ap is_bare c.self.view_is ∙ c.requires.bare) in
    let end : Ends items = ends items some in
    let front = end.front in
    let head = end.last in
    let words : c.push_nils.new.words.items ≡ (front ++ marked true head ∷ []) ++ replicate n (word.Value nil_term) =
    c.push_nils.ensures ∙ ap (λ ws. ws ++ replicate n (word.Value nil_term)) (c.mark_last.ensures.last front head (c.reserve.ensures.items ∙ end.is)) in
    let is : items ≡ front ++ head ∷ [] = end.is in
    let made : IsMarked ((front ++ marked true head ∷ []) ++ replicate n (word.Value nil_term)) c.self.inside.newest (with_y (frames_of items) (Some (replicate n (slot.Value nil_term)))) =
    allocated items c.self.inside.newest front head n nil_term c.self.invariant.0 (ap is_bare c.self.view_is ∙ c.requires.bare) is in
    ap frames_of words ∙ made.frames_are ∙ ap (λ fs. with_y fs (Some (replicate n (slot.Value nil_term)))) c.self.view_is
