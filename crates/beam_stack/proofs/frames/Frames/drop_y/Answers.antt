use Rattle.std.proofs.Common.{◌≡◌, ◌<◌, ◌+◌, List, false, length, take, ap, sym, ◌∙◌, subst, ◌++◌, [], ◌∷◌, None, arith, vec_len}
use Rattle.std.proofs.lemmas.List.{length_push}
use Rattle.beam_machine.specs.Prelude.{with_y}
use Rattle.beam_stack.specs.Prelude.{frames_of, IsStack, marked, Word}
use Rattle.beam_stack.proofs.Lists.{Ends, ends, above_zero, take_most}
use Rattle.beam_stack.proofs.Heads.{IsMarked, dropped}
use Rattle.beam_stack.proofs.frames.Frames.drop_y.Goals as goal

pub invariant_of-self : goal.invariant_of-self
invariant_of-self c =
    let items = c.self.inside.words.items in
    let newest = c.self.inside.newest in
    let rest : List Word = take (newest + 1) items in
    let some : 0 < length rest = omega (arith, above_zero (vec_len c.truncate_words.new.words) c.if-not-is_empty.ensures, c.truncate_words.new.words.ok.0, ap length c.truncate_words.ensures) in
    let end : Ends rest = ends rest some in
    let front = end.front in
    let head = end.last in
    let words : c.mark_last.new.words.items ≡ front ++ marked false head ∷ [] = c.mark_last.ensures.last front head (c.truncate_words.ensures ∙ end.is) in
    let is : take (newest + 1) items ≡ front ++ head ∷ [] = end.is in
    let made : IsMarked (front ++ marked false head ∷ []) newest (with_y (frames_of items) None) = dropped items newest front head c.self.invariant.0 is in (
      subst (λ ws. IsStack ws newest) (sym words) made.stack,
      omega (arith, ap length words, length_push front (marked false head), length_push front head, ap length is, take_most (newest + 1) 65536 items c.self.invariant.1),
    )

pub returns-then-not-is_empty : goal.returns-then-not-is_empty
returns-then-not-is_empty c =
    let items = c.self.inside.words.items in
    let newest = c.self.inside.newest in
    let rest : List Word = take (newest + 1) items in
    let some : 0 < length rest = omega (arith, above_zero (vec_len c.truncate_words.new.words) c.if-not-is_empty.ensures, c.truncate_words.new.words.ok.0, ap length c.truncate_words.ensures) in
    let end : Ends rest = ends rest some in
    let front = end.front in
    let head = end.last in
    let words : c.mark_last.new.words.items ≡ front ++ marked false head ∷ [] = c.mark_last.ensures.last front head (c.truncate_words.ensures ∙ end.is) in
    let is : take (newest + 1) items ≡ front ++ head ∷ [] = end.is in
    let made : IsMarked (front ++ marked false head ∷ []) newest (with_y (frames_of items) None) = dropped items newest front head c.self.invariant.0 is in
    ap frames_of words ∙ made.frames_are ∙ ap (λ fs. with_y fs None) c.self.view_is
