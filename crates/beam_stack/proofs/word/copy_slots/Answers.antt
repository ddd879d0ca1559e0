use Rattle.std.proofs.Common.{◌≡◌, ◌++◌, [], ◌∷◌, Some, ap, sym, ◌∙◌, append_assoc}
use Rattle.beam_stack.specs.Prelude.{slots_with, slot_in}
use Rattle.beam_stack.proofs.Lists.{with_word, held_last}
use Rattle.beam_stack.proofs.word.copy_slots.Goals as goal

pub loop-word-preserved-in_ok-push : goal.loop-word-preserved-in_ok-push
loop-word-preserved-in_ok-push c =
    let word = c.in-Some.word.now in
    let more = c.in-Some.more.now in
    let slot = c.in-Some-2.slot in
    let holds : slot_in word ≡ Some slot = sym c.in_ok-slot.ensures ∙ c.in-Some-2.is in
    let rest : slots_with [] c.loop-word.rest.now ≡ slot ∷ slots_with [] more = ap (slots_with []) c.in-Some.ensures.cases.0 ∙ held_last [] more word ∙ ap (λ o. with_word o (slots_with [] more)) holds in
    ap (λ ys. ys ++ slots_with [] more) c.in_ok-push.ensures.items ∙ append_assoc c.loop-word.slots.items (slot ∷ []) (slots_with [] more) ∙ ap (λ ys. c.loop-word.slots.items ++ ys) (sym rest) ∙ c.loop-word.invariant
