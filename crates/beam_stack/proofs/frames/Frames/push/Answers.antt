use Rattle.std.proofs.Common.{◌≡◌, false, length, ap, sym, ◌∙◌, subst, ◌++◌, [], ◌∷◌, Some, None, List, arith}
use Rattle.std.proofs.lemmas.List.{length_push}
use Rattle.beam_stack.specs.Word as word
use Rattle.beam_machine.specs.declared.process.Frame.{Frame}
use Rattle.beam_machine.specs.Prelude.{words_of}
use Rattle.beam_stack.specs.Prelude.{y_count, frames_of, IsStack}
use Rattle.beam_stack.proofs.Grown.{one_more}
use Rattle.beam_stack.proofs.Heads.{pushed}
use Rattle.beam_stack.proofs.frames.Frames.push.Goals as goal

pub invariant_of-self-2 : goal.invariant_of-self-2
invariant_of-self-2 c =
    let items = c.self.inside.words.items in
    let below = c.y_count-below.result in
    let head = word.Head (Some c.args.back) false below in
    let long : c.len-newest.result ≡ length items = c.len-newest.ensures ∙ c.self.inside.words.ok.0 in
    let says : below ≡ y_count (frames_of items) = c.y_count-below.ensures ∙ sym (ap y_count c.self.view_is) in
    let made : IsStack (items ++ head ∷ []) (length items) = pushed items c.self.inside.newest (Some c.args.back) below c.self.invariant.0 says in (
      subst (λ ws. IsStack ws c.len-newest.result) (sym (c.in_ok-push_word.ensures.ok ∙ ap (λ w. items ++ w ∷ []) c.head.ensures)) (subst (λ n. IsStack (items ++ head ∷ []) n) (sym long) made),
      omega (arith, ap length (c.in_ok-push_word.ensures.ok ∙ ap (λ w. items ++ w ∷ []) c.head.ensures), length_push items head, c.self.invariant.0.whole, ap words_of c.self.view_is, c.requires.room),
    )

pub returns-clause-ok : goal.returns-clause-ok
returns-clause-ok c =
    let on : Frame → List Frame → List Frame = λ f fs. f ∷ fs in
    ap frames_of (c.in_ok-push_word.ensures.ok ∙ ap (λ w. c.self.inside.words.items ++ w ∷ []) c.head.ensures) ∙ one_more c.self.inside.words.items (word.Head (Some c.args.back) false c.y_count-below.result)
    ∙ ap (on (record { back = Some c.args.back; y = None })) c.self.view_is
