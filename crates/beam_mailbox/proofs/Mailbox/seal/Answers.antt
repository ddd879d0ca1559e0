use Rattle.std.proofs.Common.{◌≡◌, ◌<◌, List, [], ◌∷◌, ◌++◌, length, ap, subst, sym, ◌∙◌, rules, arith}
use Rattle.std.proofs.lemmas.List.Elements.{All-push}
use Rattle.beam_model.specs.Prelude.{Mailbox}
use Rattle.beam_term.specs.Prelude.{TermValue}
use Rattle.beam_mailbox.specs.Chunks.{joined, AreFilled, IsAt}
use Rattle.beam_mailbox.proofs.Pointer.{at_moved, sealed_messages}
use Rattle.beam_mailbox.proofs.Mailbox.seal.Goals as goal

pub invariant_of-self-2 : goal.invariant_of-self-2
invariant_of-self-2 c =
    let pushed : c.push_back_reserved.new.self.items ≡ c.self.inside.chunks.items ++ c.in_ok-chunk.chunk ∷ [] = c.push_back_reserved.ensures.items ∙ ap (λ (l : List (List TermValue)). l ++ c.in_ok-chunk.chunk ∷ []) c.reserve.ensures.items in
    let messages : joined c.push_back_reserved.new.self.items ++ c.take_first.new.queue.items ≡ joined c.self.inside.chunks.items ++ c.self.inside.last.items = ap (λ (l : List (List TermValue)). joined l ++ c.take_first.new.queue.items) pushed ∙ sealed_messages c.self.inside.chunks.items c.in_ok-chunk.chunk c.self.inside.last.items c.take_first.new.queue.items c.in_ok-chunk.ensures.all in
    let many : c.len-2.result ≡ length c.self.inside.chunks.items = search rules in
    let some : 0 < length c.in_ok-chunk.chunk = omega (arith, c.in_ok-chunk.ensures.count) in (
      c.self.invariant.0 ∙ ap length (sym messages),
      subst (λ (l : List (List TermValue)). AreFilled l) (sym pushed) (All-push (λ (x : List TermValue). 0 < length x) c.self.inside.chunks.items c.in_ok-chunk.chunk c.self.invariant.1 some),
      subst (λ (l : List (List TermValue)). IsAt l c.take_first.new.queue.items c.moved-at.result.0 c.moved-at.result.1 c.self.inside.position) (sym pushed) (at_moved c.self.inside.chunks.items c.in_ok-chunk.chunk c.self.inside.last.items c.take_first.new.queue.items c.len-2.result c.self.inside.chunk c.self.inside.place c.self.inside.position c.moved-at.result.0 c.moved-at.result.1 many c.in_ok-chunk.ensures.count c.in_ok-chunk.ensures.all c.moved-at.ensures.into c.moved-at.ensures.stays c.self.invariant.2),
      c.self.invariant.3,
    )

pub returns : goal.returns
returns c =
    let pushed : c.push_back_reserved.new.self.items ≡ c.self.inside.chunks.items ++ c.in_ok-chunk.chunk ∷ [] = c.push_back_reserved.ensures.items ∙ ap (λ (l : List (List TermValue)). l ++ c.in_ok-chunk.chunk ∷ []) c.reserve.ensures.items in
    let messages : joined c.push_back_reserved.new.self.items ++ c.take_first.new.queue.items ≡ joined c.self.inside.chunks.items ++ c.self.inside.last.items = ap (λ (l : List (List TermValue)). joined l ++ c.take_first.new.queue.items) pushed ∙ sealed_messages c.self.inside.chunks.items c.in_ok-chunk.chunk c.self.inside.last.items c.take_first.new.queue.items c.in_ok-chunk.ensures.all in
    let view : List TermValue → Mailbox = λ ms. record { messages = ms; position = c.self.inside.position } in
    ap view messages ∙ c.self.view_is
