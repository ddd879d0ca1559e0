use Rattle.std.proofs.Common.{arith, rules, ◌≡◌, ◌∙◌, ap, List, length}
use Rattle.beam_term.specs.Prelude.{TermValue, list_before, pair_term}
use Rattle.beam_tools.proofs.Elements.{list_before-push, longer, no_list}
use Rattle.beam_tools.proofs.arguments.elements.Goals as goal

pub returns-then-len-eq-MAX_ARITY-clause-wrong : goal.returns-then-len-eq-MAX_ARITY-clause-wrong
returns-then-len-eq-MAX_ARITY-clause-wrong c = λ _ xs e.
    let items : List TermValue = c.loop-items.items.items in
    let full : length items ≡ 255 = search rules in
    let more = longer items xs c.in-Pair.head.now c.in-Pair.tail.now
    (ap (list_before items) c.in-Pair.ensures.value ∙ c.loop-items.invariant.list ∙ e) in
    omega arith

pub loop-items-preserved : goal.loop-items-preserved
loop-items-preserved c =
    let items : List TermValue = c.loop-items.items.items in
    let tail : TermValue = c.in-Pair.tail.now in
    record {
      list = ap (λ (xs : List TermValue). list_before xs tail) c.in_ok-push-in-Pair.ensures.items
          ∙ list_before-push items c.in-Ok.item tail
          ∙ ap (λ (x : TermValue). list_before items (pair_term x tail)) c.in-Ok.ensures.ok
          ∙ ap (list_before items) c.in-Pair.ensures.value ∙ c.loop-items.invariant.list;
      few = search rules;
    }

pub returns-in_default : goal.returns-in_default
returns-in_default c = record {
  list = tt;
  few = tt;
  wrong = λ _ xs e. absurd (no_list c.loop-items.items.items xs c.loop-items.rest.now c.view.result c.view.ensures.value
      (c.loop-items.invariant.list ∙ e) c.in_default.not-Nil c.in_default.not-Pair);
}
