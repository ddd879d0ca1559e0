use Rattle.std.proofs.Common.{◌≡◌, ◌||◌, true, not, ◌∷◌, refl, ap, sym, ◌∙◌, rules}
use Rattle.beam_model.specs.Prelude.{defined_labels, is_among}
use Rattle.beam_check.specs.LabelSet.{has_label}
use Rattle.beam_check.proofs.LabelTests.{are_unmarked, none_marked, one_more, among_more}
use Rattle.beam_check.proofs.labels.defined.Goals as goal

pub loop-instruction-init : goal.loop-instruction-init
loop-instruction-init c = record {
  marked = λ n. ap (λ b. b || is_among n (defined_labels c.args.instructions.now)) (c.in_ok-labels.ensures n);
  new = none_marked (has_label c.in_ok-labels.labels) (defined_labels c.args.instructions.now) c.in_ok-labels.ensures;
  below = refl;
}

pub loop-instruction-preserved-else-not-branch : goal.loop-instruction-preserved-else-not-branch
loop-instruction-preserved-else-not-branch c =
    let step : defined_labels c.loop-instruction.rest.now ≡ c.in-Some-label.label ∷ defined_labels c.in-Some.others.now = search rules in
    let added : true ≡ not (has_label c.loop-instruction.labels c.in-Some-label.label) = search rules in
    record {
      marked = λ n. among_more (has_label c.loop-instruction.labels) (has_label c.insert.new.self) c.in-Some-label.label (defined_labels c.in-Some.others.now) c.in_ok-insert.ensures.marked n
          ∙ ap (λ ns. has_label c.loop-instruction.labels n || is_among n ns) (sym step) ∙ c.loop-instruction.invariant.marked n;
      new = one_more (has_label c.loop-instruction.labels) (has_label c.insert.new.self) c.in-Some-label.label (defined_labels c.in-Some.others.now) c.in_ok-insert.ensures.marked added
          ∙ ap (are_unmarked (has_label c.loop-instruction.labels)) (sym step) ∙ c.loop-instruction.invariant.new;
      below = search rules;
    }
