use Rattle.std.proofs.Common.{rules, ◌≡◌, ◌++◌, ◌∷◌, sym, ap, ◌∙◌, append_assoc}
use Rattle.beam_watches.proofs.shared_monitors.gather.Goals as goal

pub loop-reference-preserved : goal.loop-reference-preserved
loop-reference-preserved c =
    let before = c.loop-reference.all.items in
    let cloned : c.in_ok-clone.field-0 ≡ c.in-Some.pid.now = search rules in
    let same : c.push.new.self.items ++ c.next.new.self ≡ before ++ c.loop-reference.reference-iterator =
    ap (λ l. l ++ c.next.new.self) c.in_ok-push.ensures.items ∙ append_assoc before _ _
    ∙ ap (λ t. before ++ (c.in-Some.reference.now, t) ∷ c.next.new.self) cloned ∙ ap (λ l. before ++ l) (sym c.in-Some.ensures.steps) in
    same ∙ c.loop-reference.invariant
