use Rattle.std.proofs.Common.{◌≡◌, ◌<◌, ℕ, true, false, Option, Some, ap, sym, ◌∙◌, subst, not, option_map, is_some, true≢false}
use Rattle.std.proofs.lemmas.Bool.{or_left, or_right}
use Rattle.beam_lemmas.proofs.Options.{not_some}
use Rattle.beam_model.specs.Prelude.{any, first_tag, may_have}
use Rattle.beam_shapes.specs.Prelude.{LiesUnder, Rises, room_of, shown}
use Rattle.beam_shapes.specs.declared.shape.Shape.{Shape as Kept}
use Rattle.beam_shapes.proofs.Lower.{never_both, any_both, room_falls, itself, rises_any}
use Rattle.beam_shapes.proofs.shape.joined.Goals as goal

pub returns-then-is_some-clause-joined : goal.returns-then-is_some-clause-joined
returns-then-is_some-clause-joined c = λ o under have.
    let p = c.args.trees.now in let u = shown p c.in-Some.known in let s = shown p c.args.shape in
    let one : may_have u o ≡ true = subst (λ (b : Option Kept). LiesUnder (option_map (shown p) b) o) c.in-Some.is under in
    let tag : is_some (first_tag u) ≡ true = ap is_some (sym c.first_tag.ensures) ∙ (sym c.is_some.ensures ∙ c.if-is_some.true) in
    never_both u s o (sym c.may_have.ensures ∙ c.if-may_have.false) (or_left (is_some (first_tag u)) (is_some (first_tag s)) tag) one have

pub returns-then-is_some-2-clause-joined : goal.returns-then-is_some-2-clause-joined
returns-then-is_some-2-clause-joined c = λ o under have.
    let p = c.args.trees.now in let u = shown p c.in-Some.known in let s = shown p c.args.shape in
    let one : may_have u o ≡ true = subst (λ (b : Option Kept). LiesUnder (option_map (shown p) b) o) c.in-Some.is under in
    let tag : is_some (first_tag s) ≡ true = ap is_some (sym c.first_tag-2.ensures) ∙ (sym c.is_some-2.ensures ∙ c.if-is_some-2.true) in
    never_both u s o (sym c.may_have.ensures ∙ c.if-may_have.false) (or_right (is_some (first_tag u)) (is_some (first_tag s)) tag) one have

pub returns-clause-joined : goal.returns-clause-joined
returns-clause-joined c =
    let p = c.args.trees.now in let u = shown p c.in-Some.known in let s = shown p c.args.shape in
    let apart : may_have s (Some u) ≡ false = sym c.may_have.ensures ∙ c.if-may_have.false in
    let none = not_some (first_tag s) (ap is_some (sym c.first_tag-2.ensures) ∙ (sym c.is_some-2.ensures ∙ c.if-is_some-2.false)) in (
      subst (λ (b : Option Kept). 0 < room_of (option_map (shown p) b)) (sym c.in-Some.is) (room_falls u s apart none),
      λ o under have. any_both u s o apart (subst (λ (b : Option Kept). LiesUnder (option_map (shown p) b) o) c.in-Some.is under) have,
    )

pub returns-in_default-clause-unites : goal.returns-in_default-clause-unites
returns-in_default-clause-unites c =
    let p = c.args.trees.now in let s = shown p c.args.shape in (
      itself s,
      subst (λ (b : Option Kept). Rises (option_map (shown p) b) (Some s)) (sym c.in_default.is) (λ t may. absurd (true≢false (sym may))),
    )

pub returns-clause-unites : goal.returns-clause-unites
returns-clause-unites c =
    let p = c.args.trees.now in let u = shown p c.in-Some.known in let s = shown p c.args.shape in
    let none = not_some (first_tag s) (ap is_some (sym c.first_tag-2.ensures) ∙ (sym c.is_some-2.ensures ∙ c.if-is_some-2.false)) in
    let none_known = not_some (first_tag u) (ap is_some (sym c.first_tag.ensures) ∙ (sym c.is_some.ensures ∙ c.if-is_some.false)) in (
      ap (λ (o : Option ℕ). not (is_some o)) none,
      subst (λ (b : Option Kept). Rises (option_map (shown p) b) (Some any)) (sym c.in-Some.is) (λ t may. rises_any u t none_known may),
    )
