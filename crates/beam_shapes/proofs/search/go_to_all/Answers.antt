use Rattle.std.proofs.Common.{◌≡◌, ◌∙◌, ℕ, Bool, true, List, ◌∷◌, length, sym, subst, ap, refl, rules}
use Rattle.std.specs.List.{list_all}
use Rattle.std.proofs.lemmas.Bool.{and_from}
use Rattle.std.proofs.lemmas.Result.{err_from_is_err_and}
use Rattle.std.proofs.lemmas.List.{nil_from_length}
use Rattle.beam_model.specs.Prelude.{Assignment, may_have, shape_of_label}
use Rattle.beam_shapes.specs.Prelude.{Forces, Fails, MayGo, assigned, shown, Parts}
use Rattle.beam_shapes.proofs.Forced.{forces_none, spreads_none, spreads_both}
use Rattle.beam_shapes.proofs.Listed.{forces_next, fails_next, fails_now}
use Rattle.beam_shapes.proofs.Fits.{does_err}
use Rattle.beam_shapes.proofs.Looked.{label_up}
use Rattle.beam_shapes.proofs.search.go_to_all.Goals as goal

pub returns-in_err-go_to-clause-does : goal.returns-in_err-go_to-clause-does
returns-in_err-go_to-clause-does c =
    let p = err_from_is_err_and c.from_residual.result c.from_residual.ensures.1 in
    let f : Assignment → ℕ → Bool = λ a label. may_have (shown c.args.known.now.parts c.args.shape) (shape_of_label a c.args.code.now label) in
    let e = c.in_err-go_to.field-0.0 in let mid = c.loop-label.known in
    let label = c.in-Some.label.now in let others = c.in-Some.others.now in
    let is : c.loop-label.rest.now ≡ label ∷ others = search rules in
    let no : Fails e (λ a. f a label ≡ true) mid =
    subst (λ (q : Parts). Fails e (λ a. may_have (shown q c.args.shape) (shape_of_label a c.args.code.now label) ≡ true) mid) c.loop-label.invariant.parts c.in_err-go_to.ensures.does in
    does_err c.from_residual.result p.0 e (λ a. list_all (f a) c.args.labels.now ≡ true) c.args.known.now c.go_to.new.known p.1 p.2
    (c.loop-label.invariant.fails e (subst (λ (ls : List ℕ). Fails e (λ a. list_all (f a) ls ≡ true) mid) (sym is) (fails_now f label others mid e no)))

pub loop-label-preserved : goal.loop-label-preserved
loop-label-preserved c =
    let f : Assignment → ℕ → Bool = λ a label. may_have (shown c.args.known.now.parts c.args.shape) (shape_of_label a c.args.code.now label) in
    let mid = c.loop-label.known in let then = c.go_to.new.known in
    let label = c.in-Some.label.now in let others = c.in-Some.others.now in
    let is : c.loop-label.rest.now ≡ label ∷ others = search rules in
    let one : Forces (λ a. f a label ≡ true) mid then =
    subst (λ (q : Parts). Forces (λ a. may_have (shown q c.args.shape) (shape_of_label a c.args.code.now label) ≡ true) mid then) c.loop-label.invariant.parts c.in_ok-go_to.ensures.does in record {
      parts = c.in_ok-go_to.ensures.parts ∙ c.loop-label.invariant.parts;
      places = one.long ∙ c.loop-label.invariant.places;
      forces = λ new two. c.loop-label.invariant.forces new (subst (λ (ls : List ℕ). Forces (λ a. list_all (f a) ls ≡ true) mid new) (sym is) (forces_next f label others mid then new one two));
      fails = λ e two. c.loop-label.invariant.fails e (subst (λ (ls : List ℕ). Fails e (λ a. list_all (f a) ls ≡ true) mid) (sym is) (fails_next f label others mid then e one two));
      goes = λ new up rest.
          let a : Assignment = assigned then.known in let b : Assignment = assigned new.known in
          let s = shown c.args.known.now.parts c.args.shape in
          let here : may_have s (shape_of_label a c.args.code.now label) ≡ true =
          subst (λ (q : Parts). may_have (shown q c.args.shape) (shape_of_label a c.args.code.now label) ≡ true) c.loop-label.invariant.parts c.in_ok-go_to.ensures.goes in
          let still = label_up a b up.rise c.args.code.now s label here in
          c.loop-label.invariant.goes new (spreads_both mid then new one.spreads up)
          (subst (λ (ls : List ℕ). MayGo b c.args.code.now s ls) (sym is) (and_from (f b label) (list_all (f b) others) still rest));
    }

pub returns-clause-does : goal.returns-clause-does
returns-clause-does c =
    let f : Assignment → ℕ → Bool = λ a label. may_have (shown c.args.known.now.parts c.args.shape) (shape_of_label a c.args.code.now label) in
    let zero : length c.loop-label.rest.now ≡ 0 = search rules in
    let none = nil_from_length c.loop-label.rest.now zero in
    let k = c.loop-label.known in
    c.loop-label.invariant.forces k (forces_none (λ a. list_all (f a) c.loop-label.rest.now ≡ true) k (ap (list_all (f (assigned k.known))) none))

pub returns-clause-goes : goal.returns-clause-goes
returns-clause-goes c =
    let s = shown c.args.known.now.parts c.args.shape in
    let zero : length c.loop-label.rest.now ≡ 0 = search rules in
    let none = nil_from_length c.loop-label.rest.now zero in
    let k = c.loop-label.known in
    c.loop-label.invariant.goes k (spreads_none k) (subst (λ (ls : List ℕ). MayGo (assigned k.known) c.args.code.now s ls) (sym none) refl)
