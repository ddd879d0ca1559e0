use Rattle.std.proofs.Common.{◌≡◌, ◌∙◌, ℕ, Bool, true, List, Option, subst, IfOk}
use Rattle.std.specs.List.{list_all}
use Rattle.std.proofs.lemmas.Bool.{and_parts, and_from}
use Rattle.beam_model.specs.Prelude.{Assignment, begins_bare, in_list, called, targets, may_have, shape_of_label, leads}
use Rattle.beam_shapes.specs.Prelude.{Forces, Does, MayGo, assigned, shown, Parts}
use Rattle.beam_shapes.proofs.Listed.{does_as, does_both}
use Rattle.beam_shapes.proofs.search.lead.Goals as goal

pub returns-clause-does : goal.returns-clause-does
returns-clause-does c =
    let code = c.args.code.now in let i = c.args.instruction.now in let old = c.args.known.now in
    let mid = c.begin_if.new.known in let new = c.go_to_all.new.known in let r = c.go_to_all.result in
    let s = shown old.parts c.args.shape in
    let C : Assignment → Type 0 = λ a. list_all (begins_bare a code) (in_list (called i)) ≡ true in
    let D : Assignment → Type 0 = λ a. list_all (λ label. may_have s (shape_of_label a code label)) (targets i s) ≡ true in
    let one : Forces C old mid = subst (λ (o : Option ℕ). Forces (λ a. list_all (begins_bare a code) (in_list o) ≡ true) old mid) c.called.ensures c.in_ok-begin_if.ensures.does in
    let two : Does r (λ a. list_all (λ label. may_have s (shape_of_label a code label)) c.deref.result.now ≡ true) mid new =
    subst (λ (q : Parts). Does r (λ a. list_all (λ label. may_have (shown q c.args.shape) (shape_of_label a code label)) c.deref.result.now ≡ true) mid new) c.in_ok-begin_if.ensures.parts c.go_to_all.ensures.does in
    let three : Does r D mid new =
    subst (λ (ls : List ℕ). Does r (λ a. list_all (λ label. may_have s (shape_of_label a code label)) ls ≡ true) mid new) (c.deref.ensures.value ∙ c.in_ok-labels.ensures) two in
    let calls : Assignment → Bool = λ a. list_all (begins_bare a code) (in_list (called i)) in
    let goes : Assignment → Bool = λ a. list_all (λ label. may_have s (shape_of_label a code label)) (targets i s) in
    does_as r (λ a. C a × D a) (λ a. leads a code i s ≡ true) old new (λ a below h. and_parts (calls a) (goes a) h) (λ h. and_from (calls (assigned old.known)) (goes (assigned old.known)) h.0 h.1)
    (does_both r C D old mid new one three)

pub returns-clause-goes : goal.returns-clause-goes
returns-clause-goes c =
    let code = c.args.code.now in let i = c.args.instruction.now in let old = c.args.known.now in
    let a : Assignment = assigned c.go_to_all.new.known.known in let r = c.go_to_all.result in
    let s = shown old.parts c.args.shape in
    let two : IfOk r (λ x. MayGo a code s c.deref.result.now) =
    subst (λ (q : Parts). IfOk r (λ x. MayGo a code (shown q c.args.shape) c.deref.result.now)) c.in_ok-begin_if.ensures.parts c.go_to_all.ensures.goes in
    subst (λ (ls : List ℕ). IfOk r (λ x. MayGo a code s ls)) (c.deref.ensures.value ∙ c.in_ok-labels.ensures) two
