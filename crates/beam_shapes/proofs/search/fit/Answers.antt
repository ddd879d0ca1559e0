use Rattle.std.proofs.Common.{◌≡◌, ◌∙◌, ℕ, true, sym, subst, ap}
use Rattle.std.proofs.lemmas.Result.{err_from_is_err_and}
use Rattle.beam_model.specs.declared.instruction.Instruction.{Instruction}
use Rattle.beam_model.specs.Prelude.{next_row, Assignment, targets, may_fall_through, leads, fits, may_have, row_at, Shape}
use Rattle.beam_shapes.specs.Prelude.{assigned, MayGo, Flows, Forces, Fails, shown, Parts}
use Rattle.beam_shapes.proofs.Fits.{never_fits, fails_leading, fits_alone, fits_on, fails_on, flows_alone, flows_on, on_within, does_err}
use Rattle.beam_shapes.proofs.Looked.{labels_up}
use Rattle.beam_shapes.proofs.Registers.{shape_stays}
use Rattle.beam_shapes.proofs.search.fit.Goals as goal

pub lead-requires-clause-shape : goal.lead-requires-clause-shape
lead-requires-clause-shape c = (shape_stays c.args.known.now.parts c.left.new.self.parts c.in_ok-left.ensures.grows c.args.shape c.requires.shape).0

pub next_row-requires : goal.next_row-requires
next_row-requires c =
    on_within c.args.code.now c.args.at (ap may_fall_through (sym c.row_at-instruction.ensures) ∙ (sym c.may_fall_through.ensures ∙ c.if-may_fall_through.true))

pub returns-in_err-left-clause-does : goal.returns-in_err-left-clause-does
returns-in_err-left-clause-does c =
    let p = err_from_is_err_and c.from_residual.result c.from_residual.ensures.1 in
    let e = c.in_err-left.field-0.0 in let code = c.args.code.now in let old = c.args.known.now in let next = next_row c.args.at code in
    let s = shown old.parts c.args.shape in
    let no = never_fits code c.row_at-instruction.result.now next s old e c.in_err-left.ensures.left in
    does_err c.from_residual.result p.0 e (λ a. fits a code (row_at code c.args.at) next s ≡ true) old c.left.new.self p.1 p.2
    (subst (λ (j : Instruction). Fails e (λ a. fits a code j next s ≡ true) old) c.row_at-instruction.ensures no)

pub returns-in_err-lead-clause-does : goal.returns-in_err-lead-clause-does
returns-in_err-lead-clause-does c =
    let p = err_from_is_err_and c.from_residual-in_err-lead.result c.from_residual-in_err-lead.ensures.1 in
    let e = c.in_err-lead.field-0.0 in let code = c.args.code.now in let old = c.args.known.now in let next = next_row c.args.at code in
    let i = c.row_at-instruction.result.now in let mid = c.left.new.self in
    let s = shown old.parts c.args.shape in
    let same = (shape_stays old.parts mid.parts c.in_ok-left.ensures.grows c.args.shape c.requires.shape).1 in
    let led : Fails e (λ a. leads a code i s ≡ true) mid = subst (λ (t : Shape). Fails e (λ a. leads a code i t ≡ true) mid) same c.in_err-lead.ensures.does in
    let no = fails_leading code i next s (shown mid.parts c.in_ok-left.left) c.in_ok-left.ensures.left.0 c.in_ok-left.ensures.left.1 old mid c.in_ok-left.ensures.known c.in_ok-left.ensures.waiting e led in
    does_err c.from_residual-in_err-lead.result p.0 e (λ a. fits a code (row_at code c.args.at) next s ≡ true) old c.lead.new.known p.1 p.2
    (subst (λ (j : Instruction). Fails e (λ a. fits a code j next s ≡ true) old) c.row_at-instruction.ensures no)

pub returns-else-may_fall_through-clause-does : goal.returns-else-may_fall_through-clause-does
returns-else-may_fall_through-clause-does c =
    let code = c.args.code.now in let old = c.args.known.now in let next = next_row c.args.at code in
    let i = c.row_at-instruction.result.now in let mid = c.left.new.self in let new = c.lead.new.known in
    let s = shown old.parts c.args.shape in
    let same = (shape_stays old.parts mid.parts c.in_ok-left.ensures.grows c.args.shape c.requires.shape).1 in
    let led : Forces (λ a. leads a code i s ≡ true) mid new = subst (λ (t : Shape). Forces (λ a. leads a code i t ≡ true) mid new) same c.in_ok-lead.ensures.does in
    subst (λ (j : Instruction). Forces (λ a. fits a code j next s ≡ true) old new) c.row_at-instruction.ensures
    (fits_alone code i next s (shown mid.parts c.in_ok-left.left) c.in_ok-left.ensures.left.0 c.in_ok-left.ensures.left.1 old mid c.in_ok-left.ensures.known c.in_ok-left.ensures.waiting new (sym c.may_fall_through.ensures ∙ c.if-may_fall_through.false) led)

pub returns-in_ok-come-clause-does : goal.returns-in_ok-come-clause-does
returns-in_ok-come-clause-does c =
    let code = c.args.code.now in let old = c.args.known.now in let next = next_row c.args.at code in
    let i = c.row_at-instruction.result.now in let mid = c.left.new.self in let then = c.lead.new.known in let new = c.come.new.self in
    let s = shown old.parts c.args.shape in let l = shown mid.parts c.in_ok-left.left in
    let same = (shape_stays old.parts mid.parts c.in_ok-left.ensures.grows c.args.shape c.requires.shape).1 in
    let led : Forces (λ a. leads a code i s ≡ true) mid then = subst (λ (t : Shape). Forces (λ a. leads a code i t ≡ true) mid then) same c.in_ok-lead.ensures.does in
    let one : Forces (λ a. may_have l (a c.next_row.result) ≡ true) then new =
    subst (λ (q : Parts). Forces (λ a. may_have (shown q c.in_ok-left.left) (a c.next_row.result) ≡ true) then new) c.in_ok-lead.ensures.parts c.in_ok-come.ensures.come in
    let come : Forces (λ a. may_have l (a next) ≡ true) then new = subst (λ (n : ℕ). Forces (λ a. may_have l (a n) ≡ true) then new) c.next_row.ensures.row one in
    subst (λ (j : Instruction). Forces (λ a. fits a code j next s ≡ true) old new) c.row_at-instruction.ensures
    (fits_on code i next s l c.in_ok-left.ensures.left.0 c.in_ok-left.ensures.left.1 old mid c.in_ok-left.ensures.known c.in_ok-left.ensures.waiting then (sym c.may_fall_through.ensures ∙ c.if-may_fall_through.true) led new come)

pub returns-in_err-come-clause-does : goal.returns-in_err-come-clause-does
returns-in_err-come-clause-does c =
    let p = err_from_is_err_and c.from_residual-in_err-come.result c.from_residual-in_err-come.ensures.1 in
    let e = c.in_err-come.field-0.0 in let code = c.args.code.now in let old = c.args.known.now in let next = next_row c.args.at code in
    let i = c.row_at-instruction.result.now in let mid = c.left.new.self in let then = c.lead.new.known in
    let s = shown old.parts c.args.shape in let l = shown mid.parts c.in_ok-left.left in
    let same = (shape_stays old.parts mid.parts c.in_ok-left.ensures.grows c.args.shape c.requires.shape).1 in
    let led : Forces (λ a. leads a code i s ≡ true) mid then = subst (λ (t : Shape). Forces (λ a. leads a code i t ≡ true) mid then) same c.in_ok-lead.ensures.does in
    let one : Fails e (λ a. may_have l (a c.next_row.result) ≡ true) then =
    subst (λ (q : Parts). Fails e (λ a. may_have (shown q c.in_ok-left.left) (a c.next_row.result) ≡ true) then) c.in_ok-lead.ensures.parts c.in_err-come.ensures.come in
    let come : Fails e (λ a. may_have l (a next) ≡ true) then = subst (λ (n : ℕ). Fails e (λ a. may_have l (a n) ≡ true) then) c.next_row.ensures.row one in
    let no = fails_on code i next s l c.in_ok-left.ensures.left.0 c.in_ok-left.ensures.left.1 old mid c.in_ok-left.ensures.known c.in_ok-left.ensures.waiting then (sym c.may_fall_through.ensures ∙ c.if-may_fall_through.true) led e come in
    does_err c.from_residual-in_err-come.result p.0 e (λ a. fits a code (row_at code c.args.at) next s ≡ true) old c.come.new.self p.1 p.2
    (subst (λ (j : Instruction). Fails e (λ a. fits a code j next s ≡ true) old) c.row_at-instruction.ensures no)

pub returns-else-may_fall_through-clause-flows : goal.returns-else-may_fall_through-clause-flows
returns-else-may_fall_through-clause-flows c =
    let code = c.args.code.now in let old = c.args.known.now in let next = next_row c.args.at code in
    let i = c.row_at-instruction.result.now in let mid = c.left.new.self in let a : Assignment = assigned c.lead.new.known.known in
    let s = shown old.parts c.args.shape in
    let same = (shape_stays old.parts mid.parts c.in_ok-left.ensures.grows c.args.shape c.requires.shape).1 in
    let led : MayGo a code s (targets i s) = subst (λ (t : Shape). MayGo a code t (targets i t)) same c.in_ok-lead.ensures.goes in
    subst (λ (j : Instruction). Flows a code j next s) c.row_at-instruction.ensures
    (flows_alone a code i next s (shown mid.parts c.in_ok-left.left) c.in_ok-left.ensures.left.0 c.in_ok-left.ensures.left.1 led (sym c.may_fall_through.ensures ∙ c.if-may_fall_through.false))

pub returns-in_ok-come-clause-flows : goal.returns-in_ok-come-clause-flows
returns-in_ok-come-clause-flows c =
    let code = c.args.code.now in let old = c.args.known.now in let next = next_row c.args.at code in
    let i = c.row_at-instruction.result.now in let mid = c.left.new.self in let then = c.lead.new.known in
    let b : Assignment = assigned then.known in let a : Assignment = assigned c.come.new.self.known in
    let s = shown old.parts c.args.shape in let l = shown mid.parts c.in_ok-left.left in
    let same = (shape_stays old.parts mid.parts c.in_ok-left.ensures.grows c.args.shape c.requires.shape).1 in
    let first : MayGo b code s (targets i s) = subst (λ (t : Shape). MayGo b code t (targets i t)) same c.in_ok-lead.ensures.goes in
    let led : MayGo a code s (targets i s) = labels_up b a c.in_ok-come.ensures.come.spreads.rise code s (targets i s) first in
    let one : may_have l (a c.next_row.result) ≡ true =
    subst (λ (q : Parts). may_have (shown q c.in_ok-left.left) (a c.next_row.result) ≡ true) c.in_ok-lead.ensures.parts c.in_ok-come.ensures.comes in
    let come : may_have l (a next) ≡ true = subst (λ (n : ℕ). may_have l (a n) ≡ true) c.next_row.ensures.row one in
    subst (λ (j : Instruction). Flows a code j next s) c.row_at-instruction.ensures
    (flows_on a code i next s l c.in_ok-left.ensures.left.0 c.in_ok-left.ensures.left.1 led come)
