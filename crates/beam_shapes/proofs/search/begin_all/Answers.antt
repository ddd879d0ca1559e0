use Rattle.std.proofs.Common.{◌≡◌, ◌∙◌, ℕ, Bool, true, List, length, ◌∷◌, ◌++◌, sym, subst, ap, rules}
use Rattle.std.specs.List.{list_all}
use Rattle.std.proofs.lemmas.Result.{err_from_is_err_and}
use Rattle.std.proofs.lemmas.List.{nil_from_length}
use Rattle.beam_model.specs.declared.instruction.Instruction.{Instruction}
use Rattle.beam_model.specs.Prelude.{Assignment, begins_bare, entries, entry_by, in_list}
use Rattle.beam_shapes.specs.Prelude.{assigned, Forces, Fails}
use Rattle.beam_shapes.proofs.Forced.{forces_none}
use Rattle.beam_shapes.proofs.Listed.{forces_all, fails_others, fails_some}
use Rattle.beam_shapes.proofs.Fits.{does_err}
use Rattle.beam_shapes.proofs.search.begin_all.Goals as goal

entries_are : (rest others : List Instruction) (i : Instruction) (labels : List ℕ) → rest ≡ i ∷ others → labels ≡ entry_by i.opcode others → labels ++ entries others ≡ entries rest
entries_are rest others i labels is entry = ap (λ (ls : List ℕ). ls ++ entries others) entry ∙ ap entries (sym is)

pub returns-in_err-begin_if : goal.returns-in_err-begin_if
returns-in_err-begin_if c =
    let p = err_from_is_err_and c.from_residual.result c.from_residual.ensures.1 in
    let f : Assignment → ℕ → Bool = λ a label. begins_bare a c.args.code.now label in
    let e = c.in_err-begin_if.field-0.0 in let mid = c.loop-instruction.known in
    let i = c.in-Some.instruction.now in let others = c.in-Some.others.now in let labels = in_list c.entry.result in
    let is : c.loop-instruction.rest.now ≡ i ∷ others = search rules in
    does_err c.from_residual.result p.0 e (λ a. list_all (f a) (entries c.args.code.now) ≡ true) c.args.known.now c.begin_if.new.known p.1 p.2
    (c.loop-instruction.invariant.fails e (subst (λ (ls : List ℕ). Fails e (λ a. list_all (f a) ls ≡ true) mid) (entries_are c.loop-instruction.rest.now others i labels is c.entry.ensures)
    (fails_some f labels (entries others) mid e c.in_err-begin_if.ensures.does)))

pub loop-instruction-preserved : goal.loop-instruction-preserved
loop-instruction-preserved c =
    let f : Assignment → ℕ → Bool = λ a label. begins_bare a c.args.code.now label in
    let mid = c.loop-instruction.known in let then = c.begin_if.new.known in
    let i = c.in-Some.instruction.now in let others = c.in-Some.others.now in let labels = in_list c.entry.result in
    let is : c.loop-instruction.rest.now ≡ i ∷ others = search rules in
    let all = entries_are c.loop-instruction.rest.now others i labels is c.entry.ensures in
    let one : Forces (λ a. list_all (f a) labels ≡ true) mid then = c.in_ok-begin_if.ensures.does in record {
      places = one.long ∙ c.loop-instruction.invariant.places;
      forces = λ new two. c.loop-instruction.invariant.forces new (subst (λ (ls : List ℕ). Forces (λ a. list_all (f a) ls ≡ true) mid new) all (forces_all f labels (entries others) mid then new one two));
      fails = λ e two. c.loop-instruction.invariant.fails e (subst (λ (ls : List ℕ). Fails e (λ a. list_all (f a) ls ≡ true) mid) all (fails_others f labels (entries others) mid then e one two));
    }

pub returns : goal.returns
returns c =
    let f : Assignment → ℕ → Bool = λ a label. begins_bare a c.args.code.now label in
    let zero : length c.loop-instruction.rest.now ≡ 0 = search rules in
    let none = nil_from_length c.loop-instruction.rest.now zero in
    let k = c.loop-instruction.known in
    c.loop-instruction.invariant.forces k
    (forces_none (λ a. list_all (f a) (entries c.loop-instruction.rest.now) ≡ true) k (ap (λ (is : List Instruction). list_all (f (assigned k.known)) (entries is)) none))
