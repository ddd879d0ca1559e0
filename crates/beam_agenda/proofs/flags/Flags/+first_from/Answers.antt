use Rattle.std.proofs.Common.{◌≡◌, ◌+◌, ◌*◌, ◌/◌, ℕ, List, length, take, ap, subst, ◌∙◌, arith, None}
use Rattle.beam_agenda.specs.FlagLevels.{LevelsAgree}
use Rattle.beam_agenda.specs.Prelude.{is_set, position_from}
use Rattle.beam_agenda.proofs.Counting.{length-above, first_same_group, no_later_group, first_later_group}
use Rattle.beam_agenda.proofs.Positions.{position_within, all_within}
use Rattle.beam_agenda.proofs.flags.Flags.+first_from.Goals as goal

pub returns-in-Some-clause-first : goal.returns-in-Some-clause-first
returns-in-Some-clause-first t c =
    first_same_group c.args.from c.in-Some.at c.self.inside.numbers.items (rw c.deref.ensures.value at c.in-Some.ensures)
    ∙ ap (position_from is_set c.args.from) c.self.view_is

pub returns-in-Some-clause-within : goal.returns-in-Some-clause-within
returns-in-Some-clause-within t c = position_within is_set c.args.from c.args.self.now c.in-Some.at (returns-in-Some-clause-first t c)

pub returns-in_err-group-clause-first : goal.returns-in_err-group-clause-first
returns-in_err-group-clause-first t c =
    let ns : List ℕ = c.self.inside.numbers.items in
    let s = subst (LevelsAgree ns) c.in-Level.is c.self.invariant in
    let none : None ≡ position_from is_set c.args.from (take (16 * (c.args.from / 16) + 16) ns) = rw c.deref.ensures.value at c.in_default.ensures in
    c.from_residual.ensures
    ∙ (no_later_group c.args.from ns c.deref-2.result.now none (c.deref-2.ensures ∙ s.1) c.in_err-group.ensures.first
    ∙ ap (position_from is_set c.args.from) c.self.view_is)

pub overflow_mul-group : goal.overflow_mul-group
overflow_mul-group t c =
    let ns : List ℕ = c.self.inside.numbers.items in
    let s = subst (LevelsAgree ns) c.in-Level.is c.self.invariant in
    omega (arith, c.in_ok-group.ensures.within, length-above ns c.deref-2.result.now (c.deref-2.ensures ∙ s.1), c.self.inside.numbers.ok)

pub first_in_group-requires-2 : goal.first_in_group-requires-2
first_in_group-requires-2 t c =
    let ns : List ℕ = c.self.inside.numbers.items in
    let s = subst (LevelsAgree ns) c.in-Level.is c.self.invariant in
    omega (arith, c.in_ok-group.ensures.within, length-above ns c.deref-2.result.now (c.deref-2.ensures ∙ s.1), ap length c.deref-3.ensures.value)

pub returns-clause-first : goal.returns-clause-first
returns-clause-first t c =
    let ns : List ℕ = c.self.inside.numbers.items in
    let s = subst (LevelsAgree ns) c.in-Level.is c.self.invariant in
    let none : None ≡ position_from is_set c.args.from (take (16 * (c.args.from / 16) + 16) ns) = rw c.deref.ensures.value at c.in_default.ensures in
    rw c.deref-3.ensures.value at c.first_in_group-2.ensures
    ∙ (first_later_group c.args.from c.in_ok-group.group ns c.deref-2.result.now none (c.deref-2.ensures ∙ s.1) c.in_ok-group.ensures.first
    ∙ ap (position_from is_set c.args.from) c.self.view_is)

pub returns-clause-within : goal.returns-clause-within
returns-clause-within t c = all_within is_set c.args.from c.args.self.now c.first_in_group-2.result (returns-clause-first t c)
