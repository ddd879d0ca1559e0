use Rattle.std.proofs.Common.{◌≡◌, ℕ, List, slice_get, sym, ap, subst, ◌∙◌, Option, Some}
use Rattle.std.proofs.lemmas.Option.{slice_get-get_or}
use Rattle.beam_agenda.specs.Prelude.{is_due_by, position_from}
use Rattle.beam_agenda.specs.TimeLevels.{LevelsAgree}
use Rattle.beam_agenda.proofs.Due.{pair_within, climbs_some, climbs_none}
use Rattle.beam_agenda.proofs.Positions.{position_within}
use Rattle.beam_agenda.proofs.times.Times.+first_due.Goals as goal

pub due_of_pair-requires : goal.due_of_pair-requires
due_of_pair-requires t c =
    let ts : List (Option ℕ) = c.self.inside.times.items in
    let s = subst (LevelsAgree ts) c.in-Level.is c.self.invariant in
    rw c.deref-in-Some.ensures.value (pair_within c.args.by _ ts c.deref-2.result.now c.in-Some.pair (c.deref-2.ensures ∙ s.1) (sym c.in-Some.is ∙ c.first_due.ensures.first))

pub returns-in-Some-clause-first : goal.returns-in-Some-clause-first
returns-in-Some-clause-first t c =
    let ts : List (Option ℕ) = c.self.inside.times.items in
    let s = subst (LevelsAgree ts) c.in-Level.is c.self.invariant in
    let l = rw c.deref.ensures.value at c.in_ok-due.ensures.lookup in
    let there : slice_get ts c.args.from ≡ Some c.in_ok-due.due.now = slice_get-get_or ts c.args.from c.in_ok-due.due.now l.3.0 ∙ ap Some (sym l.1) in
    climbs_some c.args.by c.args.from ts c.deref-2.result.now c.in_ok-due.due.now c.in-Some.pair c.due_of_pair.result there (sym c.is_due_by.ensures ∙ c.if-is_due_by.false) (c.deref-2.ensures ∙ s.1)
    (sym c.in-Some.is ∙ c.first_due.ensures.first) (rw c.deref-in-Some.ensures.value at c.due_of_pair.ensures)
    ∙ ap (position_from (is_due_by c.args.by) c.args.from) c.self.view_is

pub returns-in-None-clause-first : goal.returns-in-None-clause-first
returns-in-None-clause-first t c =
    let ts : List (Option ℕ) = c.self.inside.times.items in
    let s = subst (LevelsAgree ts) c.in-Level.is c.self.invariant in
    let l = rw c.deref.ensures.value at c.in_ok-due.ensures.lookup in
    let there : slice_get ts c.args.from ≡ Some c.in_ok-due.due.now = slice_get-get_or ts c.args.from c.in_ok-due.due.now l.3.0 ∙ ap Some (sym l.1) in
    climbs_none c.args.by c.args.from ts c.deref-2.result.now c.in_ok-due.due.now there (sym c.is_due_by.ensures ∙ c.if-is_due_by.false) (c.deref-2.ensures ∙ s.1)
    (sym c.in-None.is ∙ c.first_due.ensures.first)
    ∙ ap (position_from (is_due_by c.args.by) c.args.from) c.self.view_is

pub returns-in-Some-clause-within : goal.returns-in-Some-clause-within
returns-in-Some-clause-within t c = position_within (is_due_by c.args.by) c.args.from c.args.self.now c.due_of_pair.result (returns-in-Some-clause-first t c)
