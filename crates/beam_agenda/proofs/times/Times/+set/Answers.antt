use Rattle.std.proofs.Common.{◌≡◌, ℕ, ◌<◌, ◌≤◌, List, length, rules, sym, ap, subst, ◌∙◌, arith, Option}
use Rattle.std.proofs.Math.ListN.{set, length-set}
use Rattle.std.proofs.lemmas.List.{set-get_or}
use Rattle.beam_agenda.specs.TimeLevels.{LevelsAgree}
use Rattle.beam_agenda.proofs.Same.{same_due}
use Rattle.beam_agenda.proofs.LevelAbove.{above_shorter, half_within, set_above}
use Rattle.beam_agenda.proofs.times.Times.+set.Goals as goal
use Rattle.beam_agenda.proofs.times.Times.+set.Goals.{in-Top, in-Level}

pub set-requires : goal.set-requires
set-requires t c =
    let ts : List (Option ℕ) = c.self.inside.times.items in
    let s = subst (LevelsAgree ts) c.in-Level.is c.self.invariant in
    let shorter : length c.deref_mut.result.now < length c.args.self.now = subst (λ (ts : List (Option ℕ)). length c.deref_mut.result.now < length ts) c.self.view_is (above_shorter ts c.deref_mut.result.now s.0 (c.deref_mut.ensures.value ∙ s.1)) in
    (first_of (search (rules, shorter), omega (arith, shorter, c.decreases)), half_within ts c.deref_mut.result.now c.args.index (c.deref_mut.ensures.value ∙ s.1) (rw (← c.self.view_is) at c.requires))

pub invariant_of-self : goal.invariant_of-self
invariant_of-self t c =
    let ts : List (Option ℕ) = c.self.inside.times.items in
    elim c.match-self.branch [
      | in-Top w ↦
          let s : length ts ≤ 1 = subst (LevelsAgree ts) w.in-Top.is c.self.invariant in
          rw (w.self-inside-is, w.in-Top.is) (omega (arith, s, length-set ts c.args.index c.args.due))
      | in-Level w ↦
          let s = subst (LevelsAgree ts) w.in-Level.is c.self.invariant in
          rw w.self-inside-is (set_above ts w.in-Level.above.value w.set.new.self c.args.index c.args.due c.pair-pair.result (s.0, s.1) (rw c.deref.ensures.value at c.pair-pair.ensures) (rw w.deref_mut.ensures.value at w.set.ensures))
    ]

pub returns-then-eq : goal.returns-then-eq
returns-then-eq t c =
    let ts : List (Option ℕ) = c.self.inside.times.items in
    let same : c.index.result.now ≡ c.args.due = same_due c.index.result.now c.args.due (sym c.eq.ensures ∙ c.if-eq.true) in
    let stays : set ts c.args.index c.args.due ≡ ts = ap (set ts c.args.index) (sym same ∙ c.index.ensures) ∙ set-get_or ts c.args.index c.index.result.now in
    subst (λ (ts : List (Option ℕ)). ts ≡ set ts c.args.index c.args.due) c.self.view_is (sym stays)
