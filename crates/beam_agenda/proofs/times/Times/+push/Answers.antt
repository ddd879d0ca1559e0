use Rattle.std.proofs.Common.{◌≡◌, ℕ, ◌%◌, ◌≤◌, List, [], ◌∷◌, ◌++◌, length, ap, subst, ◌∙◌, length-append, arith, Option}
use Rattle.beam_agenda.specs.declared.times.Above.TheVariants.{Top, Level}
use Rattle.beam_agenda.specs.declared.times.Times.TheInside.{Inside}
use Rattle.beam_agenda.specs.TimeLevels.{LevelsAgree}
use Rattle.beam_agenda.proofs.LevelAbove.{least-length-pairs, push_first, levels_as, push_even, push_odd}
use Rattle.beam_agenda.proofs.times.Times.+push.Goals as goal
use Rattle.beam_agenda.proofs.times.Times.+push.Goals.{in-Top, in-Top-2+in_ok-of_one-in-Top-2+in-Level-1, in-Top-2+in_ok-of_one-in-Top-2+in-Top-self-2, in-Level+in_ok-push-in-Level, in-Level-2}

pub set-requires : goal.set-requires
set-requires t c =
    let ts : List (Option ℕ) = c.self.inside.times.items in
    let s = subst (LevelsAgree ts) c.in-Level.is c.self.invariant in
    omega (arith, c.self.inside.times.ok, ap length (c.deref_mut-in-Level-2.ensures.value ∙ s.1), least-length-pairs ts)

pub invariant_of-self-2 : goal.invariant_of-self-2
invariant_of-self-2 t c =
    let ts : List (Option ℕ) = c.self.inside.times.items in
    let count : c.len-count.result ≡ length ts = omega (arith, c.self.inside.times.ok) in
    let push : List (Option ℕ) → List (Option ℕ) = λ ts. ts ++ c.args.due ∷ [] in
    let i : c.reserve.new.self.items ≡ ts = c.in_ok-reserve.ensures.items in
    let p = c.push_reserved.ensures.items in
    elim c.match-self.branch [
      | in-Top w ↦
          let s : length ts ≤ 1 = subst (LevelsAgree ts) w.in-Top.is c.self.invariant in
          levels_as (push ts) _ Top _ (p ∙ (ap (λ (a : Inside). push a.times.items) w.self-inside-is ∙ ap push i)) (ap (λ (a : Inside). a.above) w.self-inside-is ∙ w.in-Top.is)
          (omega (arith, length-append ts (c.args.due ∷ []), count, w.if-count-eq0.true))
      | in-Top-2+in_ok-of_one-in-Top-2+in-Level-1 w ↦
          let s : length ts ≤ 1 = subst (LevelsAgree ts) w.in-Top.is c.self.invariant in
          levels_as (push ts) _ (Level w.in_ok-of_one-in-Top-2.field-0) _ (p ∙ (ap (λ (a : Inside). push a.times.items) w.self-inside-is ∙ ap push i)) (ap (λ (a : Inside). a.above) w.self-inside-is)
          (push_first ts w.in_ok-of_one-in-Top-2.field-0.value w.index.result.now c.args.due w.earlier-first.result s (omega (arith, count, w.if-count-eq0.false)) (rw i at w.index.ensures) w.earlier-first.ensures w.in_ok-of_one-in-Top-2.ensures)
      | in-Top-2+in_ok-of_one-in-Top-2+in-Top-self-2 w ↦
          let s : length ts ≤ 1 = subst (LevelsAgree ts) w.in-Top.is c.self.invariant in
          levels_as (push ts) _ (Level w.in_ok-of_one-in-Top-2.field-0) _ (p ∙ (ap (λ (a : Inside). push a.times.items) w.self-inside-is ∙ ap push i)) (ap (λ (a : Inside). a.above) w.self-inside-is)
          (push_first ts w.in_ok-of_one-in-Top-2.field-0.value w.index.result.now c.args.due w.earlier-first.result s (omega (arith, count, w.if-count-eq0.false)) (rw i at w.index.ensures) w.earlier-first.ensures w.in_ok-of_one-in-Top-2.ensures)
      | in-Level+in_ok-push-in-Level w ↦
          let s = subst (LevelsAgree ts) w.in-Level.is c.self.invariant in
          let even : length ts % 2 ≡ 0 = omega (arith, count, w.if-count-eq0-2.true) in
          levels_as (push ts) _ (Level (record w.in-Level.above { value = w.push.new.self })) _ (p ∙ (ap (λ (a : Inside). push a.times.items) w.self-inside-is ∙ ap push i)) (ap (λ (a : Inside). a.above) w.self-inside-is)
          (push_even ts w.in-Level.above.value w.push.new.self c.args.due (s.0, s.1) even (rw w.deref_mut.ensures.value at w.in_ok-push-in-Level.ensures.ok))
      | in-Level-2 w ↦
          let s = subst (LevelsAgree ts) w.in-Level.is c.self.invariant in
          let odd : length ts % 2 ≡ 1 = omega (arith, count, w.if-count-eq0-2.false) in
          levels_as (push ts) _ (Level (record w.in-Level.above { value = w.set.new.self })) _ (p ∙ (ap (λ (a : Inside). push a.times.items) w.self-inside-is ∙ ap push i)) (ap (λ (a : Inside). a.above) w.self-inside-is)
          (push_odd ts w.in-Level.above.value w.set.new.self w.index-in-Level-2.result.now c.args.due w.earlier.result (s.0, s.1) odd (rw (i, count) at w.index-in-Level-2.ensures) w.earlier.ensures (rw (w.deref_mut-in-Level-2.ensures.value, count) at w.set.ensures))
    ]
