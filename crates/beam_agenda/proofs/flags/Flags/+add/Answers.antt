use Rattle.std.proofs.Common.{◌≡◌, ◌%◌, ◌<◌, ◌≤◌, ℕ, List, [], ◌∷◌, ◌++◌, length, ap, subst, ◌∙◌, length-append, arith}
use Rattle.beam_agenda.specs.declared.flags.Above.TheVariants.{Top, Level}
use Rattle.beam_agenda.specs.declared.flags.Flags.TheInside.{Inside}
use Rattle.beam_agenda.specs.FlagLevels.{LevelsAgree}
use Rattle.beam_agenda.proofs.Counting.{add_first, add_full, add_within, levels_as}
use Rattle.beam_agenda.proofs.flags.Flags.+add.Goals as goal
use Rattle.beam_agenda.proofs.flags.Flags.+add.Goals.{in-Top, in-Top-2+in_ok-of_two-in-Top-2+in-Level-1, in-Top-2+in_ok-of_two-in-Top-2+in-Top-self-2, in-Level+in_ok-add-in-Level, in-Level+else-length-eq0}

pub invariant_of-self-2 : goal.invariant_of-self-2
invariant_of-self-2 t c =
    let ns : List ℕ = c.self.inside.numbers.items in
    let count : c.len-length.result ≡ length ns = omega (arith, c.self.inside.numbers.ok) in
    let push : List ℕ → List ℕ = λ ns. ns ++ 0 ∷ [] in
    let i : c.reserve.new.self.items ≡ ns = c.in_ok-reserve.ensures.items in
    let p = c.push_reserved.ensures.items in
    elim c.match-self.branch [
      | in-Top w ↦
          levels_as (push ns) _ Top _ (p ∙ (ap (λ (a : Inside). push a.numbers.items) w.self-inside-is ∙ ap push i)) (ap (λ (a : Inside). a.above) w.self-inside-is ∙ w.in-Top.is)
          (omega (arith, length-append ns (0 ∷ []), count, w.if-length-lt16.true))
      | in-Top-2+in_ok-of_two-in-Top-2+in-Level-1 w ↦
          let s : length ns ≤ 16 = subst (LevelsAgree ns) w.in-Top.is c.self.invariant in
          levels_as (push ns) _ (Level w.in_ok-of_two-in-Top-2.field-0) _ (p ∙ (ap (λ (a : Inside). push a.numbers.items) w.self-inside-is ∙ ap push i)) (ap (λ (a : Inside). a.above) w.self-inside-is)
          (add_first ns w.count-first.result w.in_ok-of_two-in-Top-2.field-0.value s (omega (arith, count, w.if-length-lt16.false)) (rw (w.deref.ensures.value, i) at w.count-first.ensures) w.in_ok-of_two-in-Top-2.ensures)
      | in-Top-2+in_ok-of_two-in-Top-2+in-Top-self-2 w ↦
          let s : length ns ≤ 16 = subst (LevelsAgree ns) w.in-Top.is c.self.invariant in
          levels_as (push ns) _ (Level w.in_ok-of_two-in-Top-2.field-0) _ (p ∙ (ap (λ (a : Inside). push a.numbers.items) w.self-inside-is ∙ ap push i)) (ap (λ (a : Inside). a.above) w.self-inside-is)
          (add_first ns w.count-first.result w.in_ok-of_two-in-Top-2.field-0.value s (omega (arith, count, w.if-length-lt16.false)) (rw (w.deref.ensures.value, i) at w.count-first.ensures) w.in_ok-of_two-in-Top-2.ensures)
      | in-Level+in_ok-add-in-Level w ↦
          let s = subst (LevelsAgree ns) w.in-Level.is c.self.invariant in
          let full : length ns % 16 ≡ 0 = omega (arith, count, w.if-length-eq0.true) in
          levels_as (push ns) _ (Level (record w.in-Level.above { value = w.add.new.self })) _ (p ∙ (ap (λ (a : Inside). push a.numbers.items) w.self-inside-is ∙ ap push i)) (ap (λ (a : Inside). a.above) w.self-inside-is)
          (add_full ns w.in-Level.above.value w.add.new.self (s.0, s.1) full (rw w.deref_mut.ensures.value at w.in_ok-add-in-Level.ensures.ok))
      | in-Level+else-length-eq0 w ↦
          let s = subst (LevelsAgree ns) w.in-Level.is c.self.invariant in
          let part : 0 < length ns % 16 = omega (arith, count, w.if-length-eq0.false) in
          levels_as (push ns) _ (Level w.in-Level.above) _ (p ∙ (ap (λ (a : Inside). push a.numbers.items) w.self-inside-is ∙ ap push i)) (ap (λ (a : Inside). a.above) w.self-inside-is)
          (add_within ns w.in-Level.above.value (s.0, s.1) part)
    ]
