use Rattle.std.proofs.Common.{◌≡◌, ◌<◌, ◌≤◌, ◌+◌, ◌-◌, ◌/◌, ℕ, true, List, length, get_or, slice_get, rules, sym, ap, subst, ◌∙◌, arith, Some}
use Rattle.std.proofs.Math.ListN.{set, length-set}
use Rattle.std.proofs.lemmas.List.{get_or_read}
use Rattle.beam_agenda.specs.FlagLevels.{LevelsAgree}
use Rattle.beam_agenda.specs.Prelude.{is_set, all_groups}
use Rattle.beam_agenda.proofs.Counting.{both_set, one_set, above_shorter, group_within, count_small, count_has, levels_same, set_above, one_more, one_fewer}
use Rattle.beam_agenda.proofs.flags.Flags.+set.Goals as goal
use Rattle.beam_agenda.proofs.flags.Flags.+set.Goals.{in-Top, in-Level, then-is_set, else-is_set}
use mathlib.Core.Bool.{not}

pub invariant_of-self : goal.invariant_of-self
invariant_of-self t c =
    let ns : List ℕ = c.self.inside.numbers.items in
    let h : c.args.index < length ns = rw (← c.self.view_is) at c.requires in
    let was : c.index.result.now ≡ get_or ns c.args.index 0 = get_or_read ns c.args.index c.index.result.now h c.index.ensures 0 in
    levels_same ns c.self.inside.above c.args.index c.args.number h (ap is_set (sym was) ∙ both_set c.index.result.now c.args.number c.if-was_set-is_set.true) c.self.invariant

pub get-count-requires : goal.get-count-requires
get-count-requires t c =
    let ns : List ℕ = c.self.inside.numbers.items in
    let s = subst (LevelsAgree ns) c.in-Level.is c.self.invariant in
    group_within ns c.deref.result.now c.args.index (c.deref.ensures ∙ s.1) (rw (← c.self.view_is) at c.requires)

pub overflow_add-count : goal.overflow_add-count
overflow_add-count t c =
    let ns : List ℕ = c.self.inside.numbers.items in
    let s = subst (LevelsAgree ns) c.in-Level.is c.self.invariant in
    omega (arith, count_small ns c.deref.result.now (c.args.index / 16) c.get-count.result (c.deref.ensures ∙ s.1) c.get-count.ensures)

pub overflow_sub-count : goal.overflow_sub-count
overflow_sub-count t c =
    let ns : List ℕ = c.self.inside.numbers.items in
    let s = subst (LevelsAgree ns) c.in-Level.is c.self.invariant in
    let h : c.args.index < length ns = rw (← c.self.view_is) at c.requires in
    let was : c.index.result.now ≡ get_or ns c.args.index 0 = get_or_read ns c.args.index c.index.result.now h c.index.ensures 0 in
    let set_before : is_set c.index.result.now ≡ true = one_set c.index.result.now c.args.number c.if-was_set-is_set.false ∙ ap (λ n. not (is_set n)) c.if-is_set.false in
    count_has ns c.deref.result.now c.args.index c.get-count.result h (ap is_set (sym was) ∙ set_before) (c.deref.ensures ∙ s.1) c.get-count.ensures

pub set-requires : goal.set-requires
set-requires t c =
    let ns : List ℕ = c.self.inside.numbers.items in
    let s = subst (LevelsAgree ns) c.in-Level.is c.self.invariant in
    let is : c.deref_mut.result.now ≡ all_groups ns = c.deref_mut.ensures.value ∙ s.1 in
    let shorter : length c.deref_mut.result.now < length c.args.self.now = subst (λ ns. length c.deref_mut.result.now < length ns) c.self.view_is (above_shorter ns c.deref_mut.result.now (s.0, is)) in
    (first_of (search (rules, shorter), omega (arith, shorter, c.decreases)), group_within ns c.deref_mut.result.now c.args.index is (rw (← c.self.view_is) at c.requires))

pub invariant_of-self-2 : goal.invariant_of-self-2
invariant_of-self-2 t c =
    let ns : List ℕ = c.self.inside.numbers.items in
    let h : c.args.index < length ns = rw (← c.self.view_is) at c.requires in
    let was : c.index.result.now ≡ get_or ns c.args.index 0 = get_or_read ns c.args.index c.index.result.now h c.index.ensures 0 in
    let changed : is_set (get_or ns c.args.index 0) ≡ not (is_set c.args.number) = ap is_set (sym was) ∙ one_set c.index.result.now c.args.number c.if-was_set-is_set.false in
    elim c.match-self.branch [
      | in-Top w ↦
          let s : length ns ≤ 16 = subst (LevelsAgree ns) w.in-Top.is c.self.invariant in
          rw (w.self-inside-is, w.in-Top.is) (omega (arith, s, length-set ns c.args.index c.args.number))
      | in-Level w ↦
          let s = subst (LevelsAgree ns) w.in-Level.is c.self.invariant in
          let got = subst (λ above. Some w.get-count.result ≡ slice_get above (c.args.index / 16)) w.deref.ensures w.get-count.ensures in
          let put = rw w.deref_mut.ensures.value at w.set.ensures in
          rw w.self-inside-is (elim w.if-is_set.branch [
            | then-is_set v ↦
                set_above ns w.in-Level.above.value w.set.new.self c.args.index c.args.number w.get-count.result (w.get-count.result + 1) h (s.0, s.1) got
                (one_more (get_or ns c.args.index 0) c.args.number w.get-count.result changed v.if-is_set.true)
                (put ∙ ap (set w.in-Level.above.value (c.args.index / 16)) v.set-is)
            | else-is_set v ↦
                set_above ns w.in-Level.above.value w.set.new.self c.args.index c.args.number w.get-count.result (w.get-count.result - 1) h (s.0, s.1) got
                (one_fewer (get_or ns c.args.index 0) c.args.number w.get-count.result changed v.if-is_set.false
                (count_has ns w.in-Level.above.value c.args.index w.get-count.result h (changed ∙ ap (λ n. not (is_set n)) v.if-is_set.false) s.1 got))
                (put ∙ ap (set w.in-Level.above.value (c.args.index / 16)) v.set-is)
          ])
    ]
