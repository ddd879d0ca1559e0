-- One process is put in the place of another.
use Rattle.std.proofs.Common.{◌≡◌, ℕ, ◌+◌, ◌-◌, true, false, cond, refl, List, [], slice_get, sym, ap, subst, ◌∙◌, arith, Option, Some, None, is_some, IfSome, slice_set}
use Rattle.std.proofs.lemmas.Option.{same_Some}
use Rattle.beam_machine.specs.declared.process.Signal.{Signal}
use Rattle.beam_machine.specs.Prelude.{Process, is_ended, process_of, with_process, live_process}
use Rattle.beam_laws.specs.Prelude.{with_name_and_transit, ArePart, Rise}
use Rattle.beam_laws.proofs.Ending.{alive_is, at_index}
use Rattle.beam_laws.proofs.Orderly.{set_orderly}
use Rattle.beam_laws.proofs.Rising.{RisesIf, rise_part, live_up, set_up}
use Rattle.beam_state.specs.Prelude.{KeepsName, GoesOnFrom, MonitorNoMore, AreLawful, CanReplace}
use Rattle.beam_state.proofs.Answering.{set_process}
use Rattle.beam_state.proofs.MonitorKeys.{part_fewer}
use Rattle.beam_state.proofs.Asked.{said}

-- the call leaves the list with the new process in place, and gives back the old one
abbrev pub Replaced : List Process → ℕ → Process → List Process → Process → Type 0
Replaced ps at r new was = IfSome (slice_get ps at) (λ q. (new ≡ slice_set ps at (with_name_and_transit q.name q.transit r)) × (was ≡ record q { name = None; transit = [] }))

pub having_monitors : (name : Option (List ℕ)) (transit : List Signal) (p : Process) → (with_name_and_transit name transit p).monitors ≡ p.monitors
having_monitors name transit p = elim (is_ended p.status) as (λ b. (cond {A = Process} b p (record p { name = name; transit = transit })).monitors ≡ p.monitors) [ true ↦ refl | false ↦ refl ]

module _ (ps : List Process) (pid : ℕ) (r : Process) (h : CanReplace ps pid r) where
  pub is_live : is_some (live_process ps pid) ≡ true
  is_live = ap is_some h.1

  pub found : process_of ps pid ≡ Some h.0
  found = (alive_is (process_of ps pid) h.0 h.1).0

  module _ (at : ℕ) (e : pid ≡ at + 1) where
    stands_at : slice_get ps at ≡ Some h.0
    stands_at =
        let same : pid - 1 ≡ at = omega arith in
        subst (λ k. slice_get ps k ≡ Some h.0) same (at_index ps pid h.0 found)

    pub keeps_there : IfSome (slice_get ps at) (λ q. KeepsName q (with_name_and_transit q.name q.transit r))
    keeps_there = subst (λ o. IfSome o (λ q. KeepsName q (with_name_and_transit q.name q.transit r))) (sym stands_at) h.2.1.0

    -- where the new process has no monitors but the old one's
    module _ (part : (q : Process) → live_process ps pid ≡ Some q → ArePart q.monitors r.monitors) where
      pub goes_on_there : IfSome (slice_get ps at) (λ q. GoesOnFrom q (with_name_and_transit q.name q.transit r))
      goes_on_there =
          subst (λ o. IfSome o (λ q. GoesOnFrom q (with_name_and_transit q.name q.transit r))) (sym stands_at) (
            h.2.1.0,
            subst (MonitorNoMore h.0.monitors) (sym (having_monitors h.0.name h.0.transit r)) (part_fewer h.0.monitors r.monitors (part h.0 h.1)),
          )

      pub part_rises : (references : ℕ) → AreLawful references ps → Rise 0 references r.monitors
      part_rises references o = rise_part references h.0.monitors r.monitors (part h.0 h.1) (subst (RisesIf references) h.1 (live_up references ps pid o.1))

    pub replaced : (new : List Process) (was : Process) → Replaced ps at r new was
        → (new ≡ with_process ps pid (with_name_and_transit h.0.name h.0.transit r)) × (was ≡ record h.0 { name = None; transit = [] })
    replaced new was does =
        let s = said ps at h.0 (λ q. (new ≡ slice_set ps at (with_name_and_transit q.name q.transit r)) × (was ≡ record q { name = None; transit = [] })) stands_at does in
        (s.0 ∙ sym (set_process ps at pid (with_name_and_transit h.0.name h.0.transit r) e), s.1)

    pub replaced_lawful : (references : ℕ) (new : List Process) (was : Process) → Replaced ps at r new was → Rise 0 references r.monitors → AreLawful references ps → AreLawful references new
    replaced_lawful references new was does rise o =
        let q : Process = with_name_and_transit h.0.name h.0.transit r in
        let same : q.monitors ≡ r.monitors = having_monitors h.0.name h.0.transit r in
        subst (AreLawful references) (sym (replaced new was does).0) (
          set_orderly ps (pid - 1) h.0 q o.0 (at_index ps pid h.0 found) h.2,
          set_up references ps (pid - 1) q o.1 (subst (Rise 0 references) (sym same) rise),
        )

    -- the call's result, by whichever process has the number
    pub replaced_is : (new : List Process) (was q : Process) → Replaced ps at r new was → process_of ps pid ≡ Some q
        → (new ≡ with_process ps pid (with_name_and_transit q.name q.transit r)) × (was ≡ record q { name = None; transit = [] })
    replaced_is new was q does there =
        subst (λ q. (new ≡ with_process ps pid (with_name_and_transit q.name q.transit r)) × (was ≡ record q { name = None; transit = [] }))
        (same_Some h.0 q (sym found ∙ there)) (replaced new was does)
