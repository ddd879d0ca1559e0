-- A process ends once the DOWNs of its end have been posted.
use Rattle.std.proofs.Common.{◌≡◌, ℕ, zero, suc, ◌+◌, ◌<◌, List, [], ◌∷◌, ◌++◌, length, slice_get, refl, sym, ap, subst, ◌∙◌, arith, Some, None, Result, Ok, Err, IfSome}
use Rattle.std.proofs.Math.ListN.{set}
use Rattle.std.specs.declared.alloc.AllocError.{AllocError}
use Rattle.std.proofs.lemmas.Option.{same_Some}
use Rattle.beam_machine.specs.declared.event.Then.{Then}
use Rattle.beam_machine.specs.Prelude.{Sent, Process, ended, with_process, with_made}
use Rattle.beam_term.specs.Prelude.{TermValue, nil_term}
use Rattle.beam_machine.specs.declared.process.Status.TheVariants.{Ended}
use Rattle.beam_laws.specs.Prelude.{posted_all}
use Rattle.beam_laws.proofs.Hearing.{hears}
use Rattle.beam_laws.proofs.Orderly.{Orderly}
use Rattle.beam_proc.specs.Prelude.{DoesAtOnce}
use Rattle.beam_state.specs.Prelude.{MadeBy, GoesOnFrom, MonitorNoMore, then_at, notices_of}
use Rattle.beam_state.proofs.Keeping.{stays_on}
use Rattle.beam_state.proofs.MonitorKeys.{none_more}
use Rattle.beam_state.specs.Posting.{all_taken}
use Rattle.beam_state.proofs.Answering.{set_process, set_same, made_stands}
use Rattle.beam_state.proofs.Asked.{said}
use Rattle.beam_state.proofs.Seen.{length_each}
use Rattle.beam_state.proofs.Telling.{but_one, told, told_stays, notices_make}
use Rattle.beam_state.proofs.Untaken.{all_untaken}
use Rattle.beam_state.proofs.Located.{at_pid}

pub ended_keeps : (p q : Process) (reason value : TermValue) (result : Result Then AllocError) → DoesAtOnce p (ended p reason value) result q → GoesOnFrom p q
ended_keeps p q reason value (Ok said) h = (
  (λ name e.
      let none : None ≡ Some name = ap (λ (q : Process). q.name) (sym h.0) ∙ e in
      cc),
  subst (λ (q : Process). MonitorNoMore p.monitors q.monitors) (sym h.0) (none_more p.monitors),
)
ended_keeps p q reason value (Err refused) h = stays_on p q h

pub some_there : (ps : List Process) (at : ℕ) → at < length ps → (p : Process) × (slice_get ps at ≡ Some p)
some_there [] at l = absurd (omega (arith, l))
some_there (p ∷ ps) zero l = (p, refl)
some_there (p ∷ ps) (suc at) l = some_there ps at (omega (arith, l))

-- the processes to which the DOWNs of one process's end have been posted
module _ (ps mid : List Process) (at pid : ℕ) (reason : TermValue) (first sent : List Sent) (e : pid ≡ at + 1) (o : Orderly ps) (none : first ≡ [])
    (is : sent ≡ first ++ notices_of ps pid reason) (posts : mid ≡ posted_all ps sent) where
  pub mid_is : mid ≡ posted_all ps (notices_of ps pid reason)
  mid_is = posts ∙ ap (posted_all ps) (is ∙ ap (λ xs. xs ++ notices_of ps pid reason) none)

  pub mid_there : slice_get mid at ≡ slice_get ps at
  mid_there = ap (λ qs. slice_get qs at) mid_is ∙ told_stays ps at pid reason e o

  pub mid_within : at < length ps → at < length mid
  mid_within l =
      let same : length mid ≡ length ps = ap length (mid_is ∙ told ps at pid reason nil_term e o) ∙ length_each (but_one (hears pid (Ended reason nil_term)) at) ps in
      omega (arith, l, same)

  pub mid_lives : (P : Process → Type 0) → IfSome (slice_get ps at) P → IfSome (slice_get mid at) P
  mid_lives P h = subst (λ o. IfSome o P) (sym mid_there) h

  abbrev Does : (new : List Process) (result : Result Then AllocError) (value : TermValue) → Type 0
  Does new result value = IfSome (slice_get mid at) (λ p. (q : Process) × DoesAtOnce p (ended p reason value) result q × (new ≡ set mid at q))

  pub ended_ok : (new : List Process) (then : Then) (value : TermValue) → at < length ps → Does new (Ok then) value → MadeBy pid (λ p. ended p reason value) ps (Ok then) new
  ended_ok new then value l h =
      let there = some_there ps at l in
      let p : Process = there.0 in
      let d = said mid at p (λ p. (q : Process) × DoesAtOnce p (ended p reason value) (Ok then) q × (new ≡ set mid at q)) (mid_there ∙ there.1) h in
      let q : Process = d.0 in
      let made : new ≡ with_made ps pid (ended p reason value) =
      d.2 ∙ (ap (λ q. set mid at q) d.1.0 ∙ (sym (set_process mid at pid (ended p reason value) e)
      ∙ (ap (λ qs. with_process qs pid (ended p reason value)) mid_is ∙ notices_make ps at pid (ended p reason value) reason value e refl o))) in (
        λ p' found. made ∙ ap (λ p. with_made ps pid (ended p reason value)) (same_Some p p' (sym there.1 ∙ (sym (at_pid ps at pid e) ∙ found))),
        ap (λ qs. then_at qs pid) made ∙ (made_stands ps at pid p (ended p reason value) e there.1 ∙ ap Some (sym d.1.1)),
      )

  pub ended_err : (new cur : List Process) (refused : AllocError) (value : TermValue) → at < length ps → Does new (Err refused) value → cur ≡ all_taken new sent → cur ≡ ps
  ended_err new cur refused value l h back =
      let there = some_there ps at l in
      let p : Process = there.0 in
      let d = said mid at p (λ p. (q : Process) × DoesAtOnce p (ended p reason value) (Err refused) q × (new ≡ set mid at q)) (mid_there ∙ there.1) h in
      back ∙ (ap (λ qs. all_taken qs sent) (d.2 ∙ (ap (λ q. set mid at q) d.1 ∙ (set_same mid at p (mid_there ∙ there.1) ∙ posts))) ∙ all_untaken ps sent)
