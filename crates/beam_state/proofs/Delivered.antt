-- The signals in transit to a process arrive, and all that monitor it hear of its end.
use Rattle.std.proofs.Common.{◌≡◌, ℕ, ◌+◌, ◌<◌, false, List, [], ◌∷◌, length, slice_get, refl, sym, ap, ◌∙◌, Option, Some, None, Result, Ok, Err, rules, IfSome, OnOk}
use Rattle.std.proofs.Math.ListN.{set}
use Rattle.std.specs.declared.alloc.AllocError.{AllocError}
use Rattle.beam_machine.specs.declared.event.Then.{Then}
use Rattle.beam_machine.specs.declared.process.Status.{Status}
use Rattle.beam_machine.specs.Prelude.{delivered, Process, is_ended, ended, with_made}
use Rattle.beam_term.specs.Prelude.{TermValue, nil_term}
use Rattle.beam_proc.specs.Prelude.{ending, woken, arriving, received_all}
use Rattle.beam_proc.proofs.Deliveries.{delivered_is}
use Rattle.beam_state.proofs.Located.{at_pid}
use Rattle.beam_state.specs.Prelude.{MadeBy}
use Rattle.beam_state.proofs.Answering.{made_quietly}
use Rattle.beam_state.proofs.Asked.{said, says}
use Rattle.beam_state.proofs.Ended.{some_there}

woken_lives : (ts : List TermValue) (s : Status) → is_ended s ≡ false → is_ended (woken ts s) ≡ false
woken_lives [] s e = e
woken_lives (t ∷ ts) s e = refl

-- the processes after the signals in transit to the one at an index have arrived
abbrev pub Arrives : List Process → ℕ → ℕ → List Process → Type 0
Arrives ps at pid new = IfSome (slice_get ps at) (λ p. new ≡ with_made ps pid (delivered (record p { transit = [] }) p.transit))

module _ (ps new : List Process) (at pid : ℕ) (e : pid ≡ at + 1) (l : at < length ps) (lives : IfSome (slice_get ps at) (λ p. is_ended p.status ≡ false)) where
  abbrev p : Process
  p = (some_there ps at l).0

  there : slice_get ps at ≡ Some p
  there = (some_there ps at l).1

  alive : is_ended p.status ≡ false
  alive = said ps at p (λ p. is_ended p.status ≡ false) there lives

  is : (o : Option TermValue) → IfSome (slice_get ps at) (λ p. o ≡ ending p.pid p.transit) → delivered (record p { transit = [] }) p.transit ≡ received_all (record p { transit = [] }) o p.transit
  is o end =
      delivered_is (record p { transit = [] }) p.transit alive
      ∙ ap (λ o. received_all (record p { transit = [] }) o p.transit) (sym (said ps at p (λ p. o ≡ ending p.pid p.transit) there end))

  pub ends : (reason : TermValue) (then : Then) → IfSome (slice_get ps at) (λ p. Some reason ≡ ending p.pid p.transit) → MadeBy pid (λ p. ended p reason nil_term) ps (Ok then) new → Arrives ps at pid new
  ends reason then end h =
      says ps at p (λ p. new ≡ with_made ps pid (delivered (record p { transit = [] }) p.transit)) there
      (h.0 p (at_pid ps at pid e ∙ there) ∙ ap (with_made ps pid) (sym (is (Some reason) end)))

  pub goes_on : IfSome (slice_get ps at) (λ p. None ≡ ending p.pid p.transit) → IfSome (slice_get ps at) (λ p. new ≡ set ps at (delivered (record p { transit = [] }) p.transit)) → Arrives ps at pid new
  goes_on end h =
      let q : Process = delivered (record p { transit = [] }) p.transit in
      let over : is_ended q.status ≡ false = ap (λ (q : Process). is_ended q.status) (is None end) ∙ woken_lives (arriving p.monitors p.transit) p.status alive in
      says ps at p (λ p. new ≡ with_made ps pid (delivered (record p { transit = [] }) p.transit)) there
      (said ps at p (λ p. new ≡ set ps at (delivered (record p { transit = [] }) p.transit)) there h ∙ sym (made_quietly ps at pid q e over))

pub if_ok : {T : Type 0} (result : Result T AllocError) (A B : Type 0) → (A → B) → OnOk result A → OnOk result B
if_ok (Ok t) A B f h = f h
if_ok (Err refused) A B f h = search rules
