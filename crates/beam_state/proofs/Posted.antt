-- Processes to which signals are posted, or from which they are taken back, stay in order.
use Rattle.std.proofs.Common.{◌≡◌, ℕ, ◌-◌, List, [], ◌∷◌, ◌++◌, length, take, refl, sym, subst, Option, Some, None, Result, Ok, Err, OnOk, OnErr}
use Rattle.std.specs.declared.alloc.AllocError.{AllocError}
use Rattle.beam_machine.specs.declared.process.Signal.{Signal}
use Rattle.beam_machine.specs.Prelude.{Sent, Process, process_of, with_process, live_process, posted_to, posted}
use Rattle.beam_laws.specs.Prelude.{posted_all}
use Rattle.beam_laws.proofs.Ending.{alive_is, at_index}
use Rattle.beam_laws.proofs.Follows.{on}
use Rattle.beam_laws.proofs.Orderly.{set_orderly}
use Rattle.beam_laws.proofs.Rising.{RisesIf, set_up, live_up}
use Rattle.beam_state.specs.Posting.{taken_of, all_taken}
use Rattle.beam_state.specs.Prelude.{AreLawful}

-- ---- pids, names and monitors stay in order

signals_lawful : (references : ℕ) (ps : List Process) (to : ℕ) (p : Process) (signals : List Signal) → live_process ps to ≡ Some p → AreLawful references ps
    → AreLawful references (with_process ps to (record p { transit = signals }))
signals_lawful references ps to p signals e o =
    let is = alive_is (process_of ps to) p e in (
      set_orderly ps (to - 1) p (record p { transit = signals }) o.0 (at_index ps to p is.0) (on p.pid p.name (record p { transit = signals }) (refl, (refl, is.1))),
      set_up references ps (to - 1) (record p { transit = signals }) o.1 (subst (RisesIf references) e (live_up references ps to o.1)),
    )

post_lawful : (references : ℕ) (ps : List Process) (to : ℕ) (signal : Signal) (o : Option Process) → live_process ps to ≡ o → AreLawful references ps → AreLawful references (posted_to ps to signal o)
post_lawful references ps to signal None e h = h
post_lawful references ps to signal (Some p) e h = signals_lawful references ps to p (p.transit ++ signal ∷ []) e h

take_lawful : (references : ℕ) (ps : List Process) (to : ℕ) (o : Option Process) → live_process ps to ≡ o → AreLawful references ps → AreLawful references (taken_of ps to o)
take_lawful references ps to None e h = h
take_lawful references ps to (Some p) e h = signals_lawful references ps to p (take (length p.transit - 1) p.transit) e h

pub all_posted_lawful : (references : ℕ) (ps : List Process) (sent : List Sent) → AreLawful references ps → AreLawful references (posted_all ps sent)
all_posted_lawful references ps [] h = h
all_posted_lawful references ps (one ∷ rest) h = all_posted_lawful references (posted ps one.to one.signal) rest (post_lawful references ps one.to one.signal (live_process ps one.to) refl h)

pub all_taken_lawful : (references : ℕ) (ps : List Process) (sent : List Sent) → AreLawful references ps → AreLawful references (all_taken ps sent)
all_taken_lawful references ps [] h = h
all_taken_lawful references ps (one ∷ rest) h =
    let qs : List Process = all_taken ps rest in
    take_lawful references qs one.to (live_process qs one.to) refl (all_taken_lawful references ps rest h)

pub posting_lawful : {T : Type 0} (references : ℕ) (result : Result T AllocError) (old new : List Process) (sent : List Sent) → OnOk result (new ≡ posted_all old sent) → OnErr result (new ≡ old)
    → AreLawful references old → AreLawful references new
posting_lawful references (Ok u) old new sent h k o = subst (AreLawful references) (sym h) (all_posted_lawful references old sent o)
posting_lawful references (Err e) old new sent h k o = subst (AreLawful references) (sym k) o

-- signals that are posted after others
pub all_posted_more : (ps : List Process) (first then : List Sent) → posted_all ps (first ++ then) ≡ posted_all (posted_all ps first) then
all_posted_more ps [] then = refl
all_posted_more ps (one ∷ first) then = all_posted_more (posted ps one.to one.signal) first then
