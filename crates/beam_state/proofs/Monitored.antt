-- A process that monitors another, and the node's answers about references.
use Rattle.std.proofs.Common.{◌≡◌, ◌<◌, ℕ, ◌+◌, Bool, true, false, cond, List, [], ◌∷◌, ◌++◌, slice_get, refl, sym, ap, subst, ◌∙◌, arith, rules, Option, Some, None, Result, Ok, Err, codes, unwrap_or, IfSome, OnOk, OnErr, length}
use Rattle.std.proofs.Math.ListN.{set}
use Rattle.std.specs.declared.alloc.AllocError.{AllocError}
use Rattle.beam_machine.specs.declared.process.Monitor.{Monitor}
use Rattle.beam_machine.specs.declared.process.Signal.{Signal}
use Rattle.beam_machine.specs.declared.process.Signal.TheVariants.{Down}
use Rattle.beam_machine.specs.Prelude.{Answered, is_alive, put_monitor, with_new_monitor, monitored, Process, is_ended, own_number, process_of, with_process, alive, live_process, posted_to, posted}
use Rattle.beam_model.specs.declared.exception.Fault.{Fault}
use Rattle.beam_term.specs.Prelude.{TermValue, atom_term}
use Rattle.beam_laws.specs.Prelude.{Rise, AreRising}
use Rattle.beam_laws.proofs.Numbered.{put_put, put_here, alive_of}
use Rattle.beam_laws.proofs.Ending.{alive_is}
use Rattle.beam_laws.proofs.Rising.{RisesIf, live_up}
use Rattle.beam_watches.specs.MonitorEntries.{AreBelow}
use Rattle.beam_state.proofs.Located.{at_pid}
use Rattle.beam_state.specs.Prelude.{Returns, ReturnsCounting, with_monitor}
use Rattle.beam_state.proofs.Answering.{set_process, set_same}
use Rattle.beam_state.proofs.Asked.{said}
use Rattle.beam_state.proofs.Ended.{some_there}

-- references that were made are below the next
below : (above count : ℕ) (ms : List Monitor) → Rise above count ms → AreBelow (count + 1) ms
below above count [] h = tt
below above count (m ∷ ms) h = (omega (arith, h.1.0), below m.reference count ms h.1.1)

pub are_below : (references : ℕ) (ps : List Process) (pid : ℕ) (p : Process) → AreRising references ps → live_process ps pid ≡ Some p → AreBelow (references + 1) p.monitors
are_below references ps pid p h e = below 0 references p.monitors (subst (RisesIf references) e (live_up references ps pid h))

-- the DOWN of a monitor of a pid, if no process of that pid lives
abbrev pub noproc_of : List Process → Option ℕ → ℕ → Option Signal
noproc_of ps o n = cond (is_alive ps o) None (Some (Down n (atom_term (codes "noproc"))))

none_watch : (ps : List Process) (caller n : ℕ) (pid : TermValue) (signal : Signal) → live_process ps caller ≡ None → (b : Bool) → with_new_monitor (cond b ps (posted ps caller signal)) caller n pid ≡ ps
none_watch ps caller n pid signal e true = ap (put_monitor ps caller n pid) e
none_watch ps caller n pid signal e false =
    ap (λ o. with_new_monitor (posted_to ps caller signal o) caller n pid) e ∙ ap (put_monitor ps caller n pid) e

-- a caller that doesn't live gets no monitor
pub not_monitored : (ps : List Process) (caller : ℕ) (pid : TermValue) (n : ℕ) → live_process ps caller ≡ None → monitored ps caller pid n ≡ ps
not_monitored ps caller pid n e = none_watch ps caller n pid (Down n (atom_term (codes "noproc"))) e (is_alive ps (own_number pid))

pub monitored_is : (ps : List Process) (caller : ℕ) (pid : TermValue) (n : ℕ) (p : Process) → live_process ps caller ≡ Some p
    → monitored ps caller pid n ≡ with_process ps caller (with_monitor p n pid (noproc_of ps (own_number pid) n))
monitored_is ps caller pid n p e = by (is_alive ps (own_number pid))
  where
    signal : Signal
    signal = Down n (atom_term (codes "noproc"))

    more : Process
    more = record p { transit = p.transit ++ Down n (atom_term (codes "noproc")) ∷ [] }

    is : (process_of ps caller ≡ Some p) × (is_ended p.status ≡ false)
    is = alive_is (process_of ps caller) p e

    there : live_process (with_process ps caller more) caller ≡ Some more
    there = ap alive (put_here ps caller p more is.0) ∙ alive_of more is.1

    by : (b : Bool) → with_new_monitor (cond b ps (posted ps caller signal)) caller n pid ≡ with_process ps caller (with_monitor p n pid (cond b None (Some signal)))
    by true = ap (put_monitor ps caller n pid) e
    by false =
        ap (λ o. with_new_monitor (posted_to ps caller signal o) caller n pid) e
        ∙ (ap (put_monitor (with_process ps caller more) caller n pid) there
        ∙ put_put ps caller more (record more { monitors = p.monitors ++ record { reference = n; pid = pid } ∷ [] }))

-- a native that makes no reference
pub gives_makes : (references : ℕ) (old : List Process) (answered : Answered) (result : Result (Result TermValue Fault) AllocError) (new : List Process) → Returns old answered result new
    → ReturnsCounting references old answered result references new
gives_makes references old answered (Ok value) new h = (ap (λ (a : Answered). a.processes) h, ap (λ (a : Answered). a.value) h, ap (λ (a : Answered). unwrap_or a.made references) h)
gives_makes references old answered (Err refused) new h = (h, refl)

-- ---- where the caller is given by its index

abbrev pub DoesMonitor : List Process → ℕ → ℕ → TermValue → Option Signal → Result (Unit {0}) AllocError → List Process → Type 0
DoesMonitor ps at n pid down result new = IfSome (slice_get ps at) (λ p. (q : Process) × (OnOk result (q ≡ with_monitor p n pid down) × OnErr result (q ≡ p)) × (new ≡ set ps at q))

pub below_there : (ps : List Process) (caller at n : ℕ) → caller ≡ at + 1 → at < length ps → IfSome (slice_get ps at) (λ p. is_ended p.status ≡ false)
    → ((p : Process) → live_process ps caller ≡ Some p → AreBelow n p.monitors) → IfSome (slice_get ps at) (λ p. AreBelow n p.monitors)
below_there ps caller at n located l lives below =
    let there = some_there ps at l in
    let p : Process = there.0 in
    let live : live_process ps caller ≡ Some p = ap alive (at_pid ps at caller located ∙ there.1) ∙ alive_of p (said ps at p (λ p. is_ended p.status ≡ false) there.1 lives) in
    subst (λ o. IfSome o (λ p. AreBelow n p.monitors)) (sym there.1) (below p live)

pub keeps_ok : (ps : List Process) (caller at n : ℕ) (pid : TermValue) (o : Option ℕ) (down : Option Signal) → caller ≡ at + 1 → own_number pid ≡ o → down ≡ noproc_of ps o n
    → (result : Result (Unit {0}) AllocError) (new : List Process) → at < length ps → IfSome (slice_get ps at) (λ p. is_ended p.status ≡ false) → DoesMonitor ps at n pid down result new
    → OnOk result (new ≡ monitored ps caller pid n)
keeps_ok ps caller at n pid o down located named is (Err refused) new l lives h = search rules
keeps_ok ps caller at n pid o down located named is (Ok u) new l lives h =
    let there = some_there ps at l in
    let p : Process = there.0 in
    let d = said ps at p (λ p. (q : Process) × ((q ≡ with_monitor p n pid down) × Unit {0}) × (new ≡ set ps at q)) there.1 h in
    let live : live_process ps caller ≡ Some p = ap alive (at_pid ps at caller located ∙ there.1) ∙ alive_of p (said ps at p (λ p. is_ended p.status ≡ false) there.1 lives) in
    d.2 ∙ (ap (λ q. set ps at q) (d.1.0 ∙ ap (with_monitor p n pid) (is ∙ ap (λ o. noproc_of ps o n) (sym named)))
    ∙ (sym (set_process ps at caller (with_monitor p n pid (noproc_of ps (own_number pid) n)) located) ∙ sym (monitored_is ps caller pid n p live)))

pub keeps_err : (ps : List Process) (at n : ℕ) (pid : TermValue) (down : Option Signal) (result : Result (Unit {0}) AllocError) (new : List Process) → at < length ps → DoesMonitor ps at n pid down result new
    → OnErr result (new ≡ ps)
keeps_err ps at n pid down (Ok u) new l h = search rules
keeps_err ps at n pid down (Err refused) new l h =
    let there = some_there ps at l in
    let d = said ps at there.0 (λ p. (q : Process) × (Unit {0} × (q ≡ p)) × (new ≡ set ps at q)) there.1 h in
    d.2 ∙ (ap (λ q. set ps at q) d.1.1 ∙ set_same ps at there.0 there.1)
