-- The DOWNs posted at the end of a process are what others hear of it.
use Rattle.std.proofs.Common.{◌≡◌, ℕ, ◌+◌, ◌-◌, ◌==◌, eq-eqb, true≢false, nat_lt, Bool, true, false, cond, List, [], ◌++◌, append-nil, slice_get, refl, sym, ap, ◌∙◌, arith, Option, Some, None, option_map}
use Rattle.std.proofs.lemmas.Bool.Decides.{nat_tests}
use Rattle.beam_machine.specs.declared.process.Signal.{Signal}
use Rattle.beam_machine.specs.declared.process.Status.{Status}
use Rattle.beam_machine.specs.declared.process.Status.TheVariants.{Running, Waiting, Ended}
use Rattle.beam_machine.specs.Prelude.{Sent, Process, is_ended, then_of, process_of, with_process, with_signals, downs, hearing_by}
use Rattle.beam_term.specs.Prelude.{TermValue}
use Rattle.beam_laws.specs.Prelude.{posted_all, signals_to}
use Rattle.beam_laws.proofs.Hearing.{gets_none, hears, hearing_at, hearing_here, heard_same}
use Rattle.beam_laws.proofs.Numbered.{positive, put_here, put_elsewhere}
use Rattle.beam_laws.proofs.Posting.{said, all_posted_at, each_sent_to}
use Rattle.beam_state.specs.Prelude.{Parts, with_processes, notices_of}
use Rattle.beam_state.specs.Posting.{all_taken}
use Rattle.beam_state.proofs.Posted.{all_posted_more}
use Rattle.beam_state.proofs.Untaken.{all_untaken}
use Rattle.beam_state.proofs.Located.{same_lists}
use Rattle.beam_core.specs.Installing.{notices_at}

-- ---- lists of processes that are the same at each number

pub same_processes : (xs ys : List Process) → ((n : ℕ) → process_of xs n ≡ process_of ys n) → xs ≡ ys
same_processes xs ys same = same_lists xs ys (λ i. sym (at i xs) ∙ (same (i + 1) ∙ at i ys))
  where
    at : (i : ℕ) (zs : List Process) → process_of zs (i + 1) ≡ slice_get zs i
    at i zs =
        let some : nat_lt 0 (i + 1) ≡ true = grind (arith, nat_tests) in
        let less : (i + 1) - 1 ≡ i = omega arith in
        ap (λ b. cond b (slice_get zs ((i + 1) - 1)) None) some ∙ ap (slice_get zs) less

-- ---- signals after others

pub all_posted : (old mid new : Parts) (sent more xs : List Sent) → mid ≡ with_processes old (posted_all old.processes sent) → xs ≡ more
    → new ≡ with_processes mid (posted_all mid.processes xs) → new ≡ with_processes old (posted_all old.processes (sent ++ more))
all_posted old mid new sent more xs first same then =
    then
    ∙ (ap (λ ts. with_processes mid (posted_all mid.processes ts)) same
    ∙ (ap (λ (s : Parts). with_processes s (posted_all s.processes more)) first
    ∙ ap (λ ps. with_processes old ps) (sym (all_posted_more old.processes sent more))))

-- signals that were posted last are taken back
pub taken_back : (old mid cur new : Parts) (sent : List Sent) → mid ≡ with_processes old (posted_all old.processes sent) → cur ≡ mid
    → new ≡ with_processes cur (all_taken cur.processes sent) → new ≡ old
taken_back old mid cur new sent first same then =
    then
    ∙ (ap (λ (s : Parts). with_processes s (all_taken s.processes sent)) (same ∙ first)
    ∙ ap (λ ps. with_processes old ps) (all_untaken old.processes sent))

-- ---- a process that has ended, and all others

-- the processes have their pids
abbrev pub HavePids : List Process → Type 0
HavePids ps = (n : ℕ) (p : Process) → process_of ps n ≡ Some p → p.pid ≡ n

-- each other process is there, perhaps with more signals in transit to it
abbrev Others : ℕ → List Process → List Process → Type 0
Others pid ps qs = (n : ℕ) → (n == pid) ≡ false → (xs : List Signal) × (process_of qs n ≡ option_map (with_signals xs) (process_of ps n))

module _ (pid : ℕ) (reason value : TermValue) where
  is_sent : Process → List Signal
  is_sent q = cond (q.pid == pid) [] (downs pid reason q.monitors)

  abbrev status : Status
  status = Ended reason value

  other_hears : (n : ℕ) (xs : List Signal) (o : Option Process) → ((p : Process) → o ≡ Some p → p.pid ≡ n) → (n == pid) ≡ false
      → option_map (with_signals (said is_sent o)) (option_map (with_signals xs) o) ≡ option_map (hears pid status) (option_map (with_signals xs) o)
  unfolding is_sent
  other_hears n xs None pids other = refl
  other_hears n xs (Some p) pids other =
      let its : (p.pid == pid) ≡ false = ap (λ k. k == pid) (pids p refl) ∙ other in
      ap (λ b. Some (with_signals (cond b [] (downs pid reason p.monitors)) (with_signals xs p))) its
      ∙ ap (λ ts. Some (with_signals ts (with_signals xs p))) (sym (heard_same pid status xs p))

  all_hear : (ps qs : List Process) (r : Process) → HavePids ps → process_of qs pid ≡ Some r → r.status ≡ status → Others pid ps qs
      → posted_all qs (notices_of ps pid reason) ≡ hearing_by pid status qs
  unfolding is_sent
  all_hear ps qs r pids here over others = same_processes (posted_all qs sent) (hearing_by pid status qs) (λ n. at n (n == pid) refl)
    where
      sent : List Sent
      sent = notices_of ps pid reason

      at : (n : ℕ) (b : Bool) → (n == pid) ≡ b → process_of (posted_all qs sent) n ≡ process_of (hearing_by pid status qs) n
      at n true e =
          let same : n ≡ pid = grind (arith, nat_tests) in
          ap (process_of (posted_all qs sent)) same
          ∙ (all_posted_at qs pid sent
          ∙ (ap (option_map (with_signals (signals_to pid sent))) here
          ∙ (ap Some (gets_none (signals_to pid sent) r (ap is_ended over))
          ∙ (sym (hearing_here pid status qs r here over)
          ∙ ap (process_of (hearing_by pid status qs)) (sym same)))))
      at n false e =
          let more = others n e in
          all_posted_at qs n sent
          ∙ (ap (λ ts. option_map (with_signals ts) (process_of qs n)) (each_sent_to is_sent ps n)
          ∙ (ap (option_map (with_signals (said is_sent (process_of ps n)))) more.1
          ∙ (other_hears n more.0 (process_of ps n) (pids n) e
          ∙ (ap (option_map (hears pid status)) (sym more.1)
          ∙ sym (hearing_at pid status qs n)))))

-- the signals that rows of a process sent are posted, and if the rows ended it, the DOWNs of its end
pub all_told : (ps : List Process) (pid : ℕ) (q r : Process) (sent : List Sent) (s : Status) → HavePids ps → process_of ps pid ≡ Some q → r.status ≡ s
    → posted_all (with_process ps pid r) (sent ++ notices_at pid (then_of s) ps) ≡ hearing_by pid s (posted_all (with_process ps pid r) sent)
all_told ps pid q r sent Running pids e is = ap (posted_all (with_process ps pid r)) (append-nil sent)
all_told ps pid q r sent Waiting pids e is = ap (posted_all (with_process ps pid r)) (append-nil sent)
all_told ps pid q r sent (Ended reason value) pids e is =
    let qs : List Process = with_process ps pid r in
    let here : process_of (posted_all qs sent) pid ≡ Some r =
    all_posted_at qs pid sent ∙ (ap (option_map (with_signals (signals_to pid sent))) (put_here ps pid q r e) ∙ ap Some (gets_none (signals_to pid sent) r (ap is_ended is))) in
    all_posted_more qs sent (notices_of ps pid reason) ∙ all_hear pid reason value ps (posted_all qs sent) r pids here is (others qs refl)
  where
    others : (qs : List Process) → qs ≡ with_process ps pid r → Others pid ps (posted_all qs sent)
    others qs same n other = (
      signals_to n sent,
      all_posted_at qs n sent
          ∙ ap (option_map (with_signals (signals_to n sent)))
          (ap (λ qs. process_of qs n) same ∙ put_elsewhere ps pid n r (λ h. true≢false (sym (eq-eqb n pid h) ∙ other)) (positive ps pid q e)),
    )
