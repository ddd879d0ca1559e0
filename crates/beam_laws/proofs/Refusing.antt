-- A refusal changes nothing.
use Rattle.std.proofs.Common.{◌≡◌, ℕ, zero, suc, ◌+◌, ◌-◌, ◌≤◌, ◌<◌, Bool, true, false, cond, nat_lt, List, [], ◌∷◌, ◌++◌, length, slice_get, get_or, refl, sym, ◌∙◌, arith, length-set, Option, Some, None, Result, Err, unwrap_or, codes}
use Rattle.std.proofs.lemmas.List.{length_push}
use Rattle.std.proofs.lemmas.Option.{slice_get_within, slice_get-get_or}
use Rattle.beam_machine.specs.declared.process.Status.{Status}
use Rattle.beam_machine.specs.declared.event.Event.{Event}
use Rattle.beam_machine.specs.declared.event.Reply.{Reply}
use Rattle.beam_machine.specs.declared.event.Refused.{Refused}
use Rattle.beam_machine.specs.declared.event.Refused.TheVariants.{BackwardClock, NotReady, Sticky, NotPurged, Duplicated, TooMany}
use Rattle.beam_machine.specs.declared.process.Deadline.{Deadline}
use Rattle.beam_machine.specs.declared.process.Signal.{Signal}
use Rattle.beam_machine.specs.declared.process.Signal.TheVariants.{Down}
use Rattle.beam_machine.specs.Prelude.{Process, started, Outcome, makes, sends, asks, sleeps, answers, outcome, own_number, arguments_of, State, process_of, with_process, alive, live_process, receiver_of, posted_to, posted, hearing_by, Answered, is_alive, or_noproc, put_monitor, monitored, answer_of, Next, refused, replied, Rows, raised, continues, done_by, row, running, row_and, ran_to, next_steps, next_deliver, timed_out, next_timeout, sent_to, next_send, next, Sent}
use Rattle.beam_machine.specs.declared.callee.After.{After}
use Rattle.beam_model.specs.Prelude.{Listing}
use Rattle.beam_model.specs.declared.exception.Fault.{Fault}
use Rattle.beam_model.specs.declared.native.NodeNative.{NodeNative}
use Rattle.beam_laws.proofs.Hearing.{hearing_length}
use Rattle.beam_term.specs.Prelude.{TermValue, atom_term}
use Rattle.beam_machine.specs.declared.event.Event.TheVariants as event
use Rattle.beam_machine.specs.Next.{steps}
use Rattle.beam_laws.proofs.NodeAnswers.{Answers, keeps_all, starts_one, names_one, unnames_one, posts_one, makes_one, monitors_one, answer_is}

-- ---- processes stay in the list

abbrev Longer : List Process → List Process → Type 0
Longer ps qs = length ps ≤ length qs

set_longer : (ps : List Process) (pid : ℕ) (p : Process) → Longer ps (with_process ps pid p)
set_longer ps pid p = omega (arith, length-set ps (pid - 1) p)

posted_longer : (ps : List Process) (pid : ℕ) (signal : Signal) (o : Option Process) → Longer ps (posted_to ps pid signal o)
posted_longer ps pid signal None = omega arith
posted_longer ps pid signal (Some p) = set_longer ps pid _

push_longer : (ps : List Process) (p : Process) → Longer ps (ps ++ p ∷ [])
push_longer ps p = omega (arith, length_push ps p)

watching_longer : (ps : List Process) (caller n : ℕ) (watched : TermValue) (o : Option Process) → Longer ps (put_monitor ps caller n watched o)
watching_longer ps caller n watched None = omega arith
watching_longer ps caller n watched (Some p) = set_longer ps caller _

noproc_longer : (ps : List Process) (caller n : ℕ) (watched : TermValue) → Longer ps (or_noproc ps caller n watched)
noproc_longer ps caller n watched =
    let signal : Signal = Down n (atom_term (codes "noproc")) in
    elim (is_alive ps (own_number watched)) as (λ b. Longer ps (cond b ps (posted ps caller signal))) [ true ↦ omega arith | false ↦ posted_longer ps caller signal (live_process ps caller) ]

monitored_longer : (ps : List Process) (caller : ℕ) (watched : TermValue) (n : ℕ) → Longer ps (monitored ps caller watched n)
monitored_longer ps caller watched n =
    let qs : List Process = or_noproc ps caller n watched in
    omega (arith, noproc_longer ps caller n watched, watching_longer qs caller n watched (live_process qs caller))

answered_longer : (references : ℕ) (ps : List Process) (caller : ℕ) (native : NodeNative) (xs : List Sent) (a : Answered) → Answers references ps caller native xs a
    → Longer ps a.processes
answered_longer references ps caller native _ _ (keeps_all value) = omega arith
answered_longer references ps caller native _ _ (starts_one name function arguments value) = push_longer ps (started (length ps + 1) name function arguments)
answered_longer references ps caller native _ _ (names_one name pid p value e free) = set_longer ps pid _
answered_longer references ps caller native _ _ (unnames_one pid p value e) = set_longer ps pid _
answered_longer references ps caller native _ _ (posts_one to signal value plain) = posted_longer ps to signal (live_process ps to)
answered_longer references ps caller native _ _ (makes_one value) = omega arith
answered_longer references ps caller native _ _ (monitors_one watched value is) = monitored_longer ps caller watched (references + 1)

answer_longer : (references : ℕ) (ps : List Process) (caller : ℕ) (native : NodeNative) (ts : List TermValue) → Longer ps (answer_of references ps caller native ts).processes
answer_longer references ps caller native ts = answered_longer references ps caller native _ _ (answer_is references ps caller native ts)

-- a process is put, and the DOWNs of its end are sent
made_longer : (ps : List Process) (pid : ℕ) (status : Status) (p : Process) → Longer ps (hearing_by pid status (with_process ps pid p))
made_longer ps pid status p = omega (arith, set_longer ps pid p, hearing_length pid status (with_process ps pid p))

continues_longer : (s : State) (pid : ℕ) (after : After) (value : Result TermValue Fault) (o : Option Process) → Longer s.processes (continues s pid after value o).processes
continues_longer s pid after value None = omega arith
continues_longer s pid after value (Some p) =
    let q : Process = answers p after (raised value) in
    made_longer s.processes pid q.status q

done_longer : (s : State) (pid : ℕ) (o : Outcome) → Longer s.processes (done_by s pid o).processes
done_longer s pid (makes p) = made_longer s.processes pid p.status p
done_longer s pid (sends p to signal) =
    let ps = with_process s.processes pid p in
    omega (arith, set_longer s.processes pid p, posted_longer ps to signal (live_process ps to))
done_longer s pid (asks p native arity after) =
    let ps = with_process s.processes pid p in
    let a = answer_of s.references ps pid native (arguments_of p arity) in
    omega (
      arith,
      set_longer s.processes pid p,
      answer_longer s.references ps pid native (arguments_of p arity),
      continues_longer (record s { processes = a.processes; references = unwrap_or a.made s.references }) pid after a.value (process_of a.processes pid),
    )
done_longer s pid (sleeps p n place) = set_longer s.processes pid _

row_and_longer : (s : State) (pid : ℕ) (rest : State → Rows) (o : Option Process) → ((t : State) → Longer t.processes (rest t).state.processes) → Longer s.processes (row_and rest s pid o).state.processes
row_and_longer s pid rest None more = omega arith
row_and_longer s pid rest (Some p) more = omega (arith, done_longer s pid (outcome s.code p), more (row s pid p))

pub steps_longer : (n : ℕ) (s : State) (pid : ℕ) → Longer s.processes (steps s pid n).state.processes
steps_longer zero s pid = omega arith
steps_longer (suc n) s pid = row_and_longer s pid (λ t. steps t pid n) (running (process_of s.processes pid)) (λ t. steps_longer n t pid)

pub there : (o : Option Process) (p : Process) → alive o ≡ Some p → (q : Process) × (o ≡ Some q)
there None p e = cc
there (Some q) p e = (q, refl)

pub stays : (ps qs : List Process) (pid : ℕ) (p : Process) → Longer ps qs → process_of ps pid ≡ Some p → process_of qs pid ≡ None → ⊥
stays ps qs pid p longer = elim (nat_lt 0 pid) as (λ b. cond b (slice_get ps (pid - 1)) None ≡ Some p → cond b (slice_get qs (pid - 1)) None ≡ None → ⊥) [
  | true ↦ λ e f.
      let in_ps : pid - 1 < length ps = slice_get_within ps (pid - 1) p e in
      let in_qs : slice_get qs (pid - 1) ≡ Some (get_or qs (pid - 1) p) = slice_get-get_or qs (pid - 1) p (omega (arith, in_ps, longer)) in
      clash (sym in_qs ∙ f)
  | false ↦ λ e f. clash (sym e)
]
  where
    clash : {q : Process} → Some q ≡ None → ⊥
    clash e = cc

-- ---- refusals

abbrev Unchanged : State → Refused → Next → Type 0
Unchanged s r x = x.answer ≡ Err r → x.state ≡ s

either : (s : State) (r : Refused) (b : Bool) (x y : Next) → Unchanged s r x → Unchanged s r y → Unchanged s r (cond b x y)
either s r true x y h k = h
either s r false x y h k = k

was_refused : (s : State) (r q : Refused) → Unchanged s r (refused s q)
was_refused s r q e = refl

was_replied : (s t : State) (r : Refused) (reply : Reply) → Unchanged s r (replied t reply)
was_replied s t r reply e = cc

steps_ran : (s : State) (r : Refused) (pid n : ℕ) (p : Process) (o : Option Process) → process_of s.processes pid ≡ Some p → process_of (steps s pid n).state.processes pid ≡ o → Unchanged s r (ran_to (steps s pid n) o)
steps_ran s r pid n p (Some q) e f = was_replied s _ r _
steps_ran s r pid n p None e f = λ h. absurd (stays s.processes (steps s pid n).state.processes pid p (steps_longer n s pid) e f)

steps_refused : (s : State) (r : Refused) (pid n : ℕ) (o : Option Process) → live_process s.processes pid ≡ o → Unchanged s r (next_steps s pid n o)
steps_refused s r pid n None e = λ h. refl
steps_refused s r pid n (Some p) e =
    let q = there (process_of s.processes pid) p e in
    either s r _ (refused s NotReady) _ (λ h. refl) (steps_ran s r pid n q.0 (process_of (steps s pid n).state.processes pid) q.1 refl)

deliver_refused : (s : State) (r : Refused) (pid : ℕ) (o : Option Process) → Unchanged s r (next_deliver s pid o)
deliver_refused s r pid None = λ h. refl
deliver_refused s r pid (Some p) = either s r _ (refused s NotReady) _ (λ h. refl) (was_replied s _ r _)

timed_out_refused : (s : State) (r : Refused) (pid : ℕ) (p : Process) (o : Option Deadline) → Unchanged s r (timed_out s pid p o)
timed_out_refused s r pid p None = λ h. refl
timed_out_refused s r pid p (Some d) = either s r _ _ (refused s NotReady) (was_replied s _ r _) (λ h. refl)

timeout_refused : (s : State) (r : Refused) (pid : ℕ) (o : Option Process) → Unchanged s r (next_timeout s pid o)
timeout_refused s r pid None = λ h. refl
timeout_refused s r pid (Some p) = timed_out_refused s r pid p p.deadline

sent_refused : (s : State) (r : Refused) (o : Option Process) (pid : ℕ) (message : TermValue) → Unchanged s r (sent_to s o pid message)
sent_refused s r None pid message = λ h. refl
sent_refused s r (Some p) pid message = was_replied s _ r _

send_refused : (s : State) (r : Refused) (o : Option ℕ) (message : TermValue) → Unchanged s r (next_send s o message)
send_refused s r None message = λ h. refl
send_refused s r (Some pid) message = sent_refused s r (live_process s.processes pid) pid message

pub refusal : (s : State) (e : Event Listing) (r : Refused) → Unchanged s r (next s e)
refusal s (event.Load l) r = either s r _ (refused s Sticky) _ (λ h. refl) (either s r _ _ (refused s TooMany) (was_replied s _ r _) (λ h. refl))
refusal s (event.LoadStrict l) r =
    either s r _ (refused s Sticky) _ (λ h. refl) (either s r _ (refused s NotPurged) _ (λ h. refl) (either s r _ _ (refused s TooMany) (was_replied s _ r _) (λ h. refl)))
refusal s (event.AtomicLoad mode ls) r =
    either s r _ (refused s Sticky) _ (λ h. refl) (either s r _ (refused s Duplicated) _ (λ h. refl)
    (either s r _ (refused s NotPurged) _ (λ h. refl) (either s r _ _ (refused s TooMany) (was_replied s _ r _) (λ h. refl))))
refusal s (event.Delete name) r = either s r _ _ _ (was_replied s _ r _) (was_replied s _ r _)
refusal s (event.SoftPurge name) r = either s r _ _ _ (was_replied s _ r _) (was_replied s _ r _)
refusal s (event.Purge name) r = was_replied s _ r _
refusal s (event.Versions name) r = was_replied s _ r _
refusal s (event.Spawn name function arguments) r = either s r _ _ (refused s TooMany) (was_replied s _ r _) (λ h. refl)
refusal s (event.Send to message) r = send_refused s r (receiver_of s.processes to) message
refusal s (event.Steps pid n) r = steps_refused s r pid n (live_process s.processes pid) refl
refusal s (event.Deliver pid) r = deliver_refused s r pid (live_process s.processes pid)
refusal s (event.Clock now) r = either s r _ (refused s BackwardClock) _ (λ h. refl) (was_replied s _ r _)
refusal s (event.Timeout pid) r = timeout_refused s r pid (live_process s.processes pid)
