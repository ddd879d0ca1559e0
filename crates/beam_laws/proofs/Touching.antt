-- Each event keeps to what it may touch.
use Rattle.std.proofs.Common.{◌≡◌, ℕ, ◌&&◌, Bool, true, false, cond, not, nat_lt, List, [], ◌∷◌, ap, subst, refl, ◌∙◌, arith, is_some, Option, Some, None}
use Rattle.std.proofs.lemmas.Bool.Decides.{nat_tests}
use Rattle.std.specs.List.{list_any}
use Rattle.beam_machine.specs.declared.event.Event.{Event}
use Rattle.beam_machine.specs.declared.event.Refused.{Refused}
use Rattle.beam_machine.specs.declared.event.Refused.TheVariants.{BackwardClock, NotReady, Sticky, NotPurged, TooMany}
use Rattle.beam_machine.specs.declared.event.Reply.TheVariants.{Done, Changed}
use Rattle.beam_machine.specs.declared.process.Deadline.{Deadline}
use Rattle.beam_machine.specs.declared.process.Signal.TheVariants.{Message}
use Rattle.beam_machine.specs.Prelude.{current_of, old_of, deleted, purged, lingers_at, lingers_in_old, killing, Next, refused, replied, ran_to, next_steps, next_deliver, timed_out, next_timeout, sent_to, next_send, end_old, load_new, has_instances_left, is_lingered_in, next, Process, State, process_of, live_process, receiver_of, Touch, code, process, nothing, touch_of, Touches, stays, in_turn, loads, deletes, ends, purges, runs, arrives, times_out, ticks, posts, starts}
use Rattle.beam_term.specs.Prelude.{TermValue}
use Rattle.beam_machine.specs.declared.event.Event.TheVariants as event
use Rattle.beam_model.specs.Prelude.{Listing}
use Rattle.beam_machine.specs.Next.{steps}
use Rattle.beam_machine.specs.Touch.{clock}
use Rattle.beam_laws.proofs.Hearing.{nobody_ends}
use Rattle.beam_laws.proofs.Loads.{kept}

-- one of two outcomes, both of which keep to what may be touched
either : (t : Touch) (s : State) (b : Bool) (x y : Next) → Touches t s x.state → Touches t s y.state → Touches t s (cond b x y).state
either t s true x y h k = h
either t s false x y h k = k

-- a refusal, or an outcome that keeps to what may be touched
unless : (t : Touch) (s : State) (b : Bool) (why : Refused) (x : Next) → Touches t s x.state → Touches t s (cond b (refused s why) x).state
unless t s true why x h = stays t s
unless t s false why x h = h

-- ---- code

load_touches : (s : State) (l : Listing) → Touches code s (next s (event.Load l)).state
load_touches s l =
    unless code s _ Sticky _ (either code s (has_instances_left s) (load_new (end_old s l.name) l) (refused s TooMany) (loads s l) (stays code s))

strict_touches : (s : State) (l : Listing) (o : Option ℕ) → old_of s.code l.name ≡ o
    → Touches code s (cond {A = Next} (is_some o) (refused s NotPurged) (cond (has_instances_left s) (load_new s l) (refused s TooMany))).state
strict_touches s l (Some n) e = stays code s
strict_touches s l None e = either code s (has_instances_left s) (load_new s l) (refused s TooMany) over (stays code s)
  where
    none : (ps : List Process) → list_any (lingers_at None) ps ≡ false
    none [] = refl
    none (p ∷ ps) = none ps

    over : Touches code s (load_new s l).state
    over =
        subst (λ (ps : List Process). Touches code s (load_new (record s { processes = ps }) l).state)
        (ap (λ o. killing (lingers_at o) s.processes) e ∙ nobody_ends (lingers_at None) s.processes (none s.processes)) (loads s l)

delete_touches : (s : State) (name : List ℕ) (o : Option ℕ) (b : Bool) → old_of s.code name ≡ o
    → Touches code s (cond {A = Next} (b && not (is_some o)) (replied (record s { code = deleted s.code name }) (Changed true)) (replied s (Changed false))).state
delete_touches s name None true e = deletes s name e
delete_touches s name None false e = stays code s
delete_touches s name (Some n) true e = stays code s
delete_touches s name (Some n) false e = stays code s

soft_touches : (s : State) (name : List ℕ) (b : Bool) → is_lingered_in s name ≡ b
    → Touches code s (cond {A = Next} b (replied s (Changed false)) (replied (record s { code = purged s.code name }) (Changed true))).state
soft_touches s name true e = stays code s
soft_touches s name false e =
    subst (λ (ps : List Process). Touches code s (record s { code = purged s.code name; processes = ps })) (nobody_ends (lingers_in_old s.code name) s.processes e) (purges s name)

-- ---- one process

ran_touches : (s : State) (pid n : ℕ) (o : Option Process) → Touches (process pid) s (ran_to (steps s pid n) o).state
ran_touches s pid n None = runs s pid n
ran_touches s pid n (Some p) = runs s pid n

steps_touches : (s : State) (pid n : ℕ) (o : Option Process) → Touches (process pid) s (next_steps s pid n o).state
steps_touches s pid n None = stays (process pid) s
steps_touches s pid n (Some p) = unless (process pid) s _ NotReady _ (ran_touches s pid n (process_of (steps s pid n).state.processes pid))

deliver_touches : (s : State) (pid : ℕ) (o : Option Process) → live_process s.processes pid ≡ o → Touches (process pid) s (next_deliver s pid o).state
deliver_touches s pid None e = stays (process pid) s
deliver_touches s pid (Some p) e = unless (process pid) s _ NotReady _ (arrives s pid p e)

timed_out_touches : (s : State) (pid : ℕ) (p : Process) (o : Option Deadline) → live_process s.processes pid ≡ Some p → p.deadline ≡ o
    → Touches (process pid) s (timed_out s pid p o).state
timed_out_touches s pid p None e is = stays (process pid) s
timed_out_touches s pid p (Some d) e is = either (process pid) s _ _ (refused s NotReady) (times_out s pid p d e is) (stays (process pid) s)

timeout_touches : (s : State) (pid : ℕ) (o : Option Process) → live_process s.processes pid ≡ o → Touches (process pid) s (next_timeout s pid o).state
timeout_touches s pid None e = stays (process pid) s
timeout_touches s pid (Some p) e = timed_out_touches s pid p p.deadline e refl

-- ---- the clock, and events that touch none of these

clock_touches : (s : State) (now : ℕ) (b : Bool) → nat_lt now s.clock ≡ b → Touches clock s (cond b (refused s BackwardClock) (replied (record s { clock = now }) Done)).state
clock_touches s now true e = stays clock s
clock_touches s now false e = ticks s now (grind (arith, nat_tests))

sent_touches : (s : State) (o : Option Process) (pid : ℕ) (message : TermValue) → Touches nothing s (sent_to s o pid message).state
sent_touches s None pid message = stays nothing s
sent_touches s (Some p) pid message = posts s pid (Message message)

send_touches : (s : State) (o : Option ℕ) (message : TermValue) → Touches nothing s (next_send s o message).state
send_touches s None message = stays nothing s
send_touches s (Some pid) message = sent_touches s (live_process s.processes pid) pid message

-- ---- one event

pub next_touches : (s : State) (e : Event Listing) → Touches (touch_of e) s (next s e).state
next_touches s (event.Load l) = load_touches s l
next_touches s (event.LoadStrict l) = unless code s _ Sticky _ (strict_touches s l (old_of s.code l.name) refl)
next_touches s (event.AtomicLoad mode ls) = kept (Touches code s) (λ t ls h. in_turn code s t _ h (ends t ls)) (λ t l h. in_turn code s t _ h (load_touches t l)) s mode ls (stays code s)
next_touches s (event.Delete name) = delete_touches s name (old_of s.code name) (is_some (current_of s.code name)) refl
next_touches s (event.SoftPurge name) = soft_touches s name (is_lingered_in s name) refl
next_touches s (event.Purge name) = purges s name
next_touches s (event.Versions name) = stays nothing s
next_touches s (event.Spawn name function arguments) = either nothing s _ _ (refused s TooMany) (starts s name function arguments) (stays nothing s)
next_touches s (event.Send to message) = send_touches s (receiver_of s.processes to) message
next_touches s (event.Steps pid n) = steps_touches s pid n (live_process s.processes pid)
next_touches s (event.Deliver pid) = deliver_touches s pid (live_process s.processes pid) refl
next_touches s (event.Clock now) = clock_touches s now (nat_lt now s.clock) refl
next_touches s (event.Timeout pid) = timeout_touches s pid (live_process s.processes pid) refl
