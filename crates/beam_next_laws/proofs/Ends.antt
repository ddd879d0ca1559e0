-- Whom an event tells of an end: by the event's kind, for a process that is alive before and after it.
use Rattle.std.proofs.Common.{◌≡◌, eq-eqb, ◌≢◌, ℕ, zero, suc, ◌+◌, ◌-◌, ◌==◌, ◌&&◌, ◌<◌, Bool, true, false, true≢false, cond, not, nat_le, List, [], ◌∷◌, ◌++◌, ◌⊎◌, inl, inr, map, filter, flat_map, slice_get, refl, sym, ap, subst, ◌∙◌, arith, Option, Some, None, option_map, is_some, Ok, Err}
use Rattle.std.proofs.lemmas.Bool.Decides.{nat_tests}
use Rattle.std.proofs.lemmas.List.{append_cancel_left}
use Rattle.std.proofs.lemmas.List.Elements.{filter-append}
use Rattle.std.specs.List.{AllByRecursion}
use Rattle.beam_term.specs.Prelude.{TermValue, nil_term}
use Rattle.beam_model.specs.Prelude.{Listing, is_this_number}
use Rattle.beam_machine.specs.declared.event.Event.{Event}
use Rattle.beam_machine.specs.declared.event.Event.TheVariants as event
use Rattle.beam_machine.specs.declared.event.Refused.TheVariants.{NotReady}
use Rattle.beam_machine.specs.declared.event.Reply.{Reply}
use Rattle.beam_machine.specs.declared.event.Reply.TheVariants.{Done, Changed}
use Rattle.beam_machine.specs.declared.process.Deadline.{Deadline}
use Rattle.beam_machine.specs.declared.process.Monitor.{Monitor}
use Rattle.beam_machine.specs.declared.process.Signal.{Signal}
use Rattle.beam_machine.specs.declared.process.Signal.TheVariants.{Down}
use Rattle.beam_machine.specs.declared.process.Status.{Status}
use Rattle.beam_machine.specs.declared.process.Status.TheVariants.{Running, Ended}
use Rattle.beam_machine.specs.Prelude.{Process, own_pid, own_number, is_ended, is_waiting, ended, killed, goes_on, State, empty, process_of, live_process, with_process, with_signals, downs, monitors_process, current_of, old_of, deleted, lingers_in_old, lingers_in_olds, pids_of, ends_or_hears, killing, Answer, Next, refused, replied, put_process, made_process, delivered, is_nothing, next_deliver, timed_out, next_timeout, next, run, Touch, code, process, nothing, touch_of}
use Rattle.beam_machine.specs.Next.{steps}
use Rattle.beam_machine.specs.Touch.{clock}
use Rattle.beam_laws.specs.Prelude.{AreRising, Orderly, Rise, with_name_and_transit, downs_of_end, is_of_others, touches_others, steps_send, signals_to, sent}
use Rattle.beam_laws.proofs.Ending.{alive_is, at_index}
use Rattle.beam_laws.proofs.Hearing.{as_before, hears, hearing_at, hearing_here, process_map}
use Rattle.beam_laws.proofs.Numbered.{positive, put_here, put_elsewhere}
use Rattle.beam_laws.proofs.Orderly.{none_orderly, run_orderly}
use Rattle.beam_laws.proofs.Private.{having_status}
use Rattle.beam_laws.proofs.Purging.{load_ends, strict_ends_none, soft_keeps}
use Rattle.beam_laws.proofs.Refusing.{refusal}
use Rattle.beam_laws.proofs.Rising.{run_rises}
use Rattle.beam_laws.proofs.Sending.{steps_state, others_stay}
use Rattle.beam_laws.proofs.Upgraded.{upgrade_parts}
use Rattle.beam_laws.proofs.Waiting.{others_leave}
use Rattle.beam_next_laws.specs.Heard.{EndsBetween, is_down, is_down_with, is_down_of}
use Rattle.beam_next_laws.proofs.Downs.{plain_signals, all_of, From, one_of_several, one_each}
use Rattle.beam_next_laws.proofs.Telling.{rows_tell}

-- ---- two values of one process

pub same_process : (o : Option Process) (x y : Process) → o ≡ Some y → o ≡ Some x → x ≡ y
same_process o x y e f =
    let both : Some y ≡ Some x = sym e ∙ f in
    cc

over : (q : Process) (reason value : TermValue) → q.status ≡ Ended reason value → is_ended q.status ≡ true
over q reason value e = ap is_ended e

-- the reason of an end
reason_is : (reason value other more : TermValue) (status : Status) → status ≡ Ended other more → status ≡ Ended reason value → reason ≡ other
reason_is reason value other more status e f =
    let both : Ended other more ≡ Ended reason value = sym e ∙ f in
    cc

-- ---- a process that the event is not about

unaffected : (s : State) (e : Event Listing) (pid : ℕ) (reason : TermValue) → is_of_others pid e ≡ true → EndsBetween pid reason s (next s e).state → ⊥
unaffected s e pid reason h (p, q, value, live, at, st) =
    let a = alive_is (process_of s.processes pid) p live in
    let left = others_leave s (e ∷ []) pid p (h, tt) a.0 in
    let name : Option (List ℕ) = left.1.0 in
    let transit : List Signal = p.transit ++ signals_to pid (sent s (e ∷ [])) in
    let is : q ≡ with_name_and_transit name transit p = same_process (process_of (next s e).state.processes pid) q (with_name_and_transit name transit p) left.1.1 at in
    let lives : is_ended q.status ≡ false = ap (λ z. is_ended z.status) is ∙ (ap is_ended (having_status name transit p) ∙ a.1) in
    true≢false (sym (over q reason value st) ∙ lives)

-- a process that is alive isn't one that has ended
apart : (t : State) (pid n : ℕ) (q r : Process) → process_of t.processes pid ≡ Some q → is_ended q.status ≡ true → live_process t.processes n ≡ Some r → n ≢ pid
apart t pid n q r at ended live same =
    let b = alive_is (process_of t.processes n) r live in
    let is : r ≡ q = same_process (process_of t.processes pid) r q at (ap (process_of t.processes) (sym same) ∙ b.0) in
    true≢false (sym ended ∙ (ap (λ z. is_ended z.status) (sym is) ∙ b.1))

-- ---- what came

-- signals that are no DOWNs, and then the DOWNs of the end; or the DOWNs of all processes that pass a test, of which it is one
abbrev pub Last : ℕ → TermValue → List Monitor → List Signal → Type 0
Last pid reason ms came = (first : List Signal) × (filter is_down first ≡ []) × (came ≡ first ++ downs pid reason ms)

abbrev pub Told : State → ℕ → TermValue → List Monitor → List Signal → Type 0
Told s pid reason ms came =
    Last pid reason ms came
    ⊎ ((test : Process → Bool) × (p : Process) × (process_of s.processes pid ≡ Some p) × (test p ≡ true)
    × (came ≡ flat_map (λ at. downs at reason ms) (pids_of test s.processes)))

abbrev pub Came : State → ℕ → TermValue → Process → Process → Type 0
Came s pid reason q r = (came : List Signal) × (r.transit ≡ q.transit ++ came) × Told s pid reason q.monitors came

abbrev pub CameLast : ℕ → TermValue → Process → Process → Type 0
CameLast pid reason q r = (came : List Signal) × (r.transit ≡ q.transit ++ came) × Last pid reason q.monitors came

last_came : (s : State) (pid : ℕ) (reason : TermValue) (q r : Process) → CameLast pid reason q r → Came s pid reason q r
last_came s pid reason q r (came, is, last) = (came, is, inl last)

given_transit : (name : Option (List ℕ)) (transit : List Signal) (q : Process) → is_ended q.status ≡ false → (with_name_and_transit name transit q).transit ≡ transit
given_transit name transit q lives = ap (λ b. (cond {A = Process} b q (record q { name = name; transit = transit })).transit) lives

-- ---- its rows

pub by_rows : (s : State) (pid n k : ℕ) (reason : TermValue) (q r : Process) → EndsBetween pid reason s (next s (event.Steps pid k)).state → live_process s.processes n ≡ Some q
    → live_process (next s (event.Steps pid k)).state.processes n ≡ Some r → CameLast pid reason q r
by_rows s pid n k reason q r (p, x, value, live, at, st) live_q live_r =
    let t : State = (next s (event.Steps pid k)).state in
    let a = alive_is (process_of s.processes pid) p live in
    let b = alive_is (process_of s.processes n) q live_q in
    let c = alive_is (process_of t.processes n) r live_r in
    let ne : n ≢ pid = apart t pid n x r at (over x reason value st) live_r in
    let signals : List Signal = signals_to n (steps_send s pid k) in
    let stays = others_stay s pid k n q b.0 ne in
    let is : r ≡ with_name_and_transit stays.0 (q.transit ++ signals) q = same_process (process_of t.processes n) r (with_name_and_transit stays.0 (q.transit ++ signals) q) stays.1 c.0 in
    let there : process_of (steps s pid k).state.processes pid ≡ Some x = subst (λ (u : State). process_of u.processes pid ≡ Some x) (steps_state s pid k) at in
    let told = rows_tell pid n ne k s p q x a.0 a.1 b.0 there in (
      signals,
      ap (λ z. z.transit) is ∙ given_transit stays.0 (q.transit ++ signals) q b.1,
      (told.0, told.1, told.2 ∙ ap (λ status. told.0 ++ downs_of_end pid status q) st),
    )

-- ---- signals that arrive at it

by_signals : (s : State) (pid n : ℕ) (reason : TermValue) (p q r : Process) → live_process s.processes pid ≡ Some p → (b : Bool) → is_nothing p.transit ≡ b
    → EndsBetween pid reason s (cond {A = Next} b (refused s NotReady) (replied (made_process s pid (delivered (record p { transit = [] }) p.transit)) Done)).state
    → live_process s.processes n ≡ Some q
    → live_process (cond {A = Next} b (refused s NotReady) (replied (made_process s pid (delivered (record p { transit = [] }) p.transit)) Done)).state.processes n ≡ Some r
    → CameLast pid reason q r
by_signals s pid n reason p q r here true e (p', x, value, live, at, st) live_q live_r =
    let a = alive_is (process_of s.processes pid) p' live in
    let is : x ≡ p' = same_process (process_of s.processes pid) x p' a.0 at in
    absurd (true≢false (sym (over x reason value st) ∙ (ap (λ z. is_ended z.status) is ∙ a.1)))
by_signals s pid n reason p q r here false e (p', x, value, live, at, st) live_q live_r =
    let y : Process = delivered (record p { transit = [] }) p.transit in
    let a = alive_is (process_of s.processes pid) p here in
    let t : State = made_process s pid y in
    let b = alive_is (process_of s.processes n) q live_q in
    let c = alive_is (process_of t.processes n) r live_r in
    let ne : n ≢ pid = apart t pid n x r at (over x reason value st) live_r in
    let ps : List Process = with_process s.processes pid y in
    let is : x ≡ y = same_process (process_of t.processes pid) x y (hearing_here pid y.status ps y (put_here s.processes pid p y a.0) refl) at in
    let there : process_of ps n ≡ Some q = put_elsewhere s.processes pid n y ne (positive s.processes pid p a.0) ∙ b.0 in
    let heard : r ≡ hears pid y.status q = same_process (process_of t.processes n) r (hears pid y.status q) (hearing_at pid y.status ps n ∙ ap (option_map (hears pid y.status)) there) c.0 in
    let status : y.status ≡ Ended reason value = ap (λ z. z.status) (sym is) ∙ st in (
      downs pid reason q.monitors,
      ap (λ z. z.transit) heard
          ∙ (given_transit q.name (q.transit ++ downs_of_end pid y.status q) q b.1 ∙ ap (λ status. q.transit ++ downs_of_end pid status q) status),
      ([], refl, refl),
    )

by_delivery : (s : State) (pid n : ℕ) (reason : TermValue) (q r : Process) → EndsBetween pid reason s (next s (event.Deliver pid)).state → live_process s.processes n ≡ Some q
    → live_process (next s (event.Deliver pid)).state.processes n ≡ Some r → CameLast pid reason q r
by_delivery s pid n reason q r h live_q live_r =
    let p : Process = h.0 in
    let is : next s (event.Deliver pid) ≡ next_deliver s pid (Some p) = ap (next_deliver s pid) h.3 in
    by_signals s pid n reason p q r h.3 (is_nothing p.transit) refl (subst (λ (x : Next). EndsBetween pid reason s x.state) is h) live_q
    (subst (λ (x : Next). live_process x.state.processes n ≡ Some r) is live_r)

-- ---- its timeout

never_timed : (s : State) (pid : ℕ) (reason : TermValue) (p : Process) (o : Option Deadline) → live_process s.processes pid ≡ Some p → EndsBetween pid reason s (timed_out s pid p o).state → ⊥
never_timed s pid reason p None here (p', x, value, live, at, st) =
    let a = alive_is (process_of s.processes pid) p' live in
    let is : x ≡ p' = same_process (process_of s.processes pid) x p' a.0 at in
    true≢false (sym (over x reason value st) ∙ (ap (λ z. is_ended z.status) is ∙ a.1))
never_timed s pid reason p (Some d) here h = go (is_waiting p.status && nat_le d.at s.clock) h
  where
    y : Process
    y = record (goes_on p d.after) { deadline = None; status = Running }

    go : (b : Bool) → EndsBetween pid reason s (cond {A = Next} b (replied (put_process s pid y) Done) (refused s NotReady)).state → ⊥
    go true (p', x, value, live, at, st) =
        let a = alive_is (process_of s.processes pid) p here in
        let is : x ≡ y = same_process (process_of (with_process s.processes pid y) pid) x y (put_here s.processes pid p y a.0) at in
        true≢false (sym (over x reason value st) ∙ ap (λ z. is_ended z.status) is)
    go false (p', x, value, live, at, st) =
        let a = alive_is (process_of s.processes pid) p' live in
        let is : x ≡ p' = same_process (process_of s.processes pid) x p' a.0 at in
        true≢false (sym (over x reason value st) ∙ (ap (λ z. is_ended z.status) is ∙ a.1))

by_timeout : (s : State) (pid : ℕ) (reason : TermValue) → EndsBetween pid reason s (next s (event.Timeout pid)).state → ⊥
by_timeout s pid reason h =
    let p : Process = h.0 in
    let is : next s (event.Timeout pid) ≡ next_timeout s pid (Some p) = ap (next_timeout s pid) h.3 in
    never_timed s pid reason p p.deadline h.3 (subst (λ (x : Next). EndsBetween pid reason s x.state) is h)

-- ---- changes of code

-- the processes that pass the test end, or no process changes
abbrev pub Changes : State → State → Type 0
Changes s t = (t.processes ≡ s.processes) ⊎ ((test : Process → Bool) × (t.processes ≡ killing test s.processes))

change : (s : State) (e : Event Listing) (test : Process → Bool) → ((r : Reply) → (next s e).answer ≡ Ok r → (next s e).state.processes ≡ killing test s.processes) → Changes s (next s e).state
change s e test ends = go (next s e).answer refl
  where
    go : (a : Answer) → (next s e).answer ≡ a → Changes s (next s e).state
    go (Ok r) is = inr (test, ends r is)
    go (Err r) is = inl (ap (λ t. t.processes) (refusal s e r is))

code_changes : (s : State) (e : Event Listing) → touch_of e ≡ code → Changes s (next s e).state
code_changes s (event.Load l) is = change s (event.Load l) (lingers_in_old s.code l.name) (load_ends s l)
code_changes s (event.LoadStrict l) is = inl (strict_ends_none s l)
code_changes s (event.AtomicLoad mode ls) is =
    change s (event.AtomicLoad mode ls) (lingers_in_olds s.code (map (λ l. l.name) ls)) (λ r e. ap (λ t. t.processes) (upgrade_parts s mode ls r e))
code_changes s (event.Purge name) is = change s (event.Purge name) (lingers_in_old s.code name) (λ r e. refl)
code_changes s (event.SoftPurge name) is = inl (soft_keeps s name)
code_changes s (event.Delete name) is = inl (go (is_some (current_of s.code name) && not (is_some (old_of s.code name))))
  where
    go : (b : Bool) → (cond {A = Next} b (replied (record s { code = deleted s.code name }) (Changed true)) (replied s (Changed false))).state.processes ≡ s.processes
    go true = refl
    go false = refl
code_changes s e is = cc

by_change : (s t : State) (pid n : ℕ) (reason : TermValue) (q r : Process) → Changes s t → EndsBetween pid reason s t → live_process s.processes n ≡ Some q → live_process t.processes n ≡ Some r
    → Came s pid reason q r
by_change s t pid n reason q r (inl same) (p, x, value, live, at, st) live_q live_r =
    let a = alive_is (process_of s.processes pid) p live in
    let is : x ≡ p = same_process (process_of s.processes pid) x p a.0 (ap (λ ps. process_of ps pid) (sym same) ∙ at) in
    absurd (true≢false (sym (over x reason value st) ∙ (ap (λ z. is_ended z.status) is ∙ a.1)))
by_change s t pid n reason q r (inr (test, killed')) (p, x, value, live, at, st) live_q live_r = dies (test p) refl
  where
    pids : List ℕ
    pids = pids_of test s.processes

    signals : Process → List Signal
    signals y = flat_map (λ at. downs at killed y.monitors) pids

    a : (process_of s.processes pid ≡ Some p) × (is_ended p.status ≡ false)
    a = alive_is (process_of s.processes pid) p live

    b : (process_of s.processes n ≡ Some q) × (is_ended q.status ≡ false)
    b = alive_is (process_of s.processes n) q live_q

    c : (process_of t.processes n ≡ Some r) × (is_ended r.status ≡ false)
    c = alive_is (process_of t.processes n) r live_r

    after : (at : ℕ) (y : Process) → process_of s.processes at ≡ Some y → process_of t.processes at ≡ Some (ends_or_hears test pids y)
    after at y e = ap (λ ps. process_of ps at) killed' ∙ (process_map (ends_or_hears test pids) s.processes at ∙ ap (option_map (ends_or_hears test pids)) e)

    x_is : x ≡ ends_or_hears test pids p
    x_is = same_process (process_of t.processes pid) x (ends_or_hears test pids p) (after pid p a.0) at

    r_is : r ≡ ends_or_hears test pids q
    r_is = same_process (process_of t.processes n) r (ends_or_hears test pids q) (after n q b.0) c.0

    hears_it : (d : Bool) → test q ≡ d → test p ≡ true → reason ≡ killed → Came s pid reason q r
    hears_it true i j why =
        let dead : r ≡ ended q killed nil_term = r_is ∙ ap (λ d. cond d (ended q killed nil_term) (with_signals (signals q) q)) i in
        absurd (true≢false (ap (λ z. is_ended z.status) (sym dead) ∙ c.1))
    hears_it false i j why =
        let told : r ≡ with_signals (signals q) q = r_is ∙ ap (λ d. cond d (ended q killed nil_term) (with_signals (signals q) q)) i in (
          signals q,
          ap (λ z. z.transit) told ∙ given_transit q.name (q.transit ++ signals q) q b.1,
          inr (test, p, a.0, j, ap (λ why. flat_map (λ at. downs at why q.monitors) pids) (sym why)),
        )

    dies : (d : Bool) → test p ≡ d → Came s pid reason q r
    dies true i =
        let dead : x ≡ ended p killed nil_term = x_is ∙ ap (λ d. cond d (ended p killed nil_term) (with_signals (signals p) p)) i in
        hears_it (test q) refl i (reason_is reason value killed nil_term x.status (ap (λ z. z.status) dead) st)
    dies false i =
        let lives : x ≡ with_signals (signals p) p = x_is ∙ ap (λ d. cond d (ended p killed nil_term) (with_signals (signals p) p)) i in
        absurd (true≢false (sym (over x reason value st) ∙ (ap (λ z. is_ended z.status) lives ∙ (ap is_ended (as_before (λ z. z.status) (signals p) p refl) ∙ a.1))))

-- ---- one event

module _ (s : State) (pid n : ℕ) (reason : TermValue) (q r : Process) (live_q : live_process s.processes n ≡ Some q) where
  abbrev Case : Event Listing → Type 0
  Case e = EndsBetween pid reason s (next s e).state → live_process (next s e).state.processes n ≡ Some r → Came s pid reason q r

  -- an event of one process
  of_process : (at : ℕ) (e : ℕ → Event Listing) → ((k : ℕ) → touch_of (e k) ≡ process k) → Case (e pid) → Case (e at)
  of_process at e touches h = go (at == pid) refl
    where
      go : (b : Bool) → (at == pid) ≡ b → Case (e at)
      go true i =
          let same : pid ≡ at = grind (arith, nat_tests) in
          subst (λ at. Case (e at)) same h
      go false i = λ ends live. absurd (unaffected s (e at) pid reason (ap (touches_others pid) (touches at) ∙ ap not i) ends)

  other_event : (e : Event Listing) → is_of_others pid e ≡ true → Case e
  other_event e h = λ ends live. absurd (unaffected s e pid reason h ends)

  by_touch : (e : Event Listing) → ((at : ℕ) → touch_of e ≡ process at → Case e) → (t : Touch) → touch_of e ≡ t → Case e
  by_touch e one code is = λ ends live. by_change s (next s e).state pid n reason q r (code_changes s e is) ends live_q live
  by_touch e one (process at) is = one at is
  by_touch e one clock is = other_event e (ap (touches_others pid) is)
  by_touch e one nothing is = other_event e (ap (touches_others pid) is)

  pub came_by : (e : Event Listing) → Case e
  came_by (event.Steps at k) = of_process at (λ at. event.Steps at k) (λ at. refl) (λ ends live. last_came s pid reason q r (by_rows s pid n k reason q r ends live_q live))
  came_by (event.Deliver at) = of_process at (λ at. event.Deliver at) (λ at. refl) (λ ends live. last_came s pid reason q r (by_delivery s pid n reason q r ends live_q live))
  came_by (event.Timeout at) = of_process at (λ at. event.Timeout at) (λ at. refl) (λ ends live. absurd (by_timeout s pid reason ends))
  came_by (event.Load l) = by_touch (event.Load l) (λ at is. cc) code refl
  came_by (event.LoadStrict l) = by_touch (event.LoadStrict l) (λ at is. cc) code refl
  came_by (event.AtomicLoad mode ls) = by_touch (event.AtomicLoad mode ls) (λ at is. cc) code refl
  came_by (event.Delete name) = by_touch (event.Delete name) (λ at is. cc) code refl
  came_by (event.SoftPurge name) = by_touch (event.SoftPurge name) (λ at is. cc) code refl
  came_by (event.Purge name) = by_touch (event.Purge name) (λ at is. cc) code refl
  came_by (event.Versions name) = other_event (event.Versions name) refl
  came_by (event.Spawn m f arguments) = other_event (event.Spawn m f arguments) refl
  came_by (event.Send to message) = other_event (event.Send to message) refl
  came_by (event.Clock now) = other_event (event.Clock now) refl

-- ---- which DOWNs came

pub all_at : {A : Type 0} (P : A → Type 0) (xs : List A) (i : ℕ) (x : A) → AllByRecursion P xs → slice_get xs i ≡ Some x → P x
all_at P [] i x h e = cc
all_at P (y ∷ ys) zero x h e =
    let same : y ≡ x = cc in
    subst P same h.0
all_at P (y ∷ ys) (suc i) x h e = all_at P ys i x h.1 e

told_all : (s : State) (pid n : ℕ) (reason : TermValue) (q : Process) (came : List Signal) → Orderly s.processes → AreRising s.references s.processes → process_of s.processes n ≡ Some q
    → Told s pid reason q.monitors came → filter (is_down_of pid q.monitors) came ≡ downs pid reason q.monitors
told_all s pid n reason q came orderly rising at (inl (first, plain, is)) =
    ap (filter (is_down_of pid q.monitors)) is
    ∙ (filter-append (is_down_of pid q.monitors) first (downs pid reason q.monitors)
    ∙ (ap (λ xs. xs ++ filter (is_down_of pid q.monitors) (downs pid reason q.monitors)) (plain_signals pid q.monitors first plain) ∙ all_of pid reason [] q.monitors))
told_all s pid n reason q came orderly rising at (inr (test, p, there, passes, is)) =
    let rise : Rise 0 s.references q.monitors = all_at (λ p. Rise 0 s.references p.monitors) s.processes (n - 1) q rising (at_index s.processes n q at) in
    let from : From 1 s.processes = λ i p e. (orderly.0 i p e).0 in
    let l : 0 < pid = positive s.processes pid p there in
    let same : pid ≡ (pid - 1) + 1 = omega (arith, l) in
    ap (filter (is_down_of pid q.monitors)) is ∙ one_of_several pid (pid - 1) reason s.references q.monitors test s.processes p rise from (at_index s.processes pid p there) passes same

-- a monitor of a process's own pid watches the process of that number
own_watched : (m : Monitor) (pid : ℕ) → m.pid ≡ own_pid pid → monitors_process pid m ≡ true
own_watched m pid e = ap (λ t. is_this_number pid (own_number t)) e ∙ eq-eqb pid pid refl

pub some_came : (s : State) (e : Event Listing) (pid n : ℕ) (reason : TermValue) (q r : Process) → EndsBetween pid reason s (next s e).state → live_process s.processes n ≡ Some q
    → live_process (next s e).state.processes n ≡ Some r → (came : List Signal) × (r.transit ≡ q.transit ++ came)
some_came s e pid n reason q r ends live_q live_r =
    let c = came_by s pid n reason q r live_q e ends live_r in
    (c.0, c.1)

pub all_came : (s : State) (e : Event Listing) (pid n : ℕ) (reason : TermValue) (q r : Process) (came : List Signal) → Orderly s.processes → AreRising s.references s.processes
    → EndsBetween pid reason s (next s e).state → live_process s.processes n ≡ Some q → live_process (next s e).state.processes n ≡ Some r → r.transit ≡ q.transit ++ came
    → filter (is_down_of pid q.monitors) came ≡ downs pid reason q.monitors
all_came s e pid n reason q r came orderly rising ends live_q live_r is =
    let c = came_by s pid n reason q r live_q e ends live_r in
    let same : c.0 ≡ came = append_cancel_left q.transit c.0 came (sym c.1 ∙ is) in
    subst (λ xs. filter (is_down_of pid q.monitors) xs ≡ downs pid reason q.monitors) same
    (told_all s pid n reason q c.0 orderly rising (alive_is (process_of s.processes n) q live_q).0 c.2)

pub each_came : (s : State) (e : Event Listing) (pid n i : ℕ) (reason : TermValue) (q r : Process) (came : List Signal) (m : Monitor) → Orderly s.processes → AreRising s.references s.processes
    → EndsBetween pid reason s (next s e).state → live_process s.processes n ≡ Some q → live_process (next s e).state.processes n ≡ Some r → r.transit ≡ q.transit ++ came
    → slice_get q.monitors i ≡ Some m → m.pid ≡ own_pid pid → filter (is_down_with m.reference) came ≡ Down m.reference reason ∷ []
each_came s e pid n i reason q r came m orderly rising ends live_q live_r is at watches =
    let there = alive_is (process_of s.processes n) q live_q in
    let rise : Rise 0 s.references q.monitors = all_at (λ p. Rise 0 s.references p.monitors) s.processes (n - 1) q rising (at_index s.processes n q there.0) in
    one_each q.monitors s.references pid i reason m came rise at (own_watched m pid watches) (all_came s e pid n reason q r came orderly rising ends live_q live_r is)

pub came_last : (s : State) (pid n k : ℕ) (reason : TermValue) (q r : Process) (came : List Signal) → EndsBetween pid reason s (next s (event.Steps pid k)).state
    → live_process s.processes n ≡ Some q → live_process (next s (event.Steps pid k)).state.processes n ≡ Some r → r.transit ≡ q.transit ++ came
    → (first : List Signal) × (filter is_down first ≡ []) × (came ≡ first ++ downs pid reason q.monitors)
came_last s pid n k reason q r came ends live_q live_r is =
    let c = by_rows s pid n k reason q r ends live_q live_r in
    let same : c.0 ≡ came = append_cancel_left q.transit c.0 came (sym c.1 ∙ is) in
    subst (Last pid reason q.monitors) same c.2

pub each_reached : (events : List (Event Listing)) (e : Event Listing) (pid n i : ℕ) (reason : TermValue) (q r : Process) (came : List Signal) (m : Monitor)
    → EndsBetween pid reason (run empty events).state (next (run empty events).state e).state → live_process (run empty events).state.processes n ≡ Some q
    → live_process (next (run empty events).state e).state.processes n ≡ Some r → r.transit ≡ q.transit ++ came → slice_get q.monitors i ≡ Some m → m.pid ≡ own_pid pid
    → filter (is_down_with m.reference) came ≡ Down m.reference reason ∷ []
each_reached events e pid n i reason q r came m =
    each_came (run empty events).state e pid n i reason q r came m (run_orderly empty events none_orderly) (run_rises empty events tt)
