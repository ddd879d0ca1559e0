-- Processes that are killed once the DOWNs of all their ends were posted. That this is the definition's `killing` is seen place by place: a
-- process that passes the test ends whatever was sent to it, and any other isn't among those that end, so it is sent the DOWN of each end.
use Rattle.std.proofs.Common.{◌≡◌, ℕ, zero, suc, add-one, ◌+◌, ◌<◌, ◌==◌, ◌&&◌, ◌||◌, Bool, true, false, cond, List, [], ◌∷◌, ◌++◌, length, map, slice_get, slice_set, refl, sym, ap, subst, ◌∙◌, true≢false, arith, Option, Some, None, option_map, Result, Ok, Err, OnOk, IfSome, rules, filter, flat_map}
use Rattle.std.proofs.lemmas.Bool.Decides.{nat_tests}
use Rattle.std.proofs.lemmas.Option.{slice_get-map, same_Some}
use Rattle.std.specs.List.{list_any}
use Rattle.beam_term.specs.Prelude.{TermValue, nil_term}
use Rattle.beam_machine.specs.declared.process.Status.{Status}
use Rattle.beam_machine.specs.declared.process.Status.TheVariants.{Running, Waiting, Ended}
use Rattle.beam_machine.specs.declared.process.Signal.{Signal}
use Rattle.beam_machine.specs.Prelude.{Process, Sent, is_ended, ended, killed, pids_of, ends_or_hears, killing, process_of, with_signals, downs, is_monitored}
use Rattle.beam_laws.specs.Prelude.{posted_all, signals_to}
use Rattle.beam_laws.proofs.Hearing.{as_before}
use Rattle.beam_laws.proofs.Orderly.{Numbered, Orderly}
use Rattle.beam_laws.proofs.Posting.{signals_append, all_posted_at, said, each_sent_to}
use Rattle.beam_stack.proofs.Anys.{none, alike}
use Rattle.beam_state.specs.declared.lingering.OldInstances.{OldInstances}
use Rattle.beam_state.specs.declared.lingering.OldInstances.TheVariants.{One, Several}
use Rattle.beam_state.specs.Prelude.{notices_of}
use Rattle.beam_state.specs.Ends.{lingers_in, end_if, one_monitored, notices_of_each}
use Rattle.beam_state.proofs.Located.{at_pid, same_lists}
use Rattle.beam_state.proofs.Answering.{set_same}
use Rattle.beam_state.proofs.Asked.{said as said_of}
use Rattle.beam_state.proofs.Ended.{some_there}
use Rattle.beam_state.proofs.Notified.{unmonitored}

-- ---- the first n processes of a list are changed

abbrev pub partly : {A : Type 0} → (A → A) → ℕ → List A → List A
partly f zero xs = xs
partly f (suc n) [] = []
partly f (suc n) (x ∷ xs) = f x ∷ partly f n xs

partly_next : {A : Type 0} (f : A → A) (n : ℕ) (xs : List A) (x : A) → slice_get xs n ≡ Some x → slice_set (partly f n xs) n (f x) ≡ partly f (suc n) xs
partly_next f n [] x e = cc
partly_next f zero (y ∷ xs) x e = ap (λ z. f z ∷ xs) (sym (same_Some y x e))
partly_next f (suc n) (y ∷ xs) x e = ap (λ l. f y ∷ l) (partly_next f n xs x e)

pub partly_more : {A : Type 0} (f : A → A) (n : ℕ) (xs : List A) (x : A) → slice_get xs n ≡ Some x → slice_set (partly f n xs) n (f x) ≡ partly f (n + 1) xs
partly_more f n xs x e = partly_next f n xs x e ∙ ap (λ k. partly f k xs) (sym (add-one n))

pub partly_all : {A : Type 0} (f : A → A) (n : ℕ) (xs : List A) → n ≡ length xs → partly f n xs ≡ map f xs
partly_all f zero [] e = refl
partly_all f (suc n) [] e = absurd (omega arith)
partly_all f zero (x ∷ xs) e = absurd (omega arith)
partly_all f (suc n) (x ∷ xs) e = ap (λ l. f x ∷ l) (partly_all f n xs (omega (arith, e)))

pub partly_there : {A : Type 0} (f : A → A) (n : ℕ) (xs : List A) → slice_get (partly f n xs) n ≡ slice_get xs n
partly_there f zero xs = refl
partly_there f (suc n) [] = refl
partly_there f (suc n) (x ∷ xs) = partly_there f n xs

pub partly_long : {A : Type 0} (f : A → A) (n : ℕ) (xs : List A) → length (partly f n xs) ≡ length xs
partly_long f zero xs = refl
partly_long f (suc n) [] = refl
partly_long f (suc n) (x ∷ xs) = ap suc (partly_long f n xs)

pub partly_step : (f : Process → Process) (n : ℕ) (ps cur new : List Process) → n < length ps → cur ≡ partly f n ps
    → IfSome (slice_get cur n) (λ p. new ≡ slice_set cur n (f p)) → new ≡ partly f (n + 1) ps
partly_step f n ps cur new l is h =
    let there = some_there ps n l in
    let p : Process = there.0 in
    let at : slice_get cur n ≡ Some p = ap (λ qs. slice_get qs n) is ∙ (partly_there f n ps ∙ there.1) in
    said_of cur n p (λ p. new ≡ slice_set cur n (f p)) at h ∙ (ap (λ qs. slice_set qs n (f p)) is ∙ partly_more f n ps p there.1)

-- ---- a process that lingers in an old instance hasn't ended

ended_not : (old : OldInstances) (p : Process) (reason value : TermValue) → lingers_in old (ended p reason value) ≡ false
ended_not (One None) p reason value = refl
ended_not (One (Some number)) p reason value = refl
ended_not (Several numbers) p reason value = sym (none numbers.now.keys)

pub lingering_lives : (old : OldInstances) (ps : List Process) (at : ℕ) (p : Process) → Orderly ps → slice_get ps at ≡ Some p → lingers_in old p ≡ true → is_ended p.status ≡ false
lingering_lives old ps at p o e there = go p.status refl
  where
    go : (status : Status) → p.status ≡ status → is_ended p.status ≡ false
    go Running e = ap is_ended e
    go Waiting e = ap is_ended e
    go (Ended reason value) f =
        let same : p ≡ ended p reason value = (o.0 at p e).1 reason value f in
        absurd (true≢false (sym there ∙ (ap (lingers_in old) same ∙ ended_not old p reason value)))

pub lives_there : (old : OldInstances) (ps cur : List Process) (n : ℕ) → Orderly ps → slice_get cur n ≡ slice_get ps n
    → IfSome (slice_get cur n) (λ p. lingers_in old p ≡ true → is_ended p.status ≡ false)
lives_there old ps cur n o same = subst (λ o. IfSome o (λ p. lingers_in old p ≡ true → is_ended p.status ≡ false)) (sym same) (go (slice_get ps n) refl)
  where
    go : (q : Option Process) → slice_get ps n ≡ q → IfSome q (λ p. lingers_in old p ≡ true → is_ended p.status ≡ false)
    go None e = search rules
    go (Some p) e = λ there. lingering_lives old ps n p o e there

-- where every process fails a test, none of them passes it
pub nobody : (test : Process → Bool) (ps : List Process) → ((p : Process) → test p ≡ false) → false ≡ list_any test ps
nobody test ps fails = none ps ∙ sym (alike test (λ p. false) ps fails)

-- the signals in transit to a process don't decide whether it lingers
pub same_lingers : (old : OldInstances) (signals : List Signal) (p : Process) → lingers_in old (with_signals signals p) ≡ lingers_in old p
same_lingers (One None) signals p = refl
same_lingers (One (Some number)) signals p = as_before (lingers_in (One (Some number))) signals p refl
same_lingers (Several numbers) signals p = as_before (lingers_in (Several numbers)) signals p refl

pub on_ok : {T E : Type 0} {P : Type 0} (r : Result T E) → P → OnOk r P
on_ok (Ok t) h = h
on_ok (Err e) h = tt

-- ---- the DOWNs of several ends, one after another

pids_more : {A : Type 0} (test : Process → Bool) (f : ℕ → List A) (p : Process) (ps : List Process)
    → flat_map f (pids_of test (p ∷ ps)) ≡ cond (test p) (f p.pid) [] ++ flat_map f (pids_of test ps)
pids_more test f p ps = go (test p)
  where
    go : (b : Bool) → flat_map f (map (λ p. p.pid) (cond b (p ∷ filter test ps) (filter test ps))) ≡ cond b (f p.pid) [] ++ flat_map f (pids_of test ps)
    go true = refl
    go false = refl

-- two functions that agree on the processes that pass a test
of_passing : {A : Type 0} (test : Process → Bool) (f g : ℕ → List A) (ps : List Process) → ((i : ℕ) (p : Process) → slice_get ps i ≡ Some p → test p ≡ true → f p.pid ≡ g p.pid)
    → flat_map f (pids_of test ps) ≡ flat_map g (pids_of test ps)
of_passing test f g [] same = refl
of_passing test f g (p ∷ ps) same =
    pids_more test f p ps
    ∙ (ap (λ xs. xs ++ flat_map f (pids_of test ps)) (here (test p) refl)
    ∙ (ap (λ xs. cond (test p) (g p.pid) [] ++ xs) (of_passing test f g ps (λ i q e. same (suc i) q e)) ∙ sym (pids_more test g p ps)))
  where
    here : (b : Bool) → test p ≡ b → cond b (f p.pid) [] ≡ cond b (g p.pid) []
    here true e = same 0 p refl e
    here false e = refl

any_there : (test : Process → Bool) (ps : List Process) (n : ℕ) (p : Process) → slice_get ps n ≡ Some p → test p ≡ true → list_any test ps ≡ true
any_there test [] n p e passes = cc
any_there test (q ∷ ps) zero p e passes = ap (λ b. b || list_any test ps) (ap test (same_Some q p e) ∙ passes)
any_there test (q ∷ ps) (suc n) p e passes = ap (λ b. test q || b) (any_there test ps n p e passes) ∙ elim (test q) as (λ b. (b || true) ≡ true) [ true ↦ refl | false ↦ refl ]

pub monitored_there : (test : Process → Bool) (ps : List Process) (n : ℕ) (p : Process) → slice_get ps n ≡ Some p → test p ≡ true → is_monitored ps p.pid ≡ true
    → one_monitored test ps ≡ true
monitored_there test ps n p e passes monitored =
    any_there (λ p. test p && is_monitored ps p.pid) ps n p e (ap (λ b. b && is_monitored ps p.pid) passes ∙ monitored)

abbrev no_signals : ℕ → List Sent
no_signals pid = []

nothing : (pids : List ℕ) → flat_map no_signals pids ≡ []
nothing [] = refl
nothing (pid ∷ pids) = nothing pids

-- where none of those that pass the test is monitored, there is nothing to send
none_monitored : (test : Process → Bool) (ps : List Process) → one_monitored test ps ≡ false → notices_of_each ps (pids_of test ps) ≡ []
none_monitored test ps none =
    of_passing test (λ pid. notices_of ps pid killed) no_signals ps (λ i p e passes. unmonitored ps p.pid (go i p e passes (is_monitored ps p.pid) refl) killed)
    ∙ nothing (pids_of test ps)
  where
    go : (i : ℕ) (p : Process) → slice_get ps i ≡ Some p → test p ≡ true → (b : Bool) → is_monitored ps p.pid ≡ b → is_monitored ps p.pid ≡ false
    go i p e passes true m = absurd (true≢false (sym (monitored_there test ps i p e passes m) ∙ none))
    go i p e passes false m = m

pub some_monitored : (test : Process → Bool) (ps : List Process) (sent : List Sent) → sent ≡ notices_of_each ps (pids_of test ps) → (sent ≡ [] → ⊥) → one_monitored test ps ≡ true
some_monitored test ps sent is some = go (one_monitored test ps) refl
  where
    go : (b : Bool) → one_monitored test ps ≡ b → b ≡ true
    go true e = refl
    go false e = absurd (some (is ∙ none_monitored test ps e))

-- a process that isn't killed stays as it is
pub spared_there : (test : Process → Bool) (ps : List Process) (i : ℕ) (p : Process) → slice_get ps i ≡ Some p → test p ≡ false
    → IfSome (slice_get ps i) (λ q. ps ≡ slice_set ps i (end_if test q))
spared_there test ps i p e fails =
    subst (λ o. IfSome o (λ q. ps ≡ slice_set ps i (end_if test q))) (sym e)
    (sym (ap (slice_set ps i) (ap (λ b. cond b (ended p killed nil_term) p) fails) ∙ set_same ps i p e))

-- ---- all that is posted, seen from one process

-- what a process is sent where the process of a pid is killed
abbrev told_to : ℕ → Process → List Signal
told_to pid q = cond (q.pid == pid) [] (downs pid killed q.monitors)

signals_of_each : (n : ℕ) (f : ℕ → List Sent) (pids : List ℕ) → signals_to n (flat_map f pids) ≡ flat_map (λ pid. signals_to n (f pid)) pids
signals_of_each n f [] = refl
signals_of_each n f (pid ∷ pids) =
    signals_append n (f pid) (flat_map f pids) ∙ ap (λ ss. signals_to n (f pid) ++ ss) (signals_of_each n f pids)

each_alike : {A B : Type 0} (f g : A → List B) (xs : List A) → ((x : A) → f x ≡ g x) → flat_map f xs ≡ flat_map g xs
each_alike f g [] same = refl
each_alike f g (x ∷ xs) same = ap (λ ys. ys ++ flat_map f xs) (same x) ∙ ap (λ ys. g x ++ ys) (each_alike f g xs same)

seen : (pids : List ℕ) (ps : List Process) (n : ℕ) → signals_to n (notices_of_each ps pids) ≡ flat_map (λ pid. said (told_to pid) (process_of ps n)) pids
seen pids ps n =
    signals_of_each n (λ pid. notices_of ps pid killed) pids
    ∙ each_alike (λ pid. signals_to n (notices_of ps pid killed)) (λ pid. said (told_to pid) (process_of ps n)) pids (λ pid. each_sent_to (told_to pid) ps n)

module _ (test : Process → Bool) (ps : List Process) (numbered : Numbered ps) (same : (signals : List Signal) (p : Process) → test (with_signals signals p) ≡ test p) where
  -- a process that fails the test isn't one of those that end
  apart : (i j : ℕ) (p q : Process) → slice_get ps i ≡ Some p → slice_get ps j ≡ Some q → test p ≡ false → test q ≡ true → told_to q.pid p ≡ downs q.pid killed p.monitors
  apart i j p q e f fails passes = by (p.pid == q.pid) refl
    where
      by : (b : Bool) → (p.pid == q.pid) ≡ b → cond b [] (downs q.pid killed p.monitors) ≡ downs q.pid killed p.monitors
      by true is =
          let place : i ≡ j = grind (arith, nat_tests, (numbered i p e).0, (numbered j q f).0) in
          let one : p ≡ q = same_Some p q (sym e ∙ (ap (slice_get ps) place ∙ f)) in
          absurd (true≢false (sym passes ∙ (ap test (sym one) ∙ fails)))
      by false is = refl

  told : (i : ℕ) (p : Process) → slice_get ps i ≡ Some p → end_if test (with_signals (flat_map (λ pid. told_to pid p) (pids_of test ps)) p) ≡ ends_or_hears test (pids_of test ps) p
  told i p e =
      ap (λ b. cond b (ended (with_signals ts p) killed nil_term) (with_signals ts p)) (same ts p) ∙ by (test p) refl
    where
      ts : List Signal
      ts = flat_map (λ pid. told_to pid p) (pids_of test ps)

      us : List Signal
      us = flat_map (λ pid. downs pid killed p.monitors) (pids_of test ps)

      by : (b : Bool) → test p ≡ b → cond b (ended (with_signals ts p) killed nil_term) (with_signals ts p) ≡ cond b (ended p killed nil_term) (with_signals us p)
      by true passes = as_before (λ q. ended q killed nil_term) ts p refl
      by false fails =
          ap (λ ss. with_signals ss p) (of_passing test (λ pid. told_to pid p) (λ pid. downs pid killed p.monitors) ps (λ j q f passes. apart i j p q e f fails passes))

  told_there : (i : ℕ) (o : Option Process) → slice_get ps i ≡ o
      → option_map (end_if test) (option_map (with_signals (flat_map (λ pid. said (told_to pid) o) (pids_of test ps))) o) ≡ option_map (ends_or_hears test (pids_of test ps)) o
  told_there i None e = refl
  told_there i (Some p) e = ap Some (told i p e)

  told_and_killed : map (end_if test) (posted_all ps (notices_of_each ps (pids_of test ps))) ≡ killing test ps
  told_and_killed = same_lists (map (end_if test) qs) (killing test ps) each
    where
      sent : List Sent
      sent = notices_of_each ps (pids_of test ps)

      qs : List Process
      qs = posted_all ps (notices_of_each ps (pids_of test ps))

      each : (i : ℕ) → slice_get (map (end_if test) (posted_all ps (notices_of_each ps (pids_of test ps)))) i ≡ slice_get (killing test ps) i
      each i =
          slice_get-map (end_if test) qs i
          ∙ (ap (option_map (end_if test))
          (sym (at_pid qs i (i + 1) refl)
          ∙ (all_posted_at ps (i + 1) sent
          ∙ (ap (λ signals. option_map (with_signals signals) (process_of ps (i + 1))) (seen (pids_of test ps) ps (i + 1))
          ∙ ap (λ o. option_map (with_signals (flat_map (λ pid. said (told_to pid) o) (pids_of test ps))) o) (at_pid ps i (i + 1) refl))))
          ∙ (told_there i (slice_get ps i) refl ∙ sym (slice_get-map (ends_or_hears test (pids_of test ps)) ps i)))

-- the DOWNs of the ends of all that linger are posted, and then these are killed
pub posted_and_killed : (old : OldInstances) (ps mid new : List Process) (sent : List Sent) → Orderly ps → sent ≡ notices_of_each ps (pids_of (lingers_in old) ps)
    → mid ≡ posted_all ps sent → new ≡ map (end_if (lingers_in old)) mid → new ≡ killing (lingers_in old) ps
posted_and_killed old ps mid new sent o is posted ends =
    ends ∙ (ap (map (end_if (lingers_in old))) (posted ∙ ap (posted_all ps) is) ∙ told_and_killed (lingers_in old) ps o.0 (same_lingers old))
