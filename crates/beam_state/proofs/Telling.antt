-- The DOWNs of an end are posted before the process ends.
use Rattle.std.proofs.Common.{◌≡◌, ◌≢◌, ℕ, zero, suc, ◌+◌, ◌-◌, ◌<◌, ◌==◌, eq-eqb, true≢false, Bool, true, false, cond, List, [], ◌∷◌, ◌++◌, length, take, map, slice_get, get_or, append_assoc, append-nil, refl, sym, ap, subst, ◌∙◌, arith, length-take-le, Option, Some, None, option_map, slice_set}
use Rattle.std.proofs.lemmas.Bool.Decides.{nat_tests}
use Rattle.std.proofs.lemmas.List.{map-set, take_more}
use Rattle.std.proofs.lemmas.Option.{slice_get-get_or, same_Some}
use Rattle.std.specs.List.{list_any}
use Rattle.std.proofs.lemmas.Bool.{or_parts}
use Rattle.beam_machine.specs.declared.process.Monitor.{Monitor}
use Rattle.beam_machine.specs.declared.process.Signal.{Signal}
use Rattle.beam_machine.specs.declared.process.Status.{Status}
use Rattle.beam_machine.specs.Prelude.{answer_of, Process, is_ended, started, process_of, with_process, with_signals, monitors_process, downs, hearing_by, with_made, is_monitored}
use Rattle.beam_model.specs.declared.native.NodeNative.{NodeNative}
use Rattle.beam_term.specs.Prelude.{TermValue, nil_term}
use Rattle.beam_machine.specs.declared.process.Status.TheVariants.{Ended}
use Rattle.beam_laws.specs.Prelude.{posted_all, Rise, AreRising, each_sent}
use Rattle.beam_laws.proofs.Hearing.{none_more, as_before, hears, hearing_is, own_hears}
use Rattle.beam_laws.proofs.Orderly.{Orderly}
use Rattle.beam_laws.proofs.Posting.{all_posted_at, said, each_sent_to}
use Rattle.beam_state.proofs.Located.{at_pid}
use Rattle.beam_state.proofs.Located.{same_lists}
use Rattle.beam_state.specs.Prelude.{does_send, notices_of}
use Rattle.beam_state.proofs.Seen.{each, get_each, Unseen, moved, same_answer}

-- a function is applied to the processes at all indexes but one
abbrev pub but_one : (Process → Process) → ℕ → ℕ → Process → Process
but_one h zero zero = λ p. p
but_one h zero (suc i) = h
but_one h (suc at) zero = h
but_one h (suc at) (suc i) = but_one h at i

of_others : (h : Process → Process) (P : (Process → Process) → Type 0) → P h → P (λ p. p) → (at i : ℕ) → P (but_one h at i)
of_others h P given not zero zero = not
of_others h P given not zero (suc i) = given
of_others h P given not (suc at) zero = given
of_others h P given not (suc at) (suc i) = of_others h P given not at i

pub itself : (h : Process → Process) (at : ℕ) (p : Process) → but_one h at at p ≡ p
itself h zero p = refl
itself h (suc at) p = itself h at p

another : (h : Process → Process) (at i : ℕ) (p : Process) → at ≢ i → but_one h at i p ≡ h p
another h zero zero p ne = absurd (ne refl)
another h zero (suc i) p ne = refl
another h (suc at) zero p ne = refl
another h (suc at) (suc i) p ne = another h at i p (λ e. ne (ap suc e))

all_given : (h : Process → Process) (ps : List Process) → each (λ i. h) ps ≡ map h ps
all_given h [] = refl
all_given h (p ∷ ps) = ap (λ l. h p ∷ l) (all_given h ps)

set_other : (h : Process → Process) (ps : List Process) (at : ℕ) (q : Process) → slice_set (each (but_one h at) ps) at q ≡ slice_set (map h ps) at q
set_other h [] at q = refl
set_other h (p ∷ ps) zero q = ap (λ l. q ∷ l) (all_given h ps)
set_other h (p ∷ ps) (suc at) q = ap (λ l. h p ∷ l) (set_other h ps at q)

-- ---- the signals that are posted

abbrev heard_of : ℕ → TermValue → Process → List Signal
heard_of pid reason q = cond (q.pid == pid) [] (downs pid reason q.monitors)

hears_there : (pid at j : ℕ) (reason value : TermValue) (q : Process) → pid ≡ at + 1 → q.pid ≡ j + 1
    → with_signals (heard_of pid reason q) q ≡ but_one (hears pid (Ended reason value)) at j q
hears_there pid at j reason value q e n = by (q.pid == pid) refl
  where
    by : (b : Bool) → (q.pid == pid) ≡ b → with_signals (cond b [] (downs pid reason q.monitors)) q ≡ but_one (hears pid (Ended reason value)) at j q
    by true is =
        let same : at ≡ j = grind (arith, nat_tests) in
        none_more q ∙ subst (λ j. q ≡ but_one (hears pid (Ended reason value)) at j q) same (sym (itself (hears pid (Ended reason value)) at q))
    by false is =
        let other : at ≢ j = λ s. true≢false (sym (eq-eqb q.pid pid (n ∙ (ap (λ k. k + 1) (sym s) ∙ sym e))) ∙ is) in
        sym (another (hears pid (Ended reason value)) at j q other)

-- the processes after the DOWNs of an end were posted
pub told : (ps : List Process) (at pid : ℕ) (reason value : TermValue) → pid ≡ at + 1 → Orderly ps
    → posted_all ps (notices_of ps pid reason) ≡ each (but_one (hears pid (Ended reason value)) at) ps
told ps at pid reason value e o = same_lists (posted_all ps (notices_of ps pid reason)) (each (but_one (hears pid (Ended reason value)) at) ps) there
  where
    f : ℕ → Process → Process
    f = but_one (hears pid (Ended reason value)) at

    by : (j : ℕ) (o : Option Process) → slice_get ps j ≡ o → option_map (with_signals (said (heard_of pid reason) o)) o ≡ option_map (f j) o
    by j None g = refl
    by j (Some q) g = ap Some (hears_there pid at j reason value q e (o.0 j q g).0)

    there : (j : ℕ) → slice_get (posted_all ps (notices_of ps pid reason)) j ≡ slice_get (each f ps) j
    there j =
        sym (at_pid (posted_all ps (notices_of ps pid reason)) j (j + 1) refl)
        ∙ (all_posted_at ps (j + 1) (notices_of ps pid reason)
        ∙ (ap (λ ts. option_map (with_signals ts) (process_of ps (j + 1))) (each_sent_to (heard_of pid reason) ps (j + 1))
        ∙ (ap (λ o. option_map (with_signals (said (heard_of pid reason) o)) o) (at_pid ps j (j + 1) refl)
        ∙ (by j (slice_get ps j) refl ∙ sym (get_each f ps j)))))

-- the processes after the DOWNs were posted and the process ended
pub told_ends : (ps : List Process) (at pid : ℕ) (p : Process) (status : Status) → pid ≡ at + 1 → p.status ≡ status
    → with_process (each (but_one (hears pid status) at) ps) pid p ≡ with_made ps pid p
told_ends ps at pid p status e stands =
    let same : pid - 1 ≡ at = omega arith in
    ap (λ k. slice_set (each (but_one (hears pid status) at) ps) k p) same
    ∙ (set_other (hears pid status) ps at p
    ∙ (ap (slice_set (map (hears pid status) ps) at) (sym (own_hears pid status p stands))
    ∙ (sym (map-set (hears pid status) ps at p)
    ∙ (ap (λ k. map (hears pid status) (slice_set ps k p)) (sym same)
    ∙ (sym (hearing_is pid status (with_process ps pid p)) ∙ ap (λ s. hearing_by pid s (with_process ps pid p)) (sym stands))))))

-- posting the DOWNs of an end and then ending the process is the definition's end, of which all hear
pub notices_make : (ps : List Process) (at pid : ℕ) (p : Process) (reason value : TermValue) → pid ≡ at + 1 → p.status ≡ Ended reason value → Orderly ps
    → with_process (posted_all ps (notices_of ps pid reason)) pid p ≡ with_made ps pid p
notices_make ps at pid p reason value e stands o =
    ap (λ qs. with_process qs pid p) (told ps at pid reason value e o) ∙ told_ends ps at pid p (Ended reason value) e stands

-- the process that is to end is as it was before the DOWNs were posted
pub told_stays : (ps : List Process) (at pid : ℕ) (reason : TermValue) → pid ≡ at + 1 → Orderly ps → slice_get (posted_all ps (notices_of ps pid reason)) at ≡ slice_get ps at
told_stays ps at pid reason e o =
    ap (λ qs. slice_get qs at) (told ps at pid reason nil_term e o) ∙ (get_each (but_one (hears pid (Ended reason nil_term)) at) ps at ∙ by (slice_get ps at))
  where
    by : (o : Option Process) → option_map (but_one (hears pid (Ended reason nil_term)) at at) o ≡ o
    by None = refl
    by (Some p) = ap Some (itself (hears pid (Ended reason nil_term)) at p)

-- ---- the signals that are to be sent

-- no reference was made, so nothing is monitored
none_monitored : (ms : List Monitor) → Rise 0 0 ms → ms ≡ []
none_monitored [] h = refl
none_monitored (m ∷ ms) h = absurd (omega (arith, h.0, h.1.0))

none_sent : (at pid : ℕ) (reason : TermValue) (ps : List Process) → AreRising 0 ps → each_sent at (heard_of pid reason) ps ≡ []
none_sent at pid reason [] h = refl
none_sent at pid reason (p ∷ ps) h =
    ap (λ xs. map (λ signal. record { to = at; signal = signal }) xs ++ each_sent (at + 1) (heard_of pid reason) ps)
    (ap (λ ms. cond {A = List Signal} (p.pid == pid) [] (downs pid reason ms)) (none_monitored p.monitors h.0) ∙ elim (p.pid == pid) as (λ b. cond {A = List Signal} b [] [] ≡ []) [ true ↦ refl | false ↦ refl ])
    ∙ none_sent (at + 1) pid reason ps h.1

pub none_to_send : (ps : List Process) (pid : ℕ) (reason : TermValue) → AreRising 0 ps → notices_of ps pid reason ≡ []
none_to_send ps pid reason h = none_sent 1 pid reason ps h

each_more : (at : ℕ) (f : Process → List Signal) (ps : List Process) (p : Process) → each_sent at f (ps ++ p ∷ []) ≡ each_sent at f ps ++ map (λ signal. record { to = at + length ps; signal = signal }) (f p)
each_more at f [] p =
    let same : at ≡ at + 0 = omega arith in
    append-nil (map (λ signal. record { to = at; signal = signal }) (f p)) ∙ ap (λ k. map (λ signal. record { to = k; signal = signal }) (f p)) same
each_more at f (q ∷ ps) p =
    let same : (at + 1) + length ps ≡ at + suc (length ps) = omega arith in
    ap (λ xs. map (λ signal. record { to = at; signal = signal }) (f q) ++ xs) (each_more (at + 1) f ps p)
    ∙ (sym (append_assoc (map (λ signal. record { to = at; signal = signal }) (f q)) (each_sent (at + 1) f ps) (map (λ signal. record { to = (at + 1) + length ps; signal = signal }) (f p)))
    ∙ ap (λ k. each_sent at f (q ∷ ps) ++ map (λ signal. record { to = k; signal = signal }) (f p)) same)

-- the DOWNs to the first j + 1 processes are those to the first j and those to the next
pub notices_more : (ps : List Process) (j pid : ℕ) (reason : TermValue) (p : Process) → j < length ps → p ≡ get_or ps j p → Orderly ps
    → notices_of (take (j + 1) ps) pid reason ≡ notices_of (take j ps) pid reason ++ map (λ signal. record { to = p.pid; signal = signal }) (cond (p.pid == pid) [] (downs pid reason p.monitors))
notices_more ps j pid reason p l g o =
    let there : slice_get ps j ≡ Some p = slice_get-get_or ps j p l ∙ ap Some (sym g) in
    let many : length (take j ps) ≡ j = length-take-le j ps (omega (arith, l)) in
    let number : 1 + length (take j ps) ≡ p.pid = omega (arith, many, (o.0 j p there).0) in
    ap (λ qs. notices_of qs pid reason) (take_more ps j p l ∙ ap (λ q. take j ps ++ q ∷ []) (sym g))
    ∙ (each_more 1 (heard_of pid reason) (take j ps) p
    ∙ ap (λ k. notices_of (take j ps) pid reason ++ map (λ signal. record { to = k; signal = signal }) (heard_of pid reason p)) number)

-- where a pid isn't monitored, none of the processes monitors it
pub none_watches : (ps : List Process) (j pid : ℕ) (p : Process) → slice_get ps j ≡ Some p → is_monitored ps pid ≡ false → list_any (monitors_process pid) p.monitors ≡ false
none_watches [] j pid p e w = cc
none_watches (q ∷ ps) zero pid p e w = ap (λ r. list_any (monitors_process pid) r.monitors) (sym (same_Some q p e)) ∙ (or_parts (list_any (monitors_process pid) q.monitors) (is_monitored ps pid) w).0
none_watches (q ∷ ps) (suc j) pid p e w = none_watches ps j pid p e (or_parts (list_any (monitors_process pid) q.monitors) (is_monitored ps pid) w).1

-- ---- natives over processes that have heard of an end

module _ (pid at : ℕ) (reason value : TermValue) (e : pid ≡ at + 1) where
  abbrev f : ℕ → Process → Process
  f = but_one (hears pid (Ended reason value)) at

  of_each : (P : (Process → Process) → Type 0) → P (hears pid (Ended reason value)) → P (λ p. p) → (i : ℕ) → P (but_one (hears pid (Ended reason value)) at i)
  of_each P given not i = of_others (hears pid (Ended reason value)) P given not at i

  hears_renamed : (p : Process) (name : Option (List ℕ)) → hears pid (Ended reason value) (record p { name = name }) ≡ record (hears pid (Ended reason value) p) { name = name }
  hears_renamed p name =
      let ts : List Signal = p.transit ++ downs pid reason p.monitors in
      elim (is_ended p.status) as (λ b. cond b (record p { name = name }) (record p { name = name; transit = ts }) ≡ record (cond {A = Process} b p (record p { transit = ts })) { name = name }) [
        | true ↦ refl
        | false ↦ refl
      ]

  unseen : Unseen (but_one (hears pid (Ended reason value)) at)
  unseen = record {
    names = of_each (λ g. (p : Process) → (g p).name ≡ p.name) (λ p. as_before (λ p. p.name) (downs pid reason p.monitors) p refl) (λ p. refl);
    pids = of_each (λ g. (p : Process) → (g p).pid ≡ p.pid) (λ p. as_before (λ p. p.pid) (downs pid reason p.monitors) p refl) (λ p. refl);
    stands = of_each (λ g. (p : Process) → is_ended (g p).status ≡ is_ended p.status) (λ p. as_before (λ p. is_ended p.status) (downs pid reason p.monitors) p refl) (λ p. refl);
    renamed = of_each (λ g. (p : Process) (name : Option (List ℕ)) → g (record p { name = name }) ≡ record (g p) { name = name }) hears_renamed (λ p name. refl);
  }

  spared : (p : Process) → but_one (hears pid (Ended reason value)) at (pid - 1) p ≡ p
  spared p =
      let same : at ≡ pid - 1 = omega (arith, e) in
      subst (λ k. but_one (hears pid (Ended reason value)) at k p ≡ p) same (itself (hears pid (Ended reason value)) at p)

  begins : (i n : ℕ) (name function : List ℕ) (ts : List TermValue) → but_one (hears pid (Ended reason value)) at i (started n name function ts) ≡ started n name function ts
  begins i n name function ts = of_each (λ g. g (started n name function ts) ≡ started n name function ts) (none_more (started n name function ts)) refl i

  -- natives but those that send come to the same over processes that have heard of an end
  pub answer_told : (references : ℕ) (ps : List Process) (native : NodeNative) (arguments : List TermValue) → does_send native ≡ false
      → answer_of references (each (but_one (hears pid (Ended reason value)) at) ps) pid native arguments ≡ moved (but_one (hears pid (Ended reason value)) at) (answer_of references ps pid native arguments)
  answer_told references ps native arguments silent =
      same_answer (but_one (hears pid (Ended reason value)) at) unseen pid
      (λ p signal. spared (record p { transit = p.transit ++ signal ∷ [] }) ∙ ap (λ (q : Process). record q { transit = q.transit ++ signal ∷ [] }) (sym (spared p)))
      (λ p m. spared (record p { monitors = p.monitors ++ m ∷ [] }) ∙ ap (λ (q : Process). record q { monitors = q.monitors ++ m ∷ [] }) (sym (spared p)))
      references ps native arguments (begins (length ps)) (λ sends. absurd (true≢false (sym sends ∙ silent)))
