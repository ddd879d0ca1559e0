-- The DOWNs made by the keys of monitors are those that all others are sent at an end.
use Rattle.std.proofs.Common.{◌≡◌, ℕ, zero, suc, ◌+◌, ◌-◌, ◌*◌, ◌<◌, ◌≤◌, ◌==◌, ◌&&◌, Bool, true, false, cond, not, nat_lt, List, [], ◌∷◌, ◌++◌, length, map, slice_get, append_assoc, append-nil, Option, Some, None, refl, sym, ap, subst, ◌∙◌, arith, true≢false, filter, ◌||◌, option_map, slice_set, eqb-true}
use Rattle.std.specs.Ordering.{nat_cmp}
use Rattle.std.proofs.lemmas.Bool.Decides.{nat_tests}
use Rattle.std.proofs.lemmas.List.{map-append}
use Rattle.std.proofs.lemmas.List.Folds.{list_any-append}
use Rattle.std.specs.List.{list_any}
use Rattle.std.specs.List.Sorted.{IsStrictlySortedBy}
use Rattle.std.proofs.lemmas.Bool.{and_parts, and_from, or_left, or_right}
use Rattle.std.proofs.lemmas.Option.{same_Some}
use Rattle.beam_lemmas.proofs.Tests.{itself}
use Rattle.beam_machine.specs.declared.process.Monitor.{Monitor}
use Rattle.beam_machine.specs.declared.process.Signal.{Signal}
use Rattle.beam_machine.specs.declared.process.Signal.TheVariants.{Down}
use Rattle.beam_machine.specs.declared.process.Status.{Status}
use Rattle.beam_machine.specs.declared.process.Status.TheVariants.{Running, Waiting, Ended}
use Rattle.beam_machine.specs.Prelude.{Sent, Process, is_ended, monitor_of, is_monitored, own_number, alive, process_of, live_process, monitors_process, downs}
use Rattle.beam_term.specs.Prelude.{TermValue}
use Rattle.beam_laws.specs.Prelude.{ArePart, Rise, AreRising, Ends, Orderly, each_sent}
use Rattle.beam_laws.proofs.Ending.{alive_is, at_index}
use Rattle.beam_laws.proofs.Numbered.{alive_of}
use Rattle.beam_model.specs.Prelude.{is_this_number}
use Rattle.beam_state.specs.Prelude.{AreLawful, notices_of, monitor_key, monitored_in, receiver_in, reference_in, has_key, is_key_of, is_monitored_by, MonitorNoMore, IsKeyed, AreKeyed, AreMonitorsKeyed, names_number, monitors_under, is_live_key, is_told, down_of, AreMonitorsKeyedIf, TellAll}
use Rattle.beam_state.proofs.Keys.{receiver_is, reference_is, monitored_is, key_is, of_monitored, either, alike, in_filter, from_filter, Asc, lower, asc_more, filter_asc, sorted_asc, ext}

-- ---- the monitors of one process

abbrev base : ℕ → ℕ → ℕ
base w at = (w * 4294967296 + at) * 4294967296

abbrev keys_in : ℕ → ℕ → List Monitor → List ℕ
keys_in w at ms = map (λ m. base w at + m.reference) (filter (monitors_process w) ms)

abbrev IsNamed : ℕ → ℕ → List Monitor → Type 0
IsNamed w n ms = names_number w (option_map (λ m. m.pid) (monitor_of n ms)) ≡ true

-- a key is among those of the monitors, with the first one or without it
abbrev HasIf : ℕ → ℕ → ℕ → Monitor → List Monitor → Bool → Type 0
HasIf w at n m ms b = has_key (map (λ m. base w at + m.reference) (cond b (m ∷ filter (monitors_process w) ms) (filter (monitors_process w) ms))) (base w at + n) ≡ true

named_keyed : (w at n : ℕ) (ms : List Monitor) → IsNamed w n ms → has_key (keys_in w at ms) (base w at + n) ≡ true
named_keyed w at n [] h = cc
named_keyed w at n (m ∷ ms) h = by (λ e. named_keyed w at n ms e) (m.reference == n) refl h
  where
    by : (IsNamed w n ms → has_key (keys_in w at ms) (base w at + n) ≡ true) → (b : Bool) → (m.reference == n) ≡ b
        → names_number w (option_map (λ m. m.pid) (cond b (Some m) (monitor_of n ms))) ≡ true → HasIf w at n m ms (monitors_process w m)
    by rest true is h =
        let here : (base w at + n == base w at + m.reference) ≡ true = subst (λ k. (base w at + k == base w at + m.reference) ≡ true) (eqb-true m.reference n is) (itself (base w at + m.reference)) in
        subst (HasIf w at n m ms) (sym h) (or_left (base w at + n == base w at + m.reference) (has_key (keys_in w at ms) (base w at + n)) here)
    by rest false is h =
        elim (monitors_process w m) as (λ b. HasIf w at n m ms b) [ true ↦ or_right (base w at + n == base w at + m.reference) (has_key (keys_in w at ms) (base w at + n)) (rest h) | false ↦ rest h ]

abbrev Monitoring : ℕ → ℕ → ℕ → List Monitor → Type 0
Monitoring w at k ms = (n : ℕ) × ((k ≡ base w at + n) × (is_monitored_by w n ms ≡ true))

keyed_monitored : (w at k : ℕ) (ms : List Monitor) → has_key (keys_in w at ms) k ≡ true → Monitoring w at k ms
keyed_monitored w at k [] h = cc
keyed_monitored w at k (m ∷ ms) h = by (λ e. keyed_monitored w at k ms e) (monitors_process w m) refl h
  where
    later : Monitoring w at k ms → Monitoring w at k (m ∷ ms)
    later r = (r.0, (r.1.0, or_right ((m.reference == r.0) && monitors_process w m) (is_monitored_by w r.0 ms) r.1.1))

    by : (has_key (keys_in w at ms) k ≡ true → Monitoring w at k ms) → (b : Bool) → monitors_process w m ≡ b
        → has_key (map (λ m. base w at + m.reference) (cond b (m ∷ filter (monitors_process w) ms) (filter (monitors_process w) ms))) k ≡ true → Monitoring w at k (m ∷ ms)
    by rest false is h = later (rest h)
    by rest true is h =
        either (k == base w at + m.reference) (has_key (keys_in w at ms) k) h
        (λ e. (m.reference, (eqb-true k (base w at + m.reference) e, or_left ((m.reference == m.reference) && monitors_process w m) (is_monitored_by w m.reference ms) (and_from (m.reference == m.reference) (monitors_process w m) (itself m.reference) is))))
        (λ e. later (rest e))

-- references that rise are apart
risen_named : (w n above count : ℕ) (ms : List Monitor) → Rise above count ms → is_monitored_by w n ms ≡ true → IsNamed w n ms × ((above < n) × (n ≤ count))
risen_named w n above count [] r h = cc
risen_named w n above count (m ∷ ms) r h = by (λ e. risen_named w n m.reference count ms r.1.1 e) (m.reference == n) refl h
  where
    by : (is_monitored_by w n ms ≡ true → IsNamed w n ms × ((m.reference < n) × (n ≤ count))) → (b : Bool) → (m.reference == n) ≡ b → ((b && monitors_process w m) || is_monitored_by w n ms) ≡ true
        → (names_number w (option_map (λ m. m.pid) (cond b (Some m) (monitor_of n ms))) ≡ true) × ((above < n) × (n ≤ count))
    by rest false is h = let a = rest h in (a.0, (omega (arith, r.0, a.1.0), a.1.1))
    by rest true is h =
        let one : m.reference ≡ n = eqb-true m.reference n is in
        either (monitors_process w m) (is_monitored_by w n ms) h
        (λ e. (e, (omega (arith, r.0, one), omega (arith, r.1.0, one))))
        (λ e. let a = rest e in absurd (omega (arith, a.1.0, one)))

-- ---- the keys of all

abbrev keys_of_one : ℕ → ℕ → Process → List ℕ
keys_of_one w at q = cond (q.pid == w) [] (keys_in w at q.monitors)

abbrev keys_at : ℕ → ℕ → List Process → List ℕ
keys_at w at [] = []
keys_at w at (q ∷ qs) = keys_of_one w at q ++ keys_at w (at + 1) qs

abbrev AreListed : List ℕ → ℕ → List Process → Type 0
AreListed keys at [] = Unit {0}
AreListed keys at (q ∷ qs) = AreKeyed keys at q.monitors × AreListed keys (at + 1) qs

listed : (keys : List ℕ) (ps : List Process) (at : ℕ) → ((i : ℕ) (p : Process) → slice_get ps i ≡ Some p → AreKeyed keys (i + at) p.monitors) → AreListed keys at ps
listed keys [] at h = tt
listed keys (p ∷ ps) at h =
    let here : 0 + at ≡ at = omega arith in
    (subst (λ k. AreKeyed keys k p.monitors) here (h 0 p refl), listed keys ps (at + 1) (λ i q e. let next : suc i + at ≡ i + (at + 1) = omega arith in subst (λ k. AreKeyed keys k q.monitors) next (h (suc i) q e)))

down_at : (reason : TermValue) (w at n : ℕ) → at < 4294967296 → n < 4294967296 → down_of reason (base w at + n) ≡ record { to = at; signal = Down n reason }
down_at reason w at n h k =
    ap (λ r. record { to = r; signal = Down (reference_in (base w at + n)) reason }) (receiver_is w at n h k) ∙ ap (λ r. record { to = at; signal = Down r reason }) (reference_is w at n k)

sent_one : (reason : TermValue) (w at above count : ℕ) (keys : List ℕ) (ms : List Monitor) → count < 4294967296 → Rise above count ms → AreKeyed keys at ms
    → map (down_of reason) (keys_in w at ms) ≡ map (λ signal. record { to = at; signal = signal }) (downs w reason ms)
sent_one reason w at above count keys [] few r h = refl
sent_one reason w at above count keys (m ∷ ms) few r h =
    by (sent_one reason w at m.reference count keys ms few r.1.1 (λ v n e. h v n (or_right ((m.reference == n) && monitors_process v m) (is_monitored_by v n ms) e))) (monitors_process w m) refl
  where
    by : map (down_of reason) (keys_in w at ms) ≡ map (λ signal. record { to = at; signal = signal }) (downs w reason ms) → (b : Bool) → monitors_process w m ≡ b
        → map (down_of reason) (map (λ m. base w at + m.reference) (cond b (m ∷ filter (monitors_process w) ms) (filter (monitors_process w) ms)))
        ≡ map (λ signal. record { to = at; signal = signal }) (map (λ m. Down m.reference reason) (cond b (m ∷ filter (monitors_process w) ms) (filter (monitors_process w) ms)))
    by rest false is = rest
    by rest true is =
        let keyed = h w m.reference (or_left ((m.reference == m.reference) && monitors_process w m) (is_monitored_by w m.reference ms) (and_from (m.reference == m.reference) (monitors_process w m) (itself m.reference) is)) in
        let fits : m.reference < 4294967296 = omega (arith, r.1.0, few) in
        ap (λ s. s ∷ map (down_of reason) (keys_in w at ms)) (down_at reason w at m.reference keyed.1.0 fits) ∙ ap (λ l. record { to = at; signal = Down m.reference reason } ∷ l) rest

sent_each : (reason : TermValue) (w at count : ℕ) (keys : List ℕ) (ps : List Process) → count < 4294967296 → AreRising count ps → AreListed keys at ps
    → map (down_of reason) (keys_at w at ps) ≡ each_sent at (λ q. cond (q.pid == w) [] (downs w reason q.monitors)) ps
sent_each reason w at count keys [] few r h = refl
sent_each reason w at count keys (q ∷ qs) few r h =
    map-append (down_of reason) (keys_of_one w at q) (keys_at w (at + 1) qs)
    ∙ (ap (λ l. l ++ map (down_of reason) (keys_at w (at + 1) qs)) (by (q.pid == w) (sent_one reason w at 0 count keys q.monitors few r.0 h.0))
    ∙ ap (λ l. map (λ signal. record { to = at; signal = signal }) (cond {A = List Signal} (q.pid == w) [] (downs w reason q.monitors)) ++ l) (sent_each reason w (at + 1) count keys qs few r.1 h.1))
  where
    by : (b : Bool) → map (down_of reason) (keys_in w at q.monitors) ≡ map (λ signal. record { to = at; signal = signal }) (downs w reason q.monitors)
        → map (down_of reason) (cond b [] (keys_in w at q.monitors)) ≡ map (λ signal. record { to = at; signal = signal }) (cond {A = List Signal} b [] (downs w reason q.monitors))
    by true e = refl
    by false e = e

-- ---- they rise

asc_one : (w at above count : ℕ) (ms : List Monitor) → above < 4294967296 → count < 4294967296 → Rise above count ms → Asc ((base w at + above) + 1) (base w at + 4294967296) (keys_in w at ms)
asc_one w at above count [] less few r = omega (arith, less)
asc_one w at above count (m ∷ ms) less few r =
    let fits : m.reference < 4294967296 = omega (arith, r.1.0, few) in
    let le : (base w at + above) + 1 ≤ base w at + m.reference = omega (arith, r.0) in
    by le (asc_one w at m.reference count ms fits few r.1.1)
  where
    by : (base w at + above) + 1 ≤ base w at + m.reference → Asc ((base w at + m.reference) + 1) (base w at + 4294967296) (keys_in w at ms)
        → Asc ((base w at + above) + 1) (base w at + 4294967296) (map (λ m. base w at + m.reference) (cond (monitors_process w m) (m ∷ filter (monitors_process w) ms) (filter (monitors_process w) ms)))
    by le rest =
        let more : (base w at + above) + 1 ≤ (base w at + m.reference) + 1 = omega (arith, le) in
        elim (monitors_process w m) as (λ b. Asc ((base w at + above) + 1) (base w at + 4294967296) (map (λ m. base w at + m.reference) (cond b (m ∷ filter (monitors_process w) ms) (filter (monitors_process w) ms)))) [
          | true ↦ (le, rest)
          | false ↦ lower ((base w at + m.reference) + 1) ((base w at + above) + 1) (base w at + 4294967296) (keys_in w at ms) more rest
        ]

asc_each : (w at count : ℕ) (ps : List Process) → count < 4294967296 → AreRising count ps → Asc (base w at) (base w (at + length ps)) (keys_at w at ps)
asc_each w at count [] few r = omega arith
asc_each w at count (q ∷ qs) few r =
    let next : (at + 1) + length qs ≡ at + suc (length qs) = omega arith in
    asc_more (base w at) (base w (at + 1)) (base w (at + suc (length qs))) (keys_of_one w at q) (keys_at w (at + 1) qs)
    (one (asc_one w at 0 count q.monitors (omega arith) few r.0))
    (subst (λ k. Asc (base w (at + 1)) (base w k) (keys_at w (at + 1) qs)) next (asc_each w (at + 1) count qs few r.1))
  where
    one : Asc ((base w at + 0) + 1) (base w at + 4294967296) (keys_in w at q.monitors) → Asc (base w at) (base w (at + 1)) (keys_of_one w at q)
    one h =
        let up : base w at + 4294967296 ≡ base w (at + 1) = omega arith in
        let le : base w at ≤ base w (at + 1) = omega arith in
        let low : base w at ≤ (base w at + 0) + 1 = omega arith in
        elim (q.pid == w) as (λ b. Asc (base w at) (base w (at + 1)) (cond b [] (keys_in w at q.monitors))) [
          | true ↦ le
          | false ↦ subst (λ k. Asc (base w at) k (keys_in w at q.monitors)) up (lower ((base w at + 0) + 1) (base w at) (base w at + 4294967296) (keys_in w at q.monitors) low h)
        ]

-- ---- one of them

abbrev Stands : ℕ → ℕ → ℕ → List Process → Type 0
Stands w at k ps = (i : ℕ) × ((q : Process) × ((slice_get ps i ≡ Some q) × (((q.pid == w) ≡ false) × (has_key (keys_in w (i + at) q.monitors) k ≡ true))))

each_found : (w at k : ℕ) (ps : List Process) → has_key (keys_at w at ps) k ≡ true → Stands w at k ps
each_found w at k [] h = cc
each_found w at k (q ∷ qs) h =
    either (has_key (keys_of_one w at q) k) (has_key (keys_at w (at + 1) qs) k) (sym (list_any-append (λ x. k == x) (keys_of_one w at q) (keys_at w (at + 1) qs)) ∙ h)
    (λ e. by (q.pid == w) refl e)
    (λ e. later (each_found w (at + 1) k qs e))
  where
    by : (b : Bool) → (q.pid == w) ≡ b → has_key (cond b [] (keys_in w at q.monitors)) k ≡ true → Stands w at k (q ∷ qs)
    by true is e = cc
    by false is e = let here : at ≡ 0 + at = omega arith in (0, (q, (refl, (is, subst (λ n. has_key (keys_in w n q.monitors) k ≡ true) here e))))

    later : Stands w (at + 1) k qs → Stands w at k (q ∷ qs)
    later r =
        let next : r.0 + (at + 1) ≡ suc r.0 + at = omega arith in
        (suc r.0, (r.1.0, (r.1.1.0, (r.1.1.1.0, subst (λ n. has_key (keys_in w n r.1.0.monitors) k ≡ true) next r.1.1.1.1))))

each_has : (w at k i : ℕ) (q : Process) (ps : List Process) → slice_get ps i ≡ Some q → (q.pid == w) ≡ false → has_key (keys_in w (i + at) q.monitors) k ≡ true → has_key (keys_at w at ps) k ≡ true
each_has w at k i q [] e f h = cc
each_has w at k zero q (p ∷ ps) e f h =
    let one : q ≡ p = sym (same_Some p q e) in
    let here : 0 + at ≡ at = omega arith in
    let has : has_key (cond (q.pid == w) [] (keys_in w at q.monitors)) k ≡ true = subst (λ b. has_key (cond b [] (keys_in w at q.monitors)) k ≡ true) (sym f) (subst (λ n. has_key (keys_in w n q.monitors) k ≡ true) here h) in
    list_any-append (λ x. k == x) (keys_of_one w at p) (keys_at w (at + 1) ps) ∙ or_left (has_key (keys_of_one w at p) k) (has_key (keys_at w (at + 1) ps) k) (subst (λ p. has_key (keys_of_one w at p) k ≡ true) one has)
each_has w at k (suc i) q (p ∷ ps) e f h =
    let next : suc i + at ≡ i + (at + 1) = omega arith in
    list_any-append (λ x. k == x) (keys_of_one w at p) (keys_at w (at + 1) ps)
    ∙ or_right (has_key (keys_of_one w at p) k) (has_key (keys_at w (at + 1) ps) k) (each_has w (at + 1) k i q ps e f (subst (λ n. has_key (keys_in w n q.monitors) k ≡ true) next h))

-- ---- processes that live

placed : (ps : List Process) (n : ℕ) (q : Process) → process_of ps n ≡ Some q → (i : ℕ) × ((n ≡ i + 1) × (slice_get ps i ≡ Some q))
placed ps zero q e = cc
placed ps (suc n) q e =
    let here : suc n - 1 ≡ n = omega arith in
    (n, (omega arith, subst (λ k. slice_get ps k ≡ Some q) here (at_index ps (suc n) q e)))

live_here : (ps : List Process) (i : ℕ) (q : Process) → slice_get ps i ≡ Some q → is_ended q.status ≡ false → live_process ps (i + 1) ≡ Some q
live_here ps i q e f =
    let here : i ≡ (i + 1) - 1 = omega arith in
    let lt : nat_lt 0 (i + 1) ≡ true = grind (arith, nat_tests) in
    let there : process_of ps (i + 1) ≡ Some q = ap (λ b. cond b (slice_get ps ((i + 1) - 1)) None) lt ∙ subst (λ k. slice_get ps k ≡ Some q) here e in
    ap alive there ∙ alive_of q f

unended : (q : Process) (w n : ℕ) → Ends q → is_monitored_by w n q.monitors ≡ true → is_ended q.status ≡ false
unended q w n ends h = by q.status refl
  where
    by : (s : Status) → q.status ≡ s → is_ended s ≡ false
    by Running e = refl
    by Waiting e = refl
    by (Ended r v) e = absurd (true≢false (sym h ∙ ap (λ (p : Process). is_monitored_by w n p.monitors) (ends r v e)))

rise_at : (count : ℕ) (ps : List Process) (i : ℕ) (q : Process) → AreRising count ps → slice_get ps i ≡ Some q → Rise 0 count q.monitors
rise_at count [] i q r e = cc
rise_at count (p ∷ ps) zero q r e = subst (λ (p : Process). Rise 0 count p.monitors) (same_Some p q e) r.0
rise_at count (p ∷ ps) (suc i) q r e = rise_at count ps i q r.1 e

-- ---- the signals that are sent

module _ (keys : List ℕ) (ps : List Process) (count : ℕ) (have : AreMonitorsKeyed keys ps) (o : Orderly ps) (r : AreRising count ps) (few : count < 4294967296) where
  -- a monitor's key is live
  counted : (w n i : ℕ) (q : Process) → slice_get ps i ≡ Some q → is_monitored_by w n q.monitors ≡ true → is_live_key ps w (monitor_key w (i + 1) n) ≡ true
  counted w n i q there h =
      let keyed = have i q there w n h in
      let up = risen_named w n 0 count q.monitors (rise_at count ps i q r there) h in
      let fits : n < 4294967296 = omega (arith, up.1.1, few) in
      let live : live_process ps (i + 1) ≡ Some q = live_here ps i q there (unended q w n (o.0 i q there).1 h) in
      subst (λ m. monitors_under w m (live_process ps (receiver_in (monitor_key w (i + 1) n))) ≡ true) (sym (reference_is w (i + 1) n fits))
      (subst (λ m. monitors_under w n (live_process ps m) ≡ true) (sym (receiver_is w (i + 1) n keyed.1.0 fits))
      (subst (λ p. monitors_under w n p ≡ true) (sym live) up.0))

  -- a sweep that leaves all live keys leaves the keys complete
  pub swept : (new : List ℕ) → ((key : ℕ) → is_live_key ps (monitored_in key) key ≡ true → has_key keys key ≡ true → has_key new key ≡ true) → AreMonitorsKeyed new ps
  swept new leaves = λ i q there w n h.
      let keyed = have i q there w n h in
      let up = risen_named w n 0 count q.monitors (rise_at count ps i q r there) h in
      let fits : n < 4294967296 = omega (arith, up.1.1, few) in
      let is : is_live_key ps (monitored_in (monitor_key w (i + 1) n)) (monitor_key w (i + 1) n) ≡ true = subst (λ v. is_live_key ps v (monitor_key w (i + 1) n) ≡ true) (sym (monitored_is w (i + 1) n keyed.0 keyed.1.0 fits)) (counted w n i q there h) in
      (keyed.0, (keyed.1.0, leaves (monitor_key w (i + 1) n) is keyed.1.1))

  module _ (w : ℕ) where
    abbrev told_keys : List ℕ
    told_keys = filter (is_told ps w) (filter (is_key_of w) keys)

    found : (k : ℕ) → has_key told_keys k ≡ true → has_key (keys_at w 1 ps) k ≡ true
    found k h =
        let a = from_filter (is_told ps w) (filter (is_key_of w) keys) k h in
        let b = from_filter (is_key_of w) keys k a.0 in
        let t = and_parts (not (receiver_in k == w)) (is_live_key ps w k) a.1 in
        by (key_is w k b.1) t.0 (live_process ps (receiver_in k)) refl t.1
      where
        by : k ≡ monitor_key w (receiver_in k) (reference_in k) → not (receiver_in k == w) ≡ true → (p : Option Process) → live_process ps (receiver_in k) ≡ p → monitors_under w (reference_in k) p ≡ true
            → has_key (keys_at w 1 ps) k ≡ true
        by is other None e g = cc
        by is other (Some q) e g =
            let there = placed ps (receiver_in k) q (alive_is (process_of ps (receiver_in k)) q e).0 in
            let i : ℕ = there.0 in
            let own : q.pid ≡ i + 1 = (o.0 i q there.1.1).0 in
            let apart : (q.pid == w) ≡ false = grind (arith, nat_tests) in
            let one : base w (i + 1) + reference_in k ≡ k = ap (λ n. base w n + reference_in k) (sym there.1.0) ∙ sym is in
            each_has w 1 k i q ps there.1.1 apart (subst (λ n. has_key (keys_in w (i + 1) q.monitors) n ≡ true) one (named_keyed w (i + 1) (reference_in k) q.monitors g))

    back : (k : ℕ) → has_key (keys_at w 1 ps) k ≡ true → has_key told_keys k ≡ true
    back k h =
        let f = each_found w 1 k ps h in
        let i : ℕ = f.0 in
        let q : Process = f.1.0 in
        let there = f.1.1.0 in
        let y = keyed_monitored w (i + 1) k q.monitors f.1.1.1.1 in
        let n : ℕ = y.0 in
        let keyed = have i q there w n y.1.1 in
        let up = risen_named w n 0 count q.monitors (rise_at count ps i q r there) y.1.1 in
        let fits : n < 4294967296 = omega (arith, up.1.1, few) in
        let own : q.pid ≡ i + 1 = (o.0 i q there).0 in
        let to : receiver_in (monitor_key w (i + 1) n) ≡ i + 1 = receiver_is w (i + 1) n keyed.1.0 fits in
        let apart : not (receiver_in (monitor_key w (i + 1) n) == w) ≡ true = ap (λ m. not (m == w)) (to ∙ sym own) ∙ ap not f.1.1.1.0 in
        subst (λ k. has_key told_keys k ≡ true) (sym y.1.0)
        (in_filter (is_told ps w) (filter (is_key_of w) keys) (monitor_key w (i + 1) n)
        (in_filter (is_key_of w) keys (monitor_key w (i + 1) n) keyed.1.1 (of_monitored w (i + 1) n keyed.1.0 fits))
        (and_from (not (receiver_in (monitor_key w (i + 1) n) == w)) (is_live_key ps w (monitor_key w (i + 1) n)) apart (counted w n i q there y.1.1)))

    pub notices_are : (reason : TermValue) → IsStrictlySortedBy nat_cmp keys → map (down_of reason) told_keys ≡ notices_of ps w reason
    notices_are reason sorted =
        let asc = sorted_asc keys sorted in
        let kept : Asc 0 asc.0 told_keys = filter_asc (is_told ps w) 0 asc.0 (filter (is_key_of w) keys) (filter_asc (is_key_of w) 0 asc.0 keys asc.1) in
        let low : 0 ≤ base w 1 = omega arith in
        let rising : Asc 0 (base w (1 + length ps)) (keys_at w 1 ps) = lower (base w 1) 0 (base w (1 + length ps)) (keys_at w 1 ps) low (asc_each w 1 count ps few r) in
        ap (map (down_of reason)) (ext 0 asc.0 (base w (1 + length ps)) told_keys (keys_at w 1 ps) kept rising (λ k. alike (has_key told_keys k) (has_key (keys_at w 1 ps) k) (found k) (back k)))
        ∙ sent_each reason w 1 count keys ps few r (listed keys ps 1 have)

-- ---- a process that isn't monitored

named_monitors : (w n : ℕ) (ms : List Monitor) → IsNamed w n ms → list_any (monitors_process w) ms ≡ true
named_monitors w n [] h = cc
named_monitors w n (m ∷ ms) h = by (λ e. named_monitors w n ms e) (m.reference == n) h
  where
    by : (IsNamed w n ms → list_any (monitors_process w) ms ≡ true) → (b : Bool) → names_number w (option_map (λ m. m.pid) (cond b (Some m) (monitor_of n ms))) ≡ true → (monitors_process w m || list_any (monitors_process w) ms) ≡ true
    by rest true e = or_left (monitors_process w m) (list_any (monitors_process w) ms) e
    by rest false e = or_right (monitors_process w m) (list_any (monitors_process w) ms) (rest e)

there_monitored : (w i : ℕ) (q : Process) (ps : List Process) → slice_get ps i ≡ Some q → list_any (monitors_process w) q.monitors ≡ true → is_monitored ps w ≡ true
there_monitored w i q [] e h = cc
there_monitored w zero q (p ∷ ps) e h = or_left (list_any (monitors_process w) p.monitors) (is_monitored ps w) (subst (λ (p : Process). list_any (monitors_process w) p.monitors ≡ true) (sym (same_Some p q e)) h)
there_monitored w (suc i) q (p ∷ ps) e h = or_right (list_any (monitors_process w) p.monitors) (is_monitored ps w) (there_monitored w i q ps e h)

counts_monitored : (ps : List Process) (w k : ℕ) → is_live_key ps w k ≡ true → is_monitored ps w ≡ true
counts_monitored ps w k h = by (live_process ps (receiver_in k)) refl h
  where
    by : (p : Option Process) → live_process ps (receiver_in k) ≡ p → monitors_under w (reference_in k) p ≡ true → is_monitored ps w ≡ true
    by None e g = cc
    by (Some q) e g =
        let there = placed ps (receiver_in k) q (alive_is (process_of ps (receiver_in k)) q e).0 in
        there_monitored w there.0 q ps there.1.1 (named_monitors w (reference_in k) q.monitors g)

pub none_told : (ps : List Process) (w k : ℕ) → is_monitored ps w ≡ false → is_told ps w k ≡ false
none_told ps w k h = by (is_told ps w k) refl
  where
    by : (b : Bool) → is_told ps w k ≡ b → b ≡ false
    by false e = refl
    by true e = absurd (true≢false (sym (counts_monitored ps w k (and_parts (not (receiver_in k == w)) (is_live_key ps w k) e).1) ∙ h))

-- ---- changes that keep the keys complete

pub none_monitored : AreMonitorsKeyed [] []
none_monitored = λ i p e w n h. cc

pub kept_monitored : (old new : List ℕ) (ps : List Process) → ((key : ℕ) → has_key old key ≡ true → has_key new key ≡ true) → AreMonitorsKeyed old ps → AreMonitorsKeyed new ps
kept_monitored old new ps more h = λ i p e w n g. let keyed = h i p e w n g in (keyed.0, (keyed.1.0, more (monitor_key w (i + 1) n) keyed.1.1))

pub fewer_keyed : (keys : List ℕ) (receiver : ℕ) (ms ns : List Monitor) → MonitorNoMore ms ns → AreKeyed keys receiver ms → AreKeyed keys receiver ns
fewer_keyed keys receiver ms ns fewer h = λ w n e. h w n (fewer w n e)

pub no_more : (ms : List Monitor) → MonitorNoMore ms ms
no_more ms = λ w n e. e

pub none_more : (ms : List Monitor) → MonitorNoMore ms []
none_more ms = λ w n e. cc

filter_fewer : (keep : Monitor → Bool) (ms : List Monitor) → MonitorNoMore ms (filter keep ms)
filter_fewer keep [] w n e = e
filter_fewer keep (m ∷ ms) w n e = by (λ f. filter_fewer keep ms w n f) (keep m) e
  where
    by : (is_monitored_by w n (filter keep ms) ≡ true → is_monitored_by w n ms ≡ true) → (b : Bool) → is_monitored_by w n (cond b (m ∷ filter keep ms) (filter keep ms)) ≡ true
        → (((m.reference == n) && monitors_process w m) || is_monitored_by w n ms) ≡ true
    by rest false f = or_right ((m.reference == n) && monitors_process w m) (is_monitored_by w n ms) (rest f)
    by rest true f =
        either ((m.reference == n) && monitors_process w m) (is_monitored_by w n (filter keep ms)) f
        (λ g. or_left ((m.reference == n) && monitors_process w m) (is_monitored_by w n ms) g)
        (λ g. or_right ((m.reference == n) && monitors_process w m) (is_monitored_by w n ms) (rest g))

pub part_fewer : (ms ns : List Monitor) → ArePart ms ns → MonitorNoMore ms ns
part_fewer ms ns part = subst (MonitorNoMore ms) (sym part.1) (filter_fewer part.0 ms)

-- a monitor is added, and is among the keys if it monitors a process of this node
pub more_keyed : (keys : List ℕ) (receiver reference : ℕ) (pid : TermValue) (ms : List Monitor) → AreKeyed keys receiver ms
    → ((watched : ℕ) → own_number pid ≡ Some watched → IsKeyed keys watched receiver reference) → AreKeyed keys receiver (ms ++ record { reference = reference; pid = pid } ∷ [])
more_keyed keys receiver reference pid ms h new = λ w n e.
    let m : Monitor = record { reference = reference; pid = pid } in
    either (is_monitored_by w n ms) (is_monitored_by w n (m ∷ [])) (sym (list_any-append (λ m. (m.reference == n) && monitors_process w m) ms (m ∷ [])) ∙ e)
    (λ f. h w n f)
    (λ f. either ((reference == n) && monitors_process w m) false f (λ g. let b = and_parts (reference == n) (monitors_process w m) g in one w n (eqb-true reference n b.0) (own_number pid) refl b.1) (λ g. absurd (true≢false (sym g))))
  where
    one : (w n : ℕ) → reference ≡ n → (o : Option ℕ) → own_number pid ≡ o → is_this_number w o ≡ true → IsKeyed keys w receiver n
    one w n same None e g = cc
    one w n is (Some v) e g = subst (λ n. IsKeyed keys w receiver n) is (new w (e ∙ ap Some (eqb-true v w g)))

-- a process is put in the place of another
pub set_monitored : (keys : List ℕ) (ps : List Process) (i : ℕ) (q : Process) → AreMonitorsKeyed keys ps → AreKeyed keys (i + 1) q.monitors → AreMonitorsKeyed keys (slice_set ps i q)
set_monitored keys ps i q h g = λ j p e. got ps i j p e (λ s is. subst (λ (p : Process). AreKeyed keys (j + 1) p.monitors) is (subst (λ k. AreKeyed keys (k + 1) q.monitors) s g)) (λ f. h j p f)
  where
    got : {C : Type 0} (ps : List Process) (i j : ℕ) (r : Process) → slice_get (slice_set ps i q) j ≡ Some r → (i ≡ j → q ≡ r → C) → (slice_get ps j ≡ Some r → C) → C
    got [] i j r e f g = g e
    got (p ∷ ps) zero zero r e f g = f refl (same_Some q r e)
    got (p ∷ ps) zero (suc j) r e f g = g e
    got (p ∷ ps) (suc i) zero r e f g = g e
    got (p ∷ ps) (suc i) (suc j) r e f g = got ps i j r e (λ s. f (ap suc s)) g

-- a process that monitors nothing is added
pub push_monitored : (keys : List ℕ) (ps : List Process) (x : Process) → AreMonitorsKeyed keys ps → x.monitors ≡ [] → AreMonitorsKeyed keys (ps ++ x ∷ [])
push_monitored keys ps x h none = λ j p e. pushed ps j p e (λ is. subst (λ (p : Process). AreKeyed keys (j + 1) p.monitors) is (subst (AreKeyed keys (j + 1)) (sym none) (λ w n f. cc))) (λ f. h j p f)
  where
    pushed : {C : Type 0} (ps : List Process) (j : ℕ) (r : Process) → slice_get (ps ++ x ∷ []) j ≡ Some r → (x ≡ r → C) → (slice_get ps j ≡ Some r → C) → C
    pushed [] zero r e f g = f (same_Some x r e)
    pushed [] (suc j) r e f g = g e
    pushed (p ∷ ps) zero r e f g = g e
    pushed (p ∷ ps) (suc j) r e f g = pushed ps j r e f g

-- ---- keys that are complete where a flag says so

pub none_monitored_if : AreMonitorsKeyedIf true [] []
unfolding AreMonitorsKeyedIf
none_monitored_if = λ e. none_monitored

pub monitored_if : (complete : Bool) (old new : List ℕ) (ps qs : List Process) → (AreMonitorsKeyed old ps → AreMonitorsKeyed new qs) → AreMonitorsKeyedIf complete old ps → AreMonitorsKeyedIf complete new qs
unfolding AreMonitorsKeyedIf
monitored_if complete old new ps qs f h = λ e. f (h e)

pub complete_monitored : (complete : Bool) (keys : List ℕ) (ps : List Process) → complete ≡ true → AreMonitorsKeyedIf complete keys ps → AreMonitorsKeyed keys ps
unfolding AreMonitorsKeyedIf
complete_monitored complete keys ps e h = h e

-- after monitors were added the flag may say so, if it said so before and the monitors are among the keys
pub added_if : (before complete : Bool) (old new : List ℕ) (ps qs : List Process) → (complete ≡ true → (before ≡ true) × (AreMonitorsKeyed old ps → AreMonitorsKeyed new qs)) → AreMonitorsKeyedIf before old ps → AreMonitorsKeyedIf complete new qs
unfolding AreMonitorsKeyedIf
added_if before complete old new ps qs f h = λ e. (f e).1 (h (f e).0)

pub tells_all : (complete : Bool) (keys : List ℕ) (ps now : List Process) → complete ≡ true → AreMonitorsKeyedIf complete keys ps → IsStrictlySortedBy nat_cmp keys → ps ≡ now → TellAll keys now
tells_all complete keys ps now e h sorted view =
    subst (TellAll keys) view (λ pid count reason few lawful. notices_are keys ps count (complete_monitored complete keys ps e h) lawful.0 lawful.1 few pid reason sorted)

pub swept_if : (complete : Bool) (old new : List ℕ) (ps now : List Process) (count : ℕ) → ps ≡ now → AreLawful count now → count < 4294967296
    → ((key : ℕ) → is_live_key ps (monitored_in key) key ≡ true → has_key old key ≡ true → has_key new key ≡ true) → AreMonitorsKeyedIf complete old ps → AreMonitorsKeyedIf complete new ps
swept_if complete old new ps now count view lawful few leaves h =
    let l : AreLawful count ps = subst (AreLawful count) (sym view) lawful in
    monitored_if complete old new ps ps (λ w. swept old ps count w l.0 l.1 few new leaves) h

-- a process is replaced by one that has no monitors but the first one's
pub fewer_monitored : (keys : List ℕ) (ps : List Process) (i : ℕ) (p q : Process) → slice_get ps i ≡ Some p → MonitorNoMore p.monitors q.monitors → AreMonitorsKeyed keys ps → AreMonitorsKeyed keys (slice_set ps i q)
fewer_monitored keys ps i p q there fewer h = set_monitored keys ps i q h (fewer_keyed keys (i + 1) p.monitors q.monitors fewer (h i p there))

-- ---- the monitors of a process are added one after another

pub first_keyed : (keys : List ℕ) (receiver reference : ℕ) (pid : TermValue) (ms : List Monitor) → ((watched : ℕ) → own_number pid ≡ Some watched → IsKeyed keys watched receiver reference) → AreKeyed keys receiver ms
    → AreKeyed keys receiver (record { reference = reference; pid = pid } ∷ ms)
first_keyed keys receiver reference pid ms new h = λ w n e.
    let m : Monitor = record { reference = reference; pid = pid } in
    either ((reference == n) && monitors_process w m) (is_monitored_by w n ms) e (λ g. let b = and_parts (reference == n) (monitors_process w m) g in one w n (eqb-true reference n b.0) (own_number pid) refl b.1) (λ f. h w n f)
  where
    one : (w n : ℕ) → reference ≡ n → (o : Option ℕ) → own_number pid ≡ o → is_this_number w o ≡ true → IsKeyed keys w receiver n
    one w n same None e g = cc
    one w n is (Some v) e g = subst (λ n. IsKeyed keys w receiver n) is (new w (e ∙ ap Some (eqb-true v w g)))

pub more_has : (old new : List ℕ) (watched receiver reference : ℕ) → ((key : ℕ) → has_key old key ≡ true → has_key new key ≡ true) → IsKeyed old watched receiver reference → IsKeyed new watched receiver reference
more_has old new watched receiver reference more k = (k.0, (k.1.0, more (monitor_key watched receiver reference) k.1.1))

-- ---- one key after another

pub found_more : (ps : List Process) (w k : ℕ) (reason : TermValue) (before after total : List Sent) (rest keys : List ℕ) → k ∷ rest ≡ keys
    → after ≡ before ++ cond (is_told ps w k) (down_of reason k ∷ []) [] → before ++ map (down_of reason) (filter (is_told ps w) keys) ≡ total
    → after ++ map (down_of reason) (filter (is_told ps w) rest) ≡ total
found_more ps w k reason before after total rest keys is added sum =
    ap (λ xs. xs ++ map (down_of reason) (filter (is_told ps w) rest)) added
    ∙ (by (is_told ps w k) ∙ (ap (λ ks. before ++ map (down_of reason) (filter (is_told ps w) ks)) is ∙ sum))
  where
    by : (b : Bool) → (before ++ cond b (down_of reason k ∷ []) []) ++ map (down_of reason) (filter (is_told ps w) rest)
        ≡ before ++ map (down_of reason) (cond b (k ∷ filter (is_told ps w) rest) (filter (is_told ps w) rest))
    by true = append_assoc before (down_of reason k ∷ []) (map (down_of reason) (filter (is_told ps w) rest))
    by false = ap (λ xs. xs ++ map (down_of reason) (filter (is_told ps w) rest)) (append-nil before)
