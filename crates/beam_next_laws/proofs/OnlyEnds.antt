-- No other DOWN comes: by what each event sends to a process, its own rows, those of others, arrivals and changes of code.
use Rattle.std.proofs.Common.{◌≡◌, ◌≢◌, ℕ, zero, suc, ◌+◌, ◌-◌, ◌==◌, eq-eqb, ◌&&◌, ◌||◌, ◌<◌, ◌≤◌, Bool, true, false, true≢false, cond, List, [], ◌∷◌, ◌++◌, append-nil, map, filter, flat_map, slice_get, refl, sym, ap, subst, ◌∙◌, arith, Option, Some, None, option_map, is_some, is_ok, codes, nat_lt, ◌⊎◌, inl, inr, Ok, Err}
use Rattle.std.proofs.lemmas.Bool.Decides.{nat_tests}
use Rattle.std.proofs.lemmas.List.{append_cancel_left}
use Rattle.std.proofs.lemmas.List.Elements.{filter-append}
use Rattle.std.specs.List.{list_any}
use Rattle.beam_term.specs.Prelude.{TermValue, atom_term, nil_term}
use Rattle.beam_model.specs.Prelude.{Listing}
use Rattle.beam_model.specs.declared.native.NodeNative.{NodeNative}
use Rattle.beam_machine.specs.declared.callee.After.{After}
use Rattle.beam_machine.specs.declared.event.Event.{Event}
use Rattle.beam_machine.specs.declared.event.Event.TheVariants as event
use Rattle.beam_machine.specs.declared.event.Refused.TheVariants.{NotReady}
use Rattle.beam_machine.specs.declared.event.Reply.{Reply}
use Rattle.beam_machine.specs.declared.event.Reply.TheVariants.{Done}
use Rattle.beam_machine.specs.declared.process.Monitor.{Monitor as MonitorValue}
use Rattle.beam_machine.specs.declared.process.Signal.{Signal}
use Rattle.beam_machine.specs.declared.process.Signal.TheVariants.{Message, Down}
use Rattle.beam_machine.specs.declared.process.Status.{Status}
use Rattle.beam_machine.specs.declared.process.Status.TheVariants.{Running, Waiting, Ended}
use Rattle.beam_machine.specs.Prelude.{Process, is_ended, is_running, ended, killed, own_number, Outcome, makes, sends, asks, sleeps, answers, arguments_of, outcome, receiver_of, State, empty, process_of, live_process, with_process, downs, monitors_process, Answered, answer_of, is_alive, alive, ends_or_hears, with_signals, Answer, lingers_in_old, lingers_in_olds, old_of, pids_of, killing, raised, row, row_and, running, delivered, is_nothing, next_deliver, next, run, Sent}
use Rattle.beam_machine.specs.Next.{steps, refused, replied, made_process, Next}
use Rattle.beam_laws.specs.Prelude.{AreRising, Orderly, Rise, with_name_and_transit, downs_of_end, each_sent, end_sends, signal_to, signal_if, noproc_sends, native_sends, asker_sends, row_sends, row_and_send, steps_send, deliver_sends, event_sends, event_brings, signals_to, on_its_way}
use Rattle.beam_laws.proofs.Accounts.{in_order}
use Rattle.beam_laws.proofs.Arriving.{Account, Asked, answer_asked, own_steps, no_end_at}
use Rattle.beam_laws.proofs.Ending.{alive_is, at_index, running_is}
use Rattle.beam_laws.proofs.Follows.{Ends, Comes, outcome_comes, answered}
use Rattle.beam_laws.proofs.Hearing.{hearing_here, lingers_not, in_olds_not, process_map}
use Rattle.beam_laws.proofs.Numbered.{put_here, alive_of}
use Rattle.beam_laws.proofs.Orderly.{none_orderly, run_orderly}
use Rattle.beam_laws.proofs.Posting.{said, each_sent_to, signals_append}
use Rattle.beam_laws.proofs.Private.{having_status}
use Rattle.beam_laws.proofs.Purging.{load_ends}
use Rattle.beam_laws.proofs.Upgraded.{upgrade_parts}
use Rattle.beam_laws.proofs.Rising.{next_rises, run_rises}
use Rattle.beam_laws.proofs.Sending.{idle_sends, steps_state}
use Rattle.beam_next_laws.specs.Heard.{EndsBetween, is_down_of}
use Rattle.beam_next_laws.proofs.Downs.{plain_signals, picked, several, none_of}
use Rattle.beam_next_laws.proofs.Ends.{same_process, all_at}
use Rattle.beam_next_laws.proofs.PlainRows.{Plain, outcome_plain}
use Rattle.beam_next_laws.proofs.Telling.{Tells, no_down, plain_signal, plain_if, end_tells, rows_tell}
use Rattle.beam_laws.proofs.NodeAnswers.{Answers, posts_one, monitors_one, answer_is}

-- ---- the DOWNs that a process sends itself are of references that it didn't have

beyond_all : (ms : List MonitorValue) (above count n : ℕ) (t : MonitorValue → Bool) → Rise above count ms → count < n → list_any (λ m. m.reference == n && t m) ms ≡ false
beyond_all [] above count n t h l = refl
beyond_all (m ∷ ms) above count n t h l =
    let le : m.reference ≤ count = h.1.0 in
    let other : (m.reference == n) ≡ false = grind (arith, nat_tests) in
    ap (λ b. (b && t m) || list_any (λ m. m.reference == n && t m) ms) other ∙ beyond_all ms m.reference count n t h.1.1 l

module _ (pid n count : ℕ) (ms : List MonitorValue) (rise : Rise 0 count ms) where
  abbrev passes : Signal → Bool
  passes = is_down_of pid ms

  -- none of these signals is a DOWN of that process
  abbrev Silent : List Sent → Type 0
  Silent xs = filter passes (signals_to n xs) ≡ []

  both : (xs ys : List Sent) → Silent xs → Silent ys → Silent (xs ++ ys)
  both xs ys h k =
      ap (filter passes) (signals_append n xs ys)
      ∙ (filter-append passes (signals_to n xs) (signals_to n ys) ∙ (ap (λ zs. zs ++ filter passes (signals_to n ys)) h ∙ k))

  fresh : (ps : List Process) (to k : ℕ) (reason : TermValue) → count < k → Silent (signal_to ps to (Down k reason))
  fresh ps to k reason l = go (is_some (live_process ps to)) (to == n)
    where
      fails : passes (Down k reason) ≡ false
      fails = beyond_all ms 0 count k (monitors_process pid) rise l

      one : (c : Bool) → filter passes (cond c (Down k reason ∷ []) []) ≡ []
      one true = ap (λ b. cond b (Down k reason ∷ []) []) fails
      one false = refl

      go : (b c : Bool) → filter passes (signals_to n (cond b (record { to = to; signal = Down k reason } ∷ []) [])) ≡ []
      go true c = one (to == n)
      go false c = refl

  noproc : (ps : List Process) (caller k : ℕ) (watched : TermValue) → count < k → Silent (noproc_sends ps caller watched (Some k))
  noproc ps caller k watched l = go (is_alive ps (own_number watched))
    where
      go : (b : Bool) → Silent (cond b [] (signal_to ps caller (Down k (atom_term (codes "noproc")))))
      go true = refl
      go false = fresh ps caller k (atom_term (codes "noproc")) l

  answered_silent : (references : ℕ) (ps : List Process) (caller : ℕ) (f : NodeNative) (xs : List Sent) (a : Answered) → count ≤ references → Answers references ps caller f xs a
      → Silent xs
  answered_silent references ps caller f _ _ le (posts_one to signal value plain) =
      plain_signals pid ms (signals_to n (signal_to ps to signal)) (plain_signal n ps to signal (no_down signal plain))
  answered_silent references ps caller f _ _ le (monitors_one watched value is) = noproc ps caller (references + 1) watched (omega (arith, le))
  answered_silent references ps caller f _ _ le _ = refl

  native : (references : ℕ) (ps : List Process) (caller : ℕ) (f : NodeNative) (ts : List TermValue) → count ≤ references → Silent (native_sends references ps caller f ts)
  native references ps caller f ts le = answered_silent references ps caller f _ _ le (answer_is references ps caller f ts)

  -- ---- a process's own rows

  -- an end leaves the process no monitors
  no_own : (status : Status) (y : Process) → y.status ≡ status → Ends y → downs_of_end n status y ≡ []
  no_own Running y e h = refl
  no_own Waiting y e h = refl
  no_own (Ended reason value) y e h = ap (λ z. downs n reason z.monitors) (h reason value e)

  own_end : (ps : List Process) (p y : Process) → process_of ps n ≡ Some p → Ends y → Silent (end_sends ps n y)
  own_end ps p y at h =
      ap (filter passes)
      (each_sent_to (downs_of_end n y.status) (with_process ps n y) n
      ∙ (ap (said (downs_of_end n y.status)) (put_here ps n p y at) ∙ no_own y.status y refl h))

  own_asker : (a : Answered) (after : After) (xs : List Signal) (y : Process) (o : Option Process) → process_of a.processes n ≡ o → Asked n xs y o → is_ended y.status ≡ false
      → Silent (asker_sends n after a o)
  own_asker a after xs y None at g lives = refl
  own_asker a after xs y (Some z) at g lives =
      let same : Some z ≡ Some (record (with_name_and_transit g.0 (y.transit ++ xs) y) { monitors = g.1 }) = g.2 in
      let is : z ≡ record (with_name_and_transit g.0 (y.transit ++ xs) y) { monitors = g.1 } = cc in
      let on : is_ended z.status ≡ false = ap (λ z. is_ended z.status) is ∙ (ap is_ended (having_status g.0 (y.transit ++ xs) y) ∙ lives) in
      own_end a.processes z (answers z after (raised a.value)) at (answered z.pid z.name z after (raised a.value) (refl, (refl, on))).1.1

  own_row : (s : State) (p : Process) (o : Outcome) → count ≤ s.references → process_of s.processes n ≡ Some p → Plain o → Comes p.pid p.name o → Silent (row_sends s n o)
  own_row s p (makes y) le at plain comes = own_end s.processes p y at comes.1.1
  own_row s p (sends y to signal) le at plain comes = plain_signals pid ms (signals_to n (signal_to (with_process s.processes n y) to signal)) (plain_signal n (with_process s.processes n y) to signal plain)
  own_row s p (asks y f arity after) le at plain comes =
      let ps : List Process = with_process s.processes n y in
      let ts : List TermValue = arguments_of y arity in
      let a : Answered = answer_of s.references ps n f ts in
      both (native_sends s.references ps n f ts) (asker_sends n after a (process_of a.processes n)) (native s.references ps n f ts le)
      (own_asker a after (signals_to n (native_sends s.references ps n f ts)) y (process_of a.processes n) refl
      (answer_asked n s.references ps f ts y (put_here s.processes n p y at) comes.1.1) comes.1.1)
  own_row s p (sleeps y k next) le at plain comes = refl

  -- no row takes references back
  more_references : (s : State) (p : Process) → running (process_of s.processes n) ≡ Some p → s.references ≤ (row s n p).references
  more_references s p r =
      let ups : s.references ≤ (next s (event.Steps n 1)).state.references = (next_rises s (event.Steps n 1)).0 in
      subst (λ (t : State). s.references ≤ t.references) (steps_state s n 1 ∙ ap (λ o. (row_and (λ t. steps t n 0) s n o).state) r) ups

  own_rows : (k : ℕ) (s : State) → count ≤ s.references → Silent (steps_send s n k)
  own_rows zero s le = refl
  own_rows (suc k) s le = go (running (process_of s.processes n)) refl (λ t le. own_rows k t le)
    where
      go : (o : Option Process) → running (process_of s.processes n) ≡ o → ((t : State) → count ≤ t.references → Silent (steps_send t n k)) → Silent (row_and_send (λ t. steps_send t n k) s n o)
      go None r more = refl
      go (Some p) r more =
          let is = running_is (process_of s.processes n) p r in
          let up : s.references ≤ (row s n p).references = more_references s p r in
          both (row_sends s n (outcome s.code p)) (steps_send (row s n p) n k)
          (own_row s p (outcome s.code p) le is.0 (outcome_plain s.code p) (outcome_comes p.pid p.name s.code p (refl, (refl, is.1)))) (more (row s n p) (omega (arith, le, up)))

  -- ---- rows of another process, and arrivals at it

  -- of a process that doesn't end no DOWN comes; that of another isn't of that process
  heard_other : (at : ℕ) (status : Status) (q : Process) (came : List Signal) → q.monitors ≡ ms → Tells at status q came → (is_ended status ≡ true → at ≢ pid) → filter passes came ≡ []
  heard_other at status q came same (first, plain, is) ne =
      ap (filter passes) is
      ∙ (filter-append passes first (downs_of_end at status q)
      ∙ (ap (λ xs. xs ++ filter passes (downs_of_end at status q)) (plain_signals pid ms first plain) ∙ tail status ne))
    where
      tail : (status : Status) → (is_ended status ≡ true → at ≢ pid) → filter passes (downs_of_end at status q) ≡ []
      tail Running ne = refl
      tail Waiting ne = refl
      tail (Ended reason value) ne = ap (λ ms'. filter passes (downs at reason ms')) same ∙ none_of at pid reason count [] ms (ne refl) rise

  -- ---- changes of code

  no_pick : (signals : List Signal) (test : Process → Bool) (ps : List Process) → ((j : ℕ) (p : Process) → slice_get ps j ≡ Some p → test p ≡ true → (p.pid == pid) ≡ false)
      → picked pid signals (map (λ p. p.pid) (filter test ps)) ≡ []
  no_pick signals test [] h = refl
  no_pick signals test (x ∷ ps) h = go (test x) refl (no_pick signals test ps (λ j p e. h (suc j) p e))
    where
      go : (b : Bool) → test x ≡ b → picked pid signals (map (λ p. p.pid) (filter test ps)) ≡ [] → picked pid signals (map (λ p. p.pid) (cond b (x ∷ filter test ps) (filter test ps))) ≡ []
      go true i rest = ap (λ b. cond b signals [] ++ picked pid signals (map (λ p. p.pid) (filter test ps))) (h 0 x refl i) ∙ rest
      go false i rest = rest

  changed : (test : Process → Bool) (ps : List Process) (q : Process) → process_of ps n ≡ Some q → q.monitors ≡ ms
      → ((j : ℕ) (p : Process) → slice_get ps j ≡ Some p → test p ≡ true → (p.pid == pid) ≡ false)
      → Silent (each_sent 1 (λ q. flat_map (λ at. downs at killed q.monitors) (pids_of test ps)) ps)
  changed test ps q at same h =
      ap (filter passes)
      (each_sent_to (λ q. flat_map (λ at. downs at killed q.monitors) (pids_of test ps)) ps n
      ∙ (ap (said (λ q. flat_map (λ at. downs at killed q.monitors) (pids_of test ps))) at ∙ ap (λ ms'. flat_map (λ at. downs at killed ms') (pids_of test ps)) same))
      ∙ (several pid killed count ms rise (pids_of test ps) ∙ no_pick (downs pid killed ms) test ps h)

-- ---- one event

ended_parts : (status : Status) → is_ended status ≡ true → (reason : TermValue) × (value : TermValue) × (status ≡ Ended reason value)
ended_parts Running e = absurd (true≢false (sym e))
ended_parts Waiting e = absurd (true≢false (sym e))
ended_parts (Ended reason value) e = (reason, value, refl)

gone : (o : Option Process) → o ≡ None → (p : Process) → o ≡ Some p → ⊥
gone o e p f =
    let clash : None ≡ Some p = sym e ∙ f in
    cc

no_transit : (ts : List Signal) → is_nothing ts ≡ true → ts ≡ []
no_transit [] e = refl
no_transit (t ∷ ts) e = absurd (true≢false (sym e))

module _ (s : State) (pid n : ℕ) (q r : Process) (orderly : Orderly s.processes) (rise : Rise 0 s.references q.monitors) (live_q : live_process s.processes n ≡ Some q) where
  abbrev None_of : List Sent → Type 0
  None_of xs = filter (is_down_of pid q.monitors) (signals_to n xs) ≡ []

  abbrev Spared : State → Type 0
  Spared t = (reason : TermValue) → EndsBetween pid reason s t → ⊥

  at_n : process_of s.processes n ≡ Some q
  at_n = (alive_is (process_of s.processes n) q live_q).0

  nothing_sent : (xs : List Sent) → xs ≡ [] → None_of xs
  nothing_sent xs e = ap (λ xs. filter (is_down_of pid q.monitors) (signals_to n xs)) e

  -- where a process has ended, it isn't that one
  not_that : (t : State) (at : ℕ) (p x : Process) → Spared t → process_of s.processes at ≡ Some p → is_ended p.status ≡ false → process_of t.processes at ≡ Some x → is_ended x.status ≡ true → at ≢ pid
  not_that t at p x spared there lives after over same =
      let parts = ended_parts x.status over in
      let live : live_process s.processes at ≡ Some p = ap alive there ∙ alive_of p lives in
      spared parts.0 (subst (λ at. EndsBetween at parts.0 s t) same (p, x, parts.1, live, after, parts.2))

  by_rows : (at k : ℕ) → n ≢ at → Spared (next s (event.Steps at k)).state → None_of (steps_send s at k)
  by_rows at k ne spared = before (process_of s.processes at) refl
    where
      t : State
      t = (next s (event.Steps at k)).state

      after : (p : Process) → process_of s.processes at ≡ Some p → is_ended p.status ≡ false → (o : Option Process) → process_of (steps s at k).state.processes at ≡ o → None_of (steps_send s at k)
      after p there lives None e =
          let account : Account [] (signals_to at (steps_send s at k)) (process_of s.processes at) None = subst (Account [] (signals_to at (steps_send s at k)) (process_of s.processes at)) e (own_steps at k s) in
          absurd (gone (process_of s.processes at) account.0 p there)
      after p there lives (Some x) e =
          heard_other pid n s.references q.monitors rise at x.status q (signals_to n (steps_send s at k)) refl (rows_tell at n ne k s p q x there lives at_n e)
          (λ over. not_that t at p x spared there lives (ap (λ u. process_of u.processes at) (steps_state s at k) ∙ e) over)

      stopped : running (process_of s.processes at) ≡ None → None_of (steps_send s at k)
      stopped e = nothing_sent (steps_send s at k) (idle_sends k s at e)

      before : (o : Option Process) → process_of s.processes at ≡ o → None_of (steps_send s at k)
      before None e = stopped (ap running e)
      before (Some p) e = over (is_ended p.status) refl
        where
          not_running : (status : Status) → is_ended status ≡ true → is_running status ≡ false
          not_running Running e = absurd (true≢false (sym e))
          not_running Waiting e = refl
          not_running (Ended reason value) e = refl

          over : (b : Bool) → is_ended p.status ≡ b → None_of (steps_send s at k)
          over true i = stopped (ap running e ∙ ap (λ b. cond b (Some p) None) (not_running p.status i))
          over false i = after p e i (process_of (steps s at k).state.processes at) refl

  steps_silent : (at k : ℕ) → Spared (next s (event.Steps at k)).state → None_of (steps_send s at k)
  steps_silent at k spared = go (at == n) refl
    where
      own : None_of (steps_send s n k)
      own =
          let le : s.references ≤ s.references = omega arith in
          own_rows pid n s.references q.monitors rise k s le

      go : (b : Bool) → (at == n) ≡ b → None_of (steps_send s at k)
      go true e =
          let same : n ≡ at = grind (arith, nat_tests) in
          subst (λ at. None_of (steps_send s at k)) same own
      go false e = by_rows at k (λ i. true≢false (sym (eq-eqb at n (sym i)) ∙ e)) spared

  -- ---- arrivals

  arrives_silent : (at : ℕ) (p : Process) (b : Bool) → live_process s.processes at ≡ Some p → is_nothing p.transit ≡ b
      → live_process (cond {A = Next} b (refused s NotReady) (replied (made_process s at (delivered (record p { transit = [] }) p.transit)) Done)).state.processes n ≡ Some r
      → Spared (cond {A = Next} b (refused s NotReady) (replied (made_process s at (delivered (record p { transit = [] }) p.transit)) Done)).state
      → None_of (end_sends s.processes at (delivered (record p { transit = [] }) p.transit))
  arrives_silent at p true live e live_r spared =
      let a = alive_is (process_of s.processes at) p live in
      let y : Process = delivered (record p { transit = [] }) p.transit in
      let lives : is_ended y.status ≡ false = ap (λ ts. is_ended (delivered (record p { transit = [] }) ts).status) (no_transit p.transit e) ∙ a.1 in
      ap (filter (is_down_of pid q.monitors)) (no_end_at n at s.processes y lives)
  arrives_silent at p false live e live_r spared = go (at == n) refl
    where
      y : Process
      y = delivered (record p { transit = [] }) p.transit

      a : (process_of s.processes at ≡ Some p) × (is_ended p.status ≡ false)
      a = alive_is (process_of s.processes at) p live

      there : process_of (made_process s at y).processes at ≡ Some y
      there = hearing_here at y.status (with_process s.processes at y) y (put_here s.processes at p y a.0) refl

      go : (b : Bool) → (at == n) ≡ b → None_of (end_sends s.processes at y)
      go true i =
          let same : n ≡ at = grind (arith, nat_tests) in
          let c = alive_is (process_of (made_process s at y).processes n) r live_r in
          let is : r ≡ y = same_process (process_of (made_process s at y).processes at) r y there (ap (process_of (made_process s at y).processes) (sym same) ∙ c.0) in
          ap (filter (is_down_of pid q.monitors)) (no_end_at n at s.processes y (ap (λ z. is_ended z.status) (sym is) ∙ c.1))
      go false i =
          let ne : n ≢ at = λ j. true≢false (sym (eq-eqb at n (sym j)) ∙ i) in
          heard_other pid n s.references q.monitors rise at y.status q (signals_to n (end_sends s.processes at y)) refl ([], refl, end_tells at n ne s.processes p y q a.0 at_n)
          (λ over. not_that (made_process s at y) at p y spared a.0 a.1 there over)

  deliver_silent : (at : ℕ) (o : Option Process) → live_process s.processes at ≡ o → live_process (next_deliver s at o).state.processes n ≡ Some r → Spared (next_deliver s at o).state
      → None_of (deliver_sends s.processes at o)
  deliver_silent at None e live_r spared = refl
  deliver_silent at (Some p) e live_r spared = arrives_silent at p (is_nothing p.transit) e refl live_r spared

  -- ---- changes of code

  module _ (e : Event Listing) (test : Process → Bool) (ends : (reply : Reply) → (next s e).answer ≡ Ok reply → (next s e).state.processes ≡ killing test s.processes)
      (dead : (p : Process) (reason value : TermValue) → test (ended p reason value) ≡ false) (spared : Spared (next s e).state) where
    picks_not : (reply : Reply) → (next s e).answer ≡ Ok reply → (j : ℕ) (p : Process) → slice_get s.processes j ≡ Some p → test p ≡ true → (p.pid == pid) ≡ false
    picks_not reply ok j p at passes' = go (p.pid == pid) refl
      where
        positioned : (p.pid ≡ j + 1) × Ends p
        positioned = orderly.0 j p at

        there : p.pid ≡ pid → process_of s.processes pid ≡ Some p
        there same =
            let is : pid ≡ j + 1 = sym same ∙ positioned.0 in
            let positive' : nat_lt 0 pid ≡ true = grind (arith, nat_tests) in
            let index : pid - 1 ≡ j = omega (arith, is) in
            ap (λ b. cond b (slice_get s.processes (pid - 1)) None) positive' ∙ (ap (slice_get s.processes) index ∙ at)

        dies : p.pid ≡ pid → (b : Bool) → is_ended p.status ≡ b → ⊥
        dies same true i =
            let parts = ended_parts p.status i in
            true≢false (sym passes' ∙ (ap test (positioned.1 parts.0 parts.1 parts.2) ∙ dead p parts.0 parts.1))
        dies same false i =
            let x : Process = ended p killed nil_term in
            let after : process_of (next s e).state.processes pid ≡ Some x =
            ap (λ ps. process_of ps pid) (ends reply ok)
            ∙ (process_map (ends_or_hears test (pids_of test s.processes)) s.processes pid
            ∙ (ap (option_map (ends_or_hears test (pids_of test s.processes))) (there same)
            ∙ ap (λ b. Some (cond b x (with_signals (flat_map (λ at. downs at killed p.monitors) (pids_of test s.processes)) p))) passes')) in
            spared killed (p, x, nil_term, ap alive (there same) ∙ alive_of p i, after, refl)

        go : (b : Bool) → (p.pid == pid) ≡ b → b ≡ false
        go false i = refl
        go true i =
            let same : p.pid ≡ pid = grind (arith, nat_tests) in
            absurd (dies same (is_ended p.status) refl)

    code_silent : (a : Answer) → (next s e).answer ≡ a
        → None_of (cond (is_ok a) (each_sent 1 (λ q. flat_map (λ pid. downs pid killed q.monitors) (pids_of test s.processes)) s.processes) [])
    code_silent (Ok reply) ok = changed pid n s.references q.monitors rise test s.processes q at_n refl (picks_not reply ok)
    code_silent (Err refusal) is = refl

  event_silent : (e : Event Listing) → live_process (next s e).state.processes n ≡ Some r → Spared (next s e).state → None_of (event_sends s e)
  event_silent (event.Send to message) live spared = plain_signals pid q.monitors (signals_to n (signal_if s.processes (receiver_of s.processes to) (Message message))) (plain_if n s.processes (receiver_of s.processes to) (Message message) refl)
  event_silent (event.Steps at k) live spared = steps_silent at k spared
  event_silent (event.Deliver at) live spared = deliver_silent at (live_process s.processes at) refl live spared
  event_silent (event.Load l) live spared =
      code_silent (event.Load l) (lingers_in_old s.code l.name) (load_ends s l) (λ p reason value. lingers_not (old_of s.code l.name) (ended p reason value) (λ number. refl)) spared (next s (event.Load l)).answer refl
  event_silent (event.AtomicLoad mode ls) live spared =
      code_silent (event.AtomicLoad mode ls) (lingers_in_olds s.code (map (λ l. l.name) ls)) (λ reply e. ap (λ t. t.processes) (upgrade_parts s mode ls reply e))
      (λ p reason value. in_olds_not s.code (map (λ l. l.name) ls) (ended p reason value) (λ number. refl)) spared (next s (event.AtomicLoad mode ls)).answer refl
  event_silent (event.Purge name) live spared =
      code_silent (event.Purge name) (lingers_in_old s.code name) (λ reply e. refl) (λ p reason value. lingers_not (old_of s.code name) (ended p reason value) (λ number. refl)) spared (next s (event.Purge name)).answer refl
  event_silent (event.LoadStrict l) live spared = refl
  event_silent (event.SoftPurge name) live spared = refl
  event_silent (event.Delete name) live spared = refl
  event_silent (event.Versions name) live spared = refl
  event_silent (event.Spawn m f arguments) live spared = refl
  event_silent (event.Clock now) live spared = refl
  event_silent (event.Timeout at) live spared = refl

  -- ---- what came

  -- an event brings a process nothing, or what was in transit to it
  brings : (e : Event Listing) → (event_brings n s e ≡ []) ⊎ (event_brings n s e ≡ q.transit)
  brings (event.Deliver to) = go (to == n)
    where
      go : (b : Bool) → (cond b (on_its_way (live_process s.processes n)) [] ≡ []) ⊎ (cond b (on_its_way (live_process s.processes n)) [] ≡ q.transit)
      go true = inr (ap on_its_way live_q)
      go false = inl refl
  brings e = inl refl

  only : (e : Event Listing) (came : List Signal) → live_process (next s e).state.processes n ≡ Some r → r.transit ≡ q.transit ++ came → Spared (next s e).state
      → filter (is_down_of pid q.monitors) came ≡ []
  only e came live is spared = by (brings e)
    where
      passes' : Signal → Bool
      passes' = is_down_of pid q.monitors

      signals : List Signal
      signals = signals_to n (event_sends s e ++ [])

      silent : filter passes' signals ≡ []
      silent = both pid n s.references q.monitors rise (event_sends s e) [] (event_silent e live spared) refl

      account : q.transit ++ signals ≡ (event_brings n s e ++ []) ++ r.transit
      account = ap (λ o. on_its_way o ++ signals) (sym live_q) ∙ in_order s (e ∷ []) n r live

      by : (event_brings n s e ≡ []) ⊎ (event_brings n s e ≡ q.transit) → filter passes' came ≡ []
      by (inl none) =
          let same : signals ≡ came = append_cancel_left q.transit signals came (account ∙ (ap (λ xs. (xs ++ []) ++ r.transit) none ∙ is)) in
          ap (filter passes') (sym same) ∙ silent
      by (inr all) =
          let same : signals ≡ q.transit ++ came =
          append_cancel_left q.transit signals (q.transit ++ came)
          (account ∙ (ap (λ xs. (xs ++ []) ++ r.transit) all ∙ (ap (λ xs. xs ++ r.transit) (append-nil q.transit) ∙ ap (λ xs. q.transit ++ xs) is))) in
          tail_none (filter passes' q.transit) (filter passes' came) (sym (filter-append passes' q.transit came) ∙ (ap (filter passes') (sym same) ∙ silent))
        where
          tail_none : (xs ys : List Signal) → xs ++ ys ≡ [] → ys ≡ []
          tail_none [] ys h = h
          tail_none (x ∷ xs) ys h = cc

pub only_came : (s : State) (e : Event Listing) (pid n : ℕ) (q r : Process) (came : List Signal) → Orderly s.processes → AreRising s.references s.processes
    → live_process s.processes n ≡ Some q → live_process (next s e).state.processes n ≡ Some r → r.transit ≡ q.transit ++ came
    → ((reason : TermValue) → ¬ EndsBetween pid reason s (next s e).state) → filter (is_down_of pid q.monitors) came ≡ []
only_came s e pid n q r came orderly rising live_q live_r is spared =
    let there = alive_is (process_of s.processes n) q live_q in
    let rise : Rise 0 s.references q.monitors = all_at (λ p. Rise 0 s.references p.monitors) s.processes (n - 1) q rising (at_index s.processes n q there.0) in
    only s pid n q r orderly rise live_q e came live_r is spared

pub only_reached : (events : List (Event Listing)) (e : Event Listing) (pid n : ℕ) (q r : Process) (came : List Signal) → live_process (run empty events).state.processes n ≡ Some q
    → live_process (next (run empty events).state e).state.processes n ≡ Some r → r.transit ≡ q.transit ++ came
    → ((reason : TermValue) → ¬ EndsBetween pid reason (run empty events).state (next (run empty events).state e).state) → filter (is_down_of pid q.monitors) came ≡ []
only_reached events e pid n q r came = only_came (run empty events).state e pid n q r came (run_orderly empty events none_orderly) (run_rises empty events tt)
