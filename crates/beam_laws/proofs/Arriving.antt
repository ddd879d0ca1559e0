-- The signals sent to a process are those that arrived, and then those in transit to it.
use Rattle.std.proofs.Common.{◌≡◌, ℕ, zero, suc, true≢false, ◌+◌, Bool, true, false, cond, List, length, [], ◌∷◌, ◌++◌, append_assoc, append-nil, refl, sym, ap, subst, ◌∙◌, Option, Some, None, Result, unwrap_or}
use Rattle.beam_machine.specs.declared.callee.After.{After}
use Rattle.beam_machine.specs.declared.process.Monitor.{Monitor as MonitorValue}
use Rattle.beam_machine.specs.declared.process.Signal.{Signal}
use Rattle.beam_machine.specs.declared.process.Status.TheVariants.{Running}
use Rattle.beam_machine.specs.Prelude.{Process, is_running, is_ended, Outcome, makes, sends, asks, sleeps, arguments_of, answers, outcome, State, process_of, with_process, alive, posted, with_made, Answered, or_noproc, put_monitor, with_new_monitor, monitored, answer_of, Rows, raised, continues, goes_on_with, done_by, row, running, row_and, next, Sent}
use Rattle.beam_model.specs.declared.native.NodeNative.{NodeNative}
use Rattle.beam_model.specs.declared.exception.Exception.{Exception}
use Rattle.beam_term.specs.Prelude.{TermValue}
use Rattle.beam_machine.specs.Next.{steps}
use Rattle.beam_laws.specs.Prelude.{with_name_and_transit, downs_of_end, signal_to, end_sends, noproc_sends, native_sends, asker_sends, row_sends, row_and_send, steps_send, signals_to, on_its_way}
use Rattle.beam_laws.proofs.Ending.{running_is}
use Rattle.beam_laws.proofs.Hearing.{hearing_here, none_heard}
use Rattle.beam_laws.proofs.Numbered.{put_here, alive_of}
use Rattle.beam_laws.proofs.Unread.{with, answers_same}
use Rattle.beam_laws.proofs.Private.{having_status, Keeps, row_keeps}
use Rattle.beam_laws.proofs.Posting.{Grown, Grows, said, each_sent_to, posted_grows, noproc_grows, started_grows, named_grows, signals_append, no_signals}
use Rattle.beam_laws.proofs.NodeAnswers.{Answers, keeps_all, starts_one, names_one, unnames_one, posts_one, makes_one, monitors_one, answer_is}

-- ---- the account of one process

abbrev pub Lives : Option Process → Type 0
Lives None = Unit {0}
Lives (Some p) = is_ended p.status ≡ false

-- where the process hasn't ended, the signals in transit before, and then those sent, are those that came, and then those in transit
abbrev pub Account : List Signal → List Signal → Option Process → Option Process → Type 0
Account came sents o None = (o ≡ None) × (came ≡ []) × (sents ≡ [])
Account came sents o (Some q) = is_ended q.status ≡ false → Lives o × (on_its_way o ++ sents ≡ came ++ q.transit)

pub account_still : (o : Option Process) → Account [] [] o o
account_still None = (refl, refl, refl)
account_still (Some p) = λ lives. (lives, append-nil p.transit)

pub account_more : (c d x y : List Signal) (o u v : Option Process) → Account c x o u → Account d y u v → Account (c ++ d) (x ++ y) o v
account_more c d x y o u None g h =
    let first : (o ≡ None) × (c ≡ []) × (x ≡ []) = subst (Account c x o) h.0 g in
    (first.0, ap (λ c. c ++ d) first.1 ∙ h.1, ap (λ x. x ++ y) first.2 ∙ h.2)
account_more c d x y o None (Some q) g h = λ lives.
    let then : Unit × (y ≡ d ++ q.transit) = h lives in (
      subst Lives (sym g.0) tt,
      ap (λ o. on_its_way o ++ (x ++ y)) g.0 ∙ (ap (λ x. x ++ y) g.2 ∙ (then.1 ∙ sym (ap (λ c. (c ++ d) ++ q.transit) g.1))),
    )
account_more c d x y o (Some p) (Some q) g h = λ lives.
    let then : (is_ended p.status ≡ false) × (p.transit ++ y ≡ d ++ q.transit) = h lives in
    let first : Lives o × (on_its_way o ++ x ≡ c ++ p.transit) = g then.0 in (
      first.0,
      sym (append_assoc (on_its_way o) x y)
          ∙ (ap (λ z. z ++ y) first.1 ∙ (append_assoc c p.transit y ∙ (ap (λ z. c ++ z) then.1 ∙ sym (append_assoc c d q.transit)))),
    )

kept_transit : (name : Option (List ℕ)) (transit : List Signal) (q y : Process) → q ≡ with_name_and_transit name transit y → is_ended q.status ≡ false → q.transit ≡ transit
kept_transit name transit q y e lives = ap (λ z. z.transit) e ∙ go (is_ended y.status) refl
  where
    go : (b : Bool) → is_ended y.status ≡ b → (with_name_and_transit name transit y).transit ≡ transit
    go true over =
        let is : with_name_and_transit name transit y ≡ y = ap (λ b. cond b y (record y { name = name; transit = transit })) over in
        absurd (true≢false (sym over ∙ (ap (λ z. is_ended z.status) (sym (e ∙ is)) ∙ lives)))
    go false on = ap (λ b. (cond {A = Process} b y (record y { name = name; transit = transit })).transit) on

was_alive : (name : Option (List ℕ)) (transit : List Signal) (y : Process) → is_ended (with_name_and_transit name transit y).status ≡ false → is_ended y.status ≡ false
was_alive name transit y lives = go (is_ended y.status) refl
  where
    go : (b : Bool) → is_ended y.status ≡ b → is_ended y.status ≡ false
    go false e = e
    go true e = sym (ap (λ b. is_ended (cond {A = Process} b y (record y { name = name; transit = transit })).status) e) ∙ lives

pub grown_account : (xs : List Signal) (o u : Option Process) → Grown xs o u → Account [] xs o u
grown_account xs None None g = (refl, refl, g)
grown_account xs None (Some q) g = λ lives. (tt, sym g.1)
grown_account xs (Some p) u g =
    let same : Account [] xs (Some p) (Some (with_name_and_transit g.0 (p.transit ++ xs) p)) = λ lives. (was_alive g.0 (p.transit ++ xs) p lives, sym (kept_transit g.0 (p.transit ++ xs) (with_name_and_transit g.0 (p.transit ++ xs) p) p refl lives)) in
    subst (Account [] xs (Some p)) (sym g.1) same

-- ---- a row of the process itself

with_having : (name : Option (List ℕ)) (transit : List Signal) (q : Process) → q ≡ with name transit q → q ≡ with_name_and_transit name transit q
with_having name transit q e = subst (λ x. x ≡ with_name_and_transit name transit x) (sym e) refl

made : (p q : Process) → is_ended p.status ≡ false → q ≡ with_name_and_transit p.name p.transit q → Account [] [] (Some p) (Some q)
made p q on e = λ lives. (on, append-nil p.transit ∙ sym (kept_transit p.name p.transit q q e lives))

-- a running process that gets an answer keeps its signals in transit
answers_own : (x : Process) (after : After) (value : Result TermValue Exception) → x.status ≡ Running → answers x after value ≡ with_name_and_transit x.name x.transit (answers (with None [] x) after value)
answers_own x after value runs =
    let is : with x.name x.transit x ≡ x = ap (λ status. record x { status = status }) (sym runs) in
    ap (λ y. answers y after value) (sym is) ∙ answers_same x.name x.transit x after value

module _ (pid : ℕ) where
  abbrev pub Accounts : List Signal → List Sent → List Process → List Process → Type 0
  Accounts came sents ps qs = Account came (signals_to pid sents) (process_of ps pid) (process_of qs pid)

  pub accounts_still : (ps : List Process) → Accounts [] [] ps ps
  accounts_still ps = account_still (process_of ps pid)

  pub grows_account : (xs : List Sent) (ps qs : List Process) → Grows pid xs ps qs → Accounts [] xs ps qs
  grows_account xs ps qs g = grown_account (signals_to pid xs) (process_of ps pid) (process_of qs pid) g

  pub accounts_more : (c d : List Signal) (x y : List Sent) (ps qs rs : List Process) → Accounts c x ps qs → Accounts d y qs rs → Accounts (c ++ d) (x ++ y) ps rs
  accounts_more c d x y ps qs rs g h =
      subst (λ xs. Account (c ++ d) xs (process_of ps pid) (process_of rs pid)) (sym (signals_append pid x y))
      (account_more c d (signals_to pid x) (signals_to pid y) (process_of ps pid) (process_of qs pid) (process_of rs pid) g h)

  -- the process that was put, in the place of the one that was there
  pub put_account : (xs : List Signal) (ps : List Process) (p q : Process) → process_of ps pid ≡ Some p → Account [] xs (Some p) (Some q) → Account [] xs (process_of ps pid) (process_of (with_process ps pid q) pid)
  put_account xs ps p q e a =
      subst (λ o. Account [] xs o (process_of (with_process ps pid q) pid)) (sym e)
      (subst (Account [] xs (Some p)) (sym (put_here ps pid p q e)) a)

  -- the process as a row made it; where it has ended, the others get their DOWNs
  made_account : (xs : List Signal) (ps : List Process) (p q : Process) → process_of ps pid ≡ Some p → Account [] xs (Some p) (Some q) → Account [] xs (process_of ps pid) (process_of (with_made ps pid q) pid)
  made_account xs ps p q e a =
      subst (λ o. Account [] xs o (process_of (with_made ps pid q) pid)) (sym e)
      (subst (Account [] xs (Some p)) (sym (hearing_here pid q.status (with_process ps pid q) q (put_here ps pid p q e) refl)) a)

  -- a process that hasn't ended sends no DOWNs
  pub no_end_at : (at : ℕ) (ps : List Process) (q : Process) → is_ended q.status ≡ false → signals_to pid (end_sends ps at q) ≡ []
  no_end_at at ps q lives = each_sent_to (downs_of_end at q.status) (with_process ps at q) pid ∙ go (process_of (with_process ps at q) pid)
    where
      go : (o : Option Process) → said (downs_of_end at q.status) o ≡ []
      go None = refl
      go (Some r) = none_heard at q.status r lives

  pub no_end : (ps : List Process) (q : Process) → is_ended q.status ≡ false → signals_to pid (end_sends ps pid q) ≡ []
  no_end ps q lives = no_end_at pid ps q lives

  pub end_account : (ps : List Process) (xs : List Signal) (p q : Process) → process_of ps pid ≡ Some p → Account [] xs (Some p) (Some q)
      → Account [] (xs ++ signals_to pid (end_sends ps pid q)) (process_of ps pid) (process_of (with_made ps pid q) pid)
  end_account ps xs p q e a =
      made_account (xs ++ signals_to pid (end_sends ps pid q)) ps p q e (λ lives.
      ((a lives).0, ap (λ ys. p.transit ++ (xs ++ ys)) (no_end ps q lives) ∙ (ap (λ ys. p.transit ++ ys) (append-nil xs) ∙ (a lives).1)))

  -- the caller of a native of the node: with more signals in transit to it, and perhaps another name and other monitors
  abbrev pub Asked : List Signal → Process → Option Process → Type 0
  Asked xs q o = (name : Option (List ℕ)) × (ms : List MonitorValue) × (o ≡ Some (record (with_name_and_transit name (q.transit ++ xs) q) { monitors = ms }))

  grown_asked : (xs : List Signal) (q : Process) (o : Option Process) → Grown xs (Some q) o → Asked xs q o
  grown_asked xs q o g = (g.0, (with_name_and_transit g.0 (q.transit ++ xs) q).monitors, g.1)

  watched_asked : (ps : List Process) (n : ℕ) (watched : TermValue) (xs : List Signal) (q : Process) → is_ended q.status ≡ false → Grown xs (Some q) (process_of ps pid)
      → Asked xs q (process_of (with_new_monitor ps pid n watched) pid)
  watched_asked ps n watched xs q lives g =
      let x : Process = with_name_and_transit g.0 (q.transit ++ xs) q in
      let on : is_ended x.status ≡ false = ap is_ended (having_status g.0 (q.transit ++ xs) q) ∙ lives in
      let ms : List MonitorValue = x.monitors ++ record { reference = n; pid = watched } ∷ [] in (
        g.0,
        ms,
        ap (λ o. process_of (put_monitor ps pid n watched (alive o)) pid) g.1
            ∙ (ap (λ o. process_of (put_monitor ps pid n watched o) pid) (alive_of x on) ∙ put_here ps pid x (record x { monitors = ms }) g.1),
      )

  noproc_asked : (ps : List Process) (n : ℕ) (watched : TermValue) (q : Process) → process_of ps pid ≡ Some q → is_ended q.status ≡ false
      → Asked (signals_to pid (noproc_sends ps pid watched (Some n))) q (process_of (monitored ps pid watched n) pid)
  noproc_asked ps n watched q e lives =
      let xs : List Signal = signals_to pid (noproc_sends ps pid watched (Some n)) in
      watched_asked (or_noproc ps pid n watched) n watched xs q lives
      (subst (λ o. Grown xs o (process_of (or_noproc ps pid n watched) pid)) e (noproc_grows pid ps pid n watched))

  still_asked : (ps : List Process) (q : Process) → process_of ps pid ≡ Some q → Asked [] q (process_of ps pid)
  still_asked ps q e = (q.name, (with_name_and_transit q.name (q.transit ++ []) q).monitors, e ∙ ap Some (sym (no_signals q)))

  grows_asked : (xs : List Sent) (ps qs : List Process) (q : Process) → process_of ps pid ≡ Some q → Grows pid xs ps qs → Asked (signals_to pid xs) q (process_of qs pid)
  grows_asked xs ps qs q e g = grown_asked (signals_to pid xs) q (process_of qs pid) (subst (λ o. Grown (signals_to pid xs) o (process_of qs pid)) e g)

  answered_asked : (references : ℕ) (ps : List Process) (native : NodeNative) (xs : List Sent) (a : Answered) (q : Process) → process_of ps pid ≡ Some q → is_ended q.status ≡ false
      → Answers references ps pid native xs a → Asked (signals_to pid xs) q (process_of a.processes pid)
  answered_asked references ps native _ _ q e lives (keeps_all value) = still_asked ps q e
  answered_asked references ps native _ _ q e lives (starts_one m f arguments value) = grows_asked [] ps _ q e (started_grows pid ps (length ps + 1) m f arguments)
  answered_asked references ps native _ _ q e lives (names_one name at x value there free) = grows_asked [] ps _ q e (named_grows pid ps at x (Some name) there)
  answered_asked references ps native _ _ q e lives (unnames_one at x value there) = grows_asked [] ps _ q e (named_grows pid ps at x None there)
  answered_asked references ps native _ _ q e lives (posts_one to signal value plain) = grows_asked (signal_to ps to signal) ps _ q e (posted_grows pid ps to signal)
  answered_asked references ps native _ _ q e lives (makes_one value) = still_asked ps q e
  answered_asked references ps native _ _ q e lives (monitors_one watched value is) = noproc_asked ps (references + 1) watched q e lives

  pub answer_asked : (references : ℕ) (ps : List Process) (native : NodeNative) (ts : List TermValue) (q : Process) → process_of ps pid ≡ Some q → is_ended q.status ≡ false
      → Asked (signals_to pid (native_sends references ps pid native ts)) q (process_of (answer_of references ps pid native ts).processes pid)
  answer_asked references ps native ts q e lives = answered_asked references ps native _ _ q e lives (answer_is references ps pid native ts)

  -- the process that asked goes on with the answer
  answered : (s : State) (p q : Process) (after : After) (a : Answered) (xs : List Signal) (o : Option Process) → s.processes ≡ a.processes → is_ended p.status ≡ false → q ≡ with p.name p.transit q
      → process_of a.processes pid ≡ o → Asked xs q o
      → Account [] (xs ++ signals_to pid (asker_sends pid after a o)) (Some p) (process_of (continues s pid after a.value o).processes pid)
  answered s p q after a xs None same on keeps there g = absurd (clash g.2)
    where
      clash : {x : Process} → None ≡ Some x → ⊥
      clash e = cc
  answered s p q after a xs (Some x) same on keeps there g =
      let r : Process = answers x after (raised a.value) in
      let as_asked : x ≡ record (with_name_and_transit g.0 (q.transit ++ xs) q) { monitors = g.1 } = injected g.2 in
      let runs : x.status ≡ Running = ap (λ y. y.status) as_asked ∙ (having_status g.0 (q.transit ++ xs) q ∙ ap (λ y. y.status) keeps) in
      let lives : is_ended q.status ≡ false = ap (λ y. is_ended y.status) keeps in
      let has : x.transit ≡ q.transit ++ xs = ap (λ y. y.transit) as_asked ∙ ap (λ b. (cond {A = Process} b q (record q { name = g.0; transit = q.transit ++ xs })).transit) lives in
      let moves : r ≡ with_name_and_transit x.name x.transit (answers (with None [] x) after (raised a.value)) = answers_own x after (raised a.value) runs in
      let transit : x.transit ≡ p.transit ++ xs = has ∙ ap (λ y. y.transit ++ xs) keeps in
      subst (λ ps. Account [] (xs ++ signals_to pid (asker_sends pid after a (Some x))) (Some p) (process_of (with_made ps pid r) pid)) (sym same)
      (subst (Account [] (xs ++ signals_to pid (asker_sends pid after a (Some x))) (Some p)) (sym (hearing_here pid r.status (with_process a.processes pid r) r (put_here a.processes pid x r there) refl))
      (λ lives. (
        on,
        ap (λ ys. p.transit ++ (xs ++ ys)) (no_end a.processes r lives)
            ∙ (ap (λ ys. p.transit ++ ys) (append-nil xs) ∙ (sym transit ∙ sym (kept_transit x.name x.transit r (answers (with None [] x) after (raised a.value)) moves lives))),
      )))
    where
      injected : {x y : Process} → Some x ≡ Some y → x ≡ y
      injected e = cc

  own_row : (s : State) (p : Process) (o : Outcome) → process_of s.processes pid ≡ Some p → is_ended p.status ≡ false → Keeps p.name p.transit o
      → Accounts [] (row_sends s pid o) s.processes (done_by s pid o).processes
  own_row s p (makes q) e on keeps = end_account s.processes [] p q e (made p q on keeps)
  own_row s p (sends q to signal) e on keeps =
      let ps : List Process = with_process s.processes pid q in
      accounts_more [] [] [] (signal_to ps to signal) s.processes ps (posted ps to signal) (put_account [] s.processes p q e (made p q on (with_having p.name p.transit q keeps)))
      (grows_account (signal_to ps to signal) ps (posted ps to signal) (posted_grows pid ps to signal))
  own_row s p (asks q native arity after) e on keeps =
      let ps : List Process = with_process s.processes pid q in
      let ts : List TermValue = arguments_of q arity in
      let a : Answered = answer_of s.references ps pid native ts in
      let t : State = record s { processes = a.processes; references = unwrap_or a.made s.references } in
      let xs : List Sent = native_sends s.references ps pid native ts in
      let ys : List Sent = asker_sends pid after a (process_of a.processes pid) in
      let lives : is_ended q.status ≡ false = ap (λ y. is_ended y.status) keeps in
      let asked : Asked (signals_to pid xs) q (process_of a.processes pid) = answer_asked s.references ps native ts q (put_here s.processes pid p q e) lives in
      subst (λ o. Account [] (signals_to pid (xs ++ ys)) o (process_of (goes_on_with s pid after a).processes pid)) (sym e)
      (subst (λ zs. Account [] zs (Some p) (process_of (goes_on_with s pid after a).processes pid)) (sym (signals_append pid xs ys))
      (answered t p q after a (signals_to pid xs) (process_of a.processes pid) refl on keeps refl asked))
  own_row s p (sleeps q n next) e on keeps =
      put_account [] s.processes p (record q { deadline = _ }) e (λ lives. (on, append-nil p.transit ∙ sym (kept_transit p.name p.transit q q keeps lives)))

  row_and_account : (s : State) (rest : State → Rows) (more : State → List Sent) (o : Option Process) → running (process_of s.processes pid) ≡ o
      → ((t : State) → Accounts [] (more t) t.processes (rest t).state.processes) → Accounts [] (row_and_send more s pid o) s.processes (row_and rest s pid o).state.processes
  row_and_account s rest more None e h = accounts_still s.processes
  row_and_account s rest more (Some p) e h =
      let r = running_is (process_of s.processes pid) p e in
      accounts_more [] [] (row_sends s pid (outcome s.code p)) (more (row s pid p)) s.processes (row s pid p).processes (rest (row s pid p)).state.processes
      (own_row s p (outcome s.code p) r.0 r.1 (row_keeps s.code p (runs (process_of s.processes pid) p e))) (h (row s pid p))
    where
      runs : (o : Option Process) (p : Process) → running o ≡ Some p → is_running p.status ≡ true
      runs None p e = cc
      runs (Some x) p e = go (is_running x.status) refl e
        where
          go : (b : Bool) → is_running x.status ≡ b → cond b (Some x) None ≡ Some p → is_running p.status ≡ true
          go false r h = cc
          go true r h =
              let is : x ≡ p = cc in
              ap (λ y. is_running y.status) (sym is) ∙ r

  pub own_steps : (n : ℕ) (s : State) → Accounts [] (steps_send s pid n) s.processes (steps s pid n).state.processes
  own_steps zero s = accounts_still s.processes
  own_steps (suc n) s = row_and_account s (λ t. steps t pid n) (λ t. steps_send t pid n) (running (process_of s.processes pid)) refl (λ t. own_steps n t)
