-- What rows of one process send to another: signals that are no DOWNs, and then, where the process has ended, its DOWNs.
use Rattle.std.proofs.Common.{◌≡◌, ◌≢◌, ℕ, ◌+◌, zero, suc, ◌==◌, Bool, true, false, true≢false, cond, List, [], ◌∷◌, ◌++◌, append_assoc, append-nil, filter, refl, sym, ap, subst, ◌∙◌, arith, Option, Some, None, option_map, is_some, unwrap_or, codes}
use Rattle.std.proofs.lemmas.Bool.Decides.{nat_tests}
use Rattle.std.proofs.lemmas.List.Elements.{filter-append}
use Rattle.beam_term.specs.Prelude.{TermValue, atom_term}
use Rattle.beam_model.specs.declared.native.NodeNative.{NodeNative}
use Rattle.beam_model.specs.declared.native.NodeNative.TheVariants.{Monitor}
use Rattle.beam_machine.specs.declared.callee.After.{After}
use Rattle.beam_machine.specs.declared.process.Signal.{Signal}
use Rattle.beam_machine.specs.declared.process.Signal.TheVariants.{Down}
use Rattle.beam_machine.specs.declared.process.Status.{Status}
use Rattle.beam_machine.specs.declared.process.Status.TheVariants.{Running, Waiting, Ended}
use Rattle.beam_machine.specs.Prelude.{Process, is_running, is_ended, Outcome, makes, sends, asks, sleeps, answers, arguments_of, outcome, own_number, State, process_of, live_process, with_process, posted, with_made, Answered, answer_of, is_alive, Rows, raised, continues, done_by, row, running, row_and, Sent}
use Rattle.beam_machine.specs.Next.{steps}
use Rattle.beam_laws.specs.Prelude.{with_name_and_transit, with_signals, downs_of_end, signal_to, signal_if, end_sends, noproc_sends, native_sends, asker_sends, row_sends, row_and_send, steps_send, signals_to}
use Rattle.beam_laws.proofs.Follows.{Comes, outcome_comes}
use Rattle.beam_laws.proofs.Hearing.{as_before, hearing_here, none_heard}
use Rattle.beam_laws.proofs.Numbered.{positive, put_here, put_elsewhere}
use Rattle.beam_laws.proofs.Posting.{Grown, Elsewhere, said, each_sent_to, signals_append, posted_at, answer_grows}
use Rattle.beam_laws.proofs.Sending.{idle, idle_sends, steps_grow}
use Rattle.beam_next_laws.specs.Heard.{is_down}
use Rattle.beam_next_laws.proofs.PlainRows.{Plain, outcome_plain}
use Rattle.beam_laws.proofs.NodeAnswers.{Answers, posts_one, monitors_one, is_no_down, answer_is}

-- what a process hears of another with this status
abbrev pub Tells : ℕ → Status → Process → List Signal → Type 0
Tells pid status q came = (first : List Signal) × (filter is_down first ≡ []) × (came ≡ first ++ downs_of_end pid status q)

-- the DOWNs to a process don't depend on its name and on the signals in transit to it
same_downs : (pid : ℕ) (status : Status) (name : Option (List ℕ)) (transit : List Signal) (q : Process)
    → downs_of_end pid status (with_name_and_transit name transit q) ≡ downs_of_end pid status q
same_downs pid status name transit q = go (is_ended q.status)
  where
    same : (y : Process) → y.monitors ≡ q.monitors → (status : Status) → downs_of_end pid status y ≡ downs_of_end pid status q
    same y e Running = refl
    same y e Waiting = refl
    same y e (Ended reason value) = ap (λ ms. downs_of_end pid (Ended reason value) (record q { monitors = ms })) e

    go : (b : Bool) → downs_of_end pid status (cond b q (record q { name = name; transit = transit })) ≡ downs_of_end pid status q
    go true = refl
    go false = same (record q { name = name; transit = transit }) refl status

-- nothing is heard of a process that hasn't ended but signals that are no DOWNs
only_plain : (pid : ℕ) (status : Status) (q : Process) (came : List Signal) → is_ended status ≡ false → filter is_down came ≡ [] → Tells pid status q came
only_plain pid status q came lives plain = (came, plain, sym (ap (λ xs. came ++ xs) (none_heard pid status q lives) ∙ append-nil came))

-- ---- one signal

pub no_down : (signal : Signal) → is_no_down signal ≡ true → is_down signal ≡ false
no_down (Down reference reason) e = sym e
no_down _ e = refl

module _ (n : ℕ) where
  plain_sent : (to : ℕ) (signal : Signal) → is_down signal ≡ false → filter is_down (signals_to n (record { to = to; signal = signal } ∷ [])) ≡ []
  plain_sent to signal plain = go (to == n)
    where
      go : (b : Bool) → filter is_down (cond b (signal ∷ []) []) ≡ []
      go true = ap (λ b. cond b (signal ∷ []) []) plain
      go false = refl

  pub plain_signal : (ps : List Process) (to : ℕ) (signal : Signal) → is_down signal ≡ false → filter is_down (signals_to n (signal_to ps to signal)) ≡ []
  plain_signal ps to signal plain = go (is_some (live_process ps to))
    where
      go : (b : Bool) → filter is_down (signals_to n (cond b (record { to = to; signal = signal } ∷ []) [])) ≡ []
      go true = plain_sent to signal plain
      go false = refl

  pub plain_if : (ps : List Process) (o : Option ℕ) (signal : Signal) → is_down signal ≡ false → filter is_down (signals_to n (signal_if ps o signal)) ≡ []
  plain_if ps None signal plain = refl
  plain_if ps (Some to) signal plain = plain_signal ps to signal plain

  -- ---- natives of the node

  not_to : (ps : List Process) (caller : ℕ) (signal : Signal) → (caller == n) ≡ false → filter is_down (signals_to n (signal_to ps caller signal)) ≡ []
  not_to ps caller signal e = go (is_some (live_process ps caller))
    where
      go : (b : Bool) → filter is_down (signals_to n (cond b (record { to = caller; signal = signal } ∷ []) [])) ≡ []
      go true = ap (λ b. filter is_down (cond b (signal ∷ []) [])) e
      go false = refl

  noproc_elsewhere : (ps : List Process) (caller : ℕ) (watched : TermValue) (o : Option ℕ) → (caller == n) ≡ false → filter is_down (signals_to n (noproc_sends ps caller watched o)) ≡ []
  noproc_elsewhere ps caller watched None e = refl
  noproc_elsewhere ps caller watched (Some k) e = go (is_alive ps (own_number watched))
    where
      go : (b : Bool) → filter is_down (signals_to n (cond b [] (signal_to ps caller (Down k (atom_term (codes "noproc")))))) ≡ []
      go true = refl
      go false = not_to ps caller (Down k (atom_term (codes "noproc"))) e

  answered_plain : (references : ℕ) (ps : List Process) (caller : ℕ) (native : NodeNative) (xs : List Sent) (a : Answered) → (caller == n) ≡ false
      → Answers references ps caller native xs a → filter is_down (signals_to n xs) ≡ []
  answered_plain references ps caller native _ _ e (posts_one to signal value plain) = plain_signal ps to signal (no_down signal plain)
  answered_plain references ps caller native _ _ e (monitors_one watched value is) = noproc_elsewhere ps caller watched (Some (references + 1)) e
  answered_plain references ps caller native _ _ e _ = refl

  native_plain : (references : ℕ) (ps : List Process) (caller : ℕ) (native : NodeNative) (ts : List TermValue) → (caller == n) ≡ false
      → filter is_down (signals_to n (native_sends references ps caller native ts)) ≡ []
  native_plain references ps caller native ts e = answered_plain references ps caller native _ _ e (answer_is references ps caller native ts)

-- ---- one row, seen from another process

module _ (pid n : ℕ) (ne : n ≢ pid) where
  another : (pid == n) ≡ false
  another = go (pid == n) refl
    where
      go : (b : Bool) → (pid == n) ≡ b → b ≡ false
      go false e = refl
      go true e =
          let same : n ≡ pid = grind (arith, nat_tests) in
          absurd (ne same)

  elsewhere : (native : NodeNative) → Elsewhere n native pid
  elsewhere Monitor = ne
  elsewhere native = tt

  -- a process that was made sends its DOWNs
  pub end_tells : (ps : List Process) (p y q : Process) → process_of ps pid ≡ Some p → process_of ps n ≡ Some q → signals_to n (end_sends ps pid y) ≡ downs_of_end pid y.status q
  end_tells ps p y q at e =
      each_sent_to (downs_of_end pid y.status) (with_process ps pid y) n
      ∙ ap (said (downs_of_end pid y.status)) (put_elsewhere ps pid n y ne (positive ps pid p at) ∙ e)

  here : (o : Option Process) (x y : Process) → o ≡ Some y → o ≡ Some x → x ≡ y
  here o x y e f =
      let both : Some y ≡ Some x = sym e ∙ f in
      cc

  made_tells : (s : State) (p y q x : Process) → process_of s.processes pid ≡ Some p → process_of s.processes n ≡ Some q
      → process_of (with_made s.processes pid y) pid ≡ Some x → Tells pid x.status q (signals_to n (end_sends s.processes pid y))
  made_tells s p y q x at e f =
      let is : x ≡ y = here (process_of (with_made s.processes pid y) pid) x y (hearing_here pid y.status (with_process s.processes pid y) y (put_here s.processes pid p y at) refl) f in
      ([], refl, end_tells s.processes p y q at e ∙ ap (λ z. downs_of_end pid z.status q) (sym is))

  -- the process that asked goes on with the answer
  asker_tells : (t : State) (ps : List Process) (after : After) (a : Answered) (o : Option Process) (xs : List Sent) (y q x : Process) → a.processes ≡ ps → process_of ps pid ≡ o
      → t.processes ≡ ps → Grown (signals_to n xs) (Some q) (process_of ps n) → filter is_down (signals_to n xs) ≡ []
      → process_of (continues t pid after a.value o).processes pid ≡ Some x → Tells pid x.status q (signals_to n (xs ++ asker_sends pid after a o))
  asker_tells t ps after a None xs y q x e at there g plain f =
      let clash : None ≡ Some x = sym at ∙ (ap (λ ps. process_of ps pid) (sym there) ∙ f) in
      cc
  asker_tells t ps after a (Some z) xs y q x e at there g plain f =
      let r : Process = answers z after (raised a.value) in
      let name : Option (List ℕ) = g.0 in
      let grown : Process = with_name_and_transit name (q.transit ++ signals_to n xs) q in
      let came : process_of (with_made ps pid r) pid ≡ Some x = subst (λ ps. process_of (with_made ps pid r) pid ≡ Some x) there f in
      let is : x ≡ r = here (process_of (with_made ps pid r) pid) x r (hearing_here pid r.status (with_process ps pid r) r (put_here ps pid z r at) refl) came in (
        signals_to n xs,
        plain,
        signals_append n xs (asker_sends pid after a (Some z))
            ∙ ap (λ ys. signals_to n xs ++ ys)
            (ap (λ ps. signals_to n (end_sends ps pid r)) e
            ∙ (end_tells ps z r grown at g.1 ∙ (same_downs pid r.status name (q.transit ++ signals_to n xs) q ∙ ap (λ z. downs_of_end pid z.status q) (sym is)))),
      )

  row_tells : (s : State) (p q x : Process) (o : Outcome) → process_of s.processes pid ≡ Some p → process_of s.processes n ≡ Some q → Plain o → Comes p.pid p.name o
      → process_of (done_by s pid o).processes pid ≡ Some x → Tells pid x.status q (signals_to n (row_sends s pid o))
  row_tells s p q x (makes y) at e plain comes f = made_tells s p y q x at e f
  row_tells s p q x (sends y to signal) at e plain comes f =
      let ps : List Process = with_process s.processes pid y in
      let signals : List Signal = cond (to == pid) (signal ∷ []) [] in
      let there : process_of (posted ps to signal) pid ≡ Some (with_signals signals y) =
      posted_at ps to pid signal (to == pid) refl ∙ ap (option_map (with_signals signals)) (put_here s.processes pid p y at) in
      let is : x ≡ with_signals signals y = here (process_of (posted ps to signal) pid) x (with_signals signals y) there f in
      let lives : is_ended x.status ≡ false = ap (λ z. is_ended z.status) is ∙ (ap is_ended (as_before (λ z. z.status) signals y refl) ∙ comes.1.1) in
      only_plain pid x.status q (signals_to n (signal_to ps to signal)) lives (plain_signal n ps to signal plain)
  row_tells s p q x (asks y native arity after) at e plain comes f =
      let ps : List Process = with_process s.processes pid y in
      let ts : List TermValue = arguments_of y arity in
      let a : Answered = answer_of s.references ps pid native ts in
      let t : State = record s { processes = a.processes; references = unwrap_or a.made s.references } in
      let xs : List Sent = native_sends s.references ps pid native ts in
      let there : process_of ps n ≡ Some q = put_elsewhere s.processes pid n y ne (positive s.processes pid p at) ∙ e in
      let grown : Grown (signals_to n xs) (Some q) (process_of a.processes n) =
      subst (λ o. Grown (signals_to n xs) o (process_of a.processes n)) there (answer_grows n s.references ps pid native ts (elsewhere native)) in
      asker_tells t a.processes after a (process_of a.processes pid) xs y q x refl refl refl grown (native_plain n s.references ps pid native ts another) f
  row_tells s p q x (sleeps y k next) at e plain comes f =
      let is : x ≡ record y { deadline = _ } = here (process_of (done_by s pid (sleeps y k next)).processes pid) x (record y { deadline = _ }) (put_here s.processes pid p (record y { deadline = _ }) at) f in
      let lives : is_ended x.status ≡ false = ap (λ z. is_ended z.status) is ∙ comes.1.1 in
      only_plain pid x.status q [] lives refl

  -- ---- several rows

  still : (s : State) (p x : Process) → process_of s.processes pid ≡ Some p → process_of s.processes pid ≡ Some x → x ≡ p
  still s p x at f = here (process_of s.processes pid) x p at f

  runs_not : (p : Process) → is_running p.status ≡ false → running (Some p) ≡ None
  runs_not p r = ap (λ b. cond b (Some p) None) r

  ended_runs_not : (status : Status) → is_ended status ≡ true → is_running status ≡ false
  ended_runs_not Running e = absurd (true≢false (sym e))
  ended_runs_not Waiting e = refl
  ended_runs_not (Ended reason value) e = refl

  -- a process that has no next row
  stopped : (k : ℕ) (s : State) (p q x : Process) → running (process_of s.processes pid) ≡ None → process_of s.processes pid ≡ Some p
      → process_of (steps s pid k).state.processes pid ≡ Some x → (x ≡ p) × (signals_to n (steps_send s pid k) ≡ [])
  stopped k s p q x r at f =
      let there : process_of s.processes pid ≡ Some x = subst (λ (rows : Rows). process_of rows.state.processes pid ≡ Some x) (idle k s pid r) f in
      (still s p x at there, ap (signals_to n) (idle_sends k s pid r))

  two_parts : (status : Status) (q : Process) (xs ys : List Signal) → filter is_down xs ≡ [] → Tells pid status q ys → Tells pid status q (xs ++ ys)
  two_parts status q xs ys plain (first, none, is) = (
    xs ++ first,
    filter-append is_down xs first ∙ (ap (λ zs. zs ++ filter is_down first) plain ∙ none),
    ap (λ zs. xs ++ zs) is ∙ sym (append_assoc xs first (downs_of_end pid status q)),
  )

  plain_part : (status : Status) (q : Process) (xs : List Signal) → is_ended status ≡ false → Tells pid status q xs → filter is_down xs ≡ []
  plain_part status q xs lives (first, none, is) =
      ap (filter is_down) (is ∙ (ap (λ zs. first ++ zs) (none_heard pid status q lives) ∙ append-nil first)) ∙ none

  pub rows_tell : (k : ℕ) (s : State) (p q x : Process) → process_of s.processes pid ≡ Some p → is_ended p.status ≡ false → process_of s.processes n ≡ Some q
      → process_of (steps s pid k).state.processes pid ≡ Some x → Tells pid x.status q (signals_to n (steps_send s pid k))
  rows_tell zero s p q x at lives e f =
      let is : x ≡ p = still s p x at f in
      only_plain pid x.status q [] (ap (λ z. is_ended z.status) is ∙ lives) refl
  rows_tell (suc k) s p q x at lives e f =
      by (λ y name transit g on there f'. rows_tell k (row s pid p) y (with_name_and_transit name transit q) x g on there f') (is_running p.status) refl
    where
      t : State
      t = row s pid p

      -- what the rows after this one tell
      Later : Type 0
      Later = (y : Process) (name : Option (List ℕ)) (transit : List Signal) → process_of t.processes pid ≡ Some y → is_ended y.status ≡ false
          → process_of t.processes n ≡ Some (with_name_and_transit name transit q) → process_of (steps t pid k).state.processes pid ≡ Some x
          → Tells pid x.status (with_name_and_transit name transit q) (signals_to n (steps_send t pid k))

      first_row : (y : Process) → process_of t.processes pid ≡ Some y → Tells pid y.status q (signals_to n (row_sends s pid (outcome s.code p)))
      first_row y g = row_tells s p q y (outcome s.code p) at e (outcome_plain s.code p) (outcome_comes p.pid p.name s.code p (refl, (refl, lives))) g

      -- the other process after that row
      grown : running (process_of s.processes pid) ≡ Some p → Grown (signals_to n (steps_send s pid 1)) (Some q) (process_of t.processes n)
      grown r =
          subst (λ o. Grown (signals_to n (steps_send s pid 1)) o (process_of t.processes n)) e
          (subst (λ (rows : Rows). Grown (signals_to n (steps_send s pid 1)) (process_of s.processes n) (process_of rows.state.processes n)) (ap (row_and (λ t. steps t pid 0) s pid) r) (steps_grow 1 s pid n ne))

      -- the rows after that one
      rest : Later → (o : Option Process) → running (process_of s.processes pid) ≡ Some p → process_of t.processes pid ≡ o → process_of (steps t pid k).state.processes pid ≡ Some x
          → Tells pid x.status q (signals_to n (row_sends s pid (outcome s.code p)) ++ signals_to n (steps_send t pid k))
      rest more None r g f' =
          let there : process_of t.processes pid ≡ Some x = subst (λ (rows : Rows). process_of rows.state.processes pid ≡ Some x) (idle k t pid (ap running g)) f' in
          let clash : None ≡ Some x = sym g ∙ there in
          cc
      rest more (Some y) r g f' = over (is_ended y.status) refl
        where
          over : (b : Bool) → is_ended y.status ≡ b → Tells pid x.status q (signals_to n (row_sends s pid (outcome s.code p)) ++ signals_to n (steps_send t pid k))
          over true ended =
              let none : running (process_of t.processes pid) ≡ None = ap running g ∙ runs_not y (ended_runs_not y.status ended) in
              let at_end = stopped k t y q x none g f' in
              subst (Tells pid x.status q) (sym (ap (λ xs. signals_to n (row_sends s pid (outcome s.code p)) ++ xs) at_end.1 ∙ append-nil (signals_to n (row_sends s pid (outcome s.code p)))))
              (subst (λ (z : Process). Tells pid z.status q (signals_to n (row_sends s pid (outcome s.code p)))) (sym at_end.0) (first_row y g))
          over false on =
              let name : Option (List ℕ) = (grown r).0 in
              let transit : List Signal = q.transit ++ signals_to n (steps_send s pid 1) in
              let later : Tells pid x.status (with_name_and_transit name transit q) (signals_to n (steps_send t pid k)) = more y name transit g on (grown r).1 f' in
              two_parts x.status q (signals_to n (row_sends s pid (outcome s.code p))) (signals_to n (steps_send t pid k)) (plain_part y.status q (signals_to n (row_sends s pid (outcome s.code p))) on (first_row y g))
              (later.0, later.1, later.2 ∙ ap (λ xs. later.0 ++ xs) (same_downs pid x.status name transit q))

      by : Later → (b : Bool) → is_running p.status ≡ b → Tells pid x.status q (signals_to n (steps_send s pid (suc k)))
      by more false r =
          let none : running (process_of s.processes pid) ≡ None = ap running at ∙ runs_not p r in
          let stays = stopped (suc k) s p q x none at f in
          subst (Tells pid x.status q) (sym stays.1) (only_plain pid x.status q [] (ap (λ z. is_ended z.status) stays.0 ∙ lives) refl)
      by more true r =
          let runs : running (process_of s.processes pid) ≡ Some p = ap running at ∙ ap (λ b. cond b (Some p) None) r in
          let f' : process_of (steps t pid k).state.processes pid ≡ Some x = subst (λ (rows : Rows). process_of rows.state.processes pid ≡ Some x) (ap (row_and (λ t. steps t pid k) s pid) runs) f in
          subst (λ xs. Tells pid x.status q (signals_to n xs)) (sym (ap (row_and_send (λ t. steps_send t pid k) s pid) runs))
          (subst (Tells pid x.status q) (sym (signals_append n (row_sends s pid (outcome s.code p)) (steps_send t pid k))) (rest more (process_of t.processes pid) runs refl f'))
