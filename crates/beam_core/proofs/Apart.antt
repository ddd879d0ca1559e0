-- Rows that were executed apart from the node are its next rows.
use Rattle.std.proofs.Common.{◌≡◌, ℕ, zero, suc, ◌+◌, add-one, Bool, true, false, not, cond, List, ◌∷◌, refl, sym, ap, subst, ◌∙◌, ◌&&◌, Option, Some, None}
use Rattle.beam_machine.specs.declared.event.Event.TheVariants.{Steps}
use Rattle.beam_machine.specs.declared.process.Signal.{Signal}
use Rattle.beam_machine.specs.declared.process.Status.{Status}
use Rattle.beam_machine.specs.declared.process.Status.TheVariants.{Running, Waiting, Ended}
use Rattle.beam_machine.specs.Prelude.{Code, is_at_spot, Rows, put_process, next, Private, Sent, at_spot, after_row, before_node_row, stops, with_first_row, with_first_sending, private_by, private_rows, private_to_spot, Process, is_running, is_ended, Outcome, makes, sends, asks, sleeps, outcome, State, hearing_by}
use Rattle.beam_term.specs.Prelude.{TermValue}
use Rattle.beam_model.specs.Prelude.{Place}
use Rattle.beam_machine.specs.Next.{steps}
use Rattle.beam_laws.specs.Prelude.{Follows, with_name_and_transit, posted_all, after_private, before, with_name_and_transit_of}
use Rattle.beam_laws.proofs.Delayed.{further_later}
use Rattle.beam_laws.proofs.Ending.{runs_on}
use Rattle.beam_laws.proofs.Follows.{Comes, on, outcome_comes}
use Rattle.beam_laws.proofs.Sending.{steps_state}
use Rattle.beam_laws.proofs.Private.{having_status}
use Rattle.beam_core.specs.Installing.{AreRowsOf, node_rows, installed}
use Rattle.beam_core.proofs.Located.{follows_then}

-- ---- rows over break spots as private rows

-- two runs of rows with the same count, process and signals
abbrev Same : Private → Private → Type 0
Same a b = (a.count ≡ b.count) × ((a.process ≡ b.process) × (a.sent ≡ b.sent))

-- rows over break spots that are as many private rows
abbrev AsMany : Code → Process → Private → Type 0
AsMany code p rows = Same rows (private_rows code rows.count p)

one_first : (code : Code) (k : ℕ) (p : Process) (o : Outcome) → is_running p.status ≡ true → outcome code p ≡ o → private_rows code (k + 1) p ≡ private_by (private_rows code k) p o
one_first code k p o r e =
    ap (λ n. private_rows code n p) (add-one k)
    ∙ (ap (λ b. cond b (private_by (private_rows code k) p (outcome code p)) (stops p after_row)) r ∙ ap (private_by (private_rows code k) p) e)

by_row : (code : Code) (rest : Process → Private) → ((q : Process) → AsMany code q (rest q)) → (p : Process) (o : Outcome) → is_running p.status ≡ true → outcome code p ≡ o
    → AsMany code p (private_by rest p o)
by_row code rest h p (makes q) r e =
    let one = sym (one_first code (rest q).count p (makes q) r e) in
    let k = h q in
    subst (Same (with_first_row (rest q))) one (ap (λ n. n + 1) k.0, k.1)
by_row code rest h p (sends q to signal) r e =
    let one = sym (one_first code (rest q).count p (sends q to signal) r e) in
    let k = h q in
    subst (Same (with_first_sending (record { to = to; signal = signal }) (rest q))) one
    (ap (λ n. n + 1) k.0, (k.1.0, ap (λ sent. record { to = to; signal = signal } ∷ sent) k.1.1))
by_row code rest h p (asks q native arity after) r e = (refl, (refl, refl))
by_row code rest h p (sleeps q n next) r e = (refl, (refl, refl))

as_many : (spots : List Place) (code : Code) (n : ℕ) (passes : Bool) (p : Process) → AsMany code p (private_to_spot spots passes code n p)
as_many spots code zero passes p = (refl, (refl, refl))
as_many spots code (suc n) passes p = go (is_running p.status) refl (not passes && is_at_spot spots p.goes) (as_many spots code n false)
  where
    go : (b : Bool) → is_running p.status ≡ b → (c : Bool) → ((q : Process) → AsMany code q (private_to_spot spots false code n q))
        → AsMany code p (cond b (cond c (stops p at_spot) (private_by (private_to_spot spots false code n) p (outcome code p))) (stops p after_row))
    go false r c h = (refl, (refl, refl))
    go true r true h = (refl, (refl, refl))
    go true r false h = by_row code (private_to_spot spots false code n) h p (outcome code p) r refl

-- ---- how the rows end

-- rows that end before a row of the node leave their process running
abbrev RunsBefore : Private → Type 0
RunsBefore rows = rows.end ≡ before_node_row → is_running rows.process.status ≡ true

runs_by : (rest : Process → Private) → ((q : Process) → RunsBefore (rest q)) → (p : Process) (o : Outcome) → is_running p.status ≡ true → RunsBefore (private_by rest p o)
runs_by rest h p (makes q) r = h q
runs_by rest h p (sends q to signal) r = h q
runs_by rest h p (asks q native arity after) r = λ e. r
runs_by rest h p (sleeps q n next) r = λ e. r

runs_before : (spots : List Place) (code : Code) (n : ℕ) (passes : Bool) (p : Process) → RunsBefore (private_to_spot spots passes code n p)
runs_before spots code zero passes p = λ e. cc
runs_before spots code (suc n) passes p = go (is_running p.status) refl (not passes && is_at_spot spots p.goes) (runs_before spots code n false)
  where
    go : (b : Bool) → is_running p.status ≡ b → (c : Bool) → ((q : Process) → RunsBefore (private_to_spot spots false code n q))
        → RunsBefore (cond b (cond c (stops p at_spot) (private_by (private_to_spot spots false code n) p (outcome code p))) (stops p after_row))
    go false r c h = λ e. cc
    go true r true h = λ e. cc
    go true r false h = runs_by (private_to_spot spots false code n) h p (outcome code p) r

-- ---- what the rows keep of their process

follows_by : (pid : ℕ) (name : Option (List ℕ)) (rest : Process → Private) → ((q : Process) → Follows pid name q → Follows pid name (rest q).process)
    → (p : Process) (o : Outcome) → Follows pid name p → Comes p.pid p.name o → Follows pid name (private_by rest p o).process
follows_by pid name rest h p (makes q) f c = h q (follows_then pid name p q f c)
follows_by pid name rest h p (sends q to signal) f c = h q (follows_then pid name p q f (on p.pid p.name q c))
follows_by pid name rest h p (asks q native arity after) f c = f
follows_by pid name rest h p (sleeps q n next) f c = f

rows_follow : (pid : ℕ) (name : Option (List ℕ)) (spots : List Place) (code : Code) (n : ℕ) (passes : Bool) (p : Process) → Follows pid name p
    → Follows pid name (private_to_spot spots passes code n p).process
rows_follow pid name spots code zero passes p f = f
rows_follow pid name spots code (suc n) passes p f = go (is_running p.status) refl (not passes && is_at_spot spots p.goes) (rows_follow pid name spots code n false)
  where
    go : (b : Bool) → is_running p.status ≡ b → (c : Bool) → ((q : Process) → Follows pid name q → Follows pid name (private_to_spot spots false code n q).process)
        → Follows pid name (cond b (cond c (stops p at_spot) (private_by (private_to_spot spots false code n) p (outcome code p))) (stops p after_row)).process
    go false r c h = f
    go true r true h = f
    go true r false h =
        follows_by pid name (private_to_spot spots false code n) h p (outcome code p) f (outcome_comes p.pid p.name code p (refl, (refl, runs_on p.status r)))

-- a process with another name, and other signals in transit to it
pub having_follows : (pid : ℕ) (name m : Option (List ℕ)) (transit : List Signal) (r : Process) → Follows pid name r → Follows pid m (with_name_and_transit m transit r)
having_follows pid name m transit r f = go r.status refl
  where
    nameless : (reason value : TermValue) → r.status ≡ Ended reason value → (n : List ℕ) → r.name ≡ Some n → m ≡ Some n
    nameless reason value e n h = none (sym (ap (λ (p : Process). p.name) (f.1.1 reason value e)) ∙ h)
      where
        none : None ≡ Some n → m ≡ Some n
        none e = cc

    lives : is_ended r.status ≡ false → Follows pid m (record r { name = m; transit = transit })
    lives e = (f.0, ((λ n h. h), λ reason value h. absurd (over reason value (sym e ∙ ap is_ended h))))
      where
        over : (reason value : TermValue) → false ≡ is_ended (Ended reason value) → ⊥
        over reason value e = cc

    go : (status : Status) → r.status ≡ status → Follows pid m (cond (is_ended r.status) r (record r { name = m; transit = transit }))
    go Running e = subst (λ s. Follows pid m (cond (is_ended s) r (record r { name = m; transit = transit }))) (sym e) (lives (ap is_ended e))
    go Waiting e = subst (λ s. Follows pid m (cond (is_ended s) r (record r { name = m; transit = transit }))) (sym e) (lives (ap is_ended e))
    go (Ended reason value) e =
        subst (λ s. Follows pid m (cond (is_ended s) r (record r { name = m; transit = transit }))) (sym e) (f.0, (nameless reason value e, f.1.1))

-- ---- rows of a process that is still the one with which they began

having_pid : (name : Option (List ℕ)) (transit : List Signal) (p : Process) → (with_name_and_transit name transit p).pid ≡ p.pid
having_pid name transit p = elim (is_ended p.status) as (λ b. (cond {A = Process} b p (record p { name = name; transit = transit })).pid ≡ p.pid) [ true ↦ refl | false ↦ refl ]

module _ (s : State) (pid : ℕ) (rows : Private) (h : AreRowsOf s pid rows) where
  pub now_lives : is_ended h.now.status ≡ false
  now_lives = ap (λ (p : Process). is_ended p.status) h.still ∙ (ap is_ended (having_status h.now.name h.now.transit h.first) ∙ runs_on h.first.status h.runs)

  pub process_follows : Follows h.now.pid h.first.name rows.process
  process_follows =
      let f : Follows h.first.pid h.first.name h.first = on h.first.pid h.first.name h.first (refl, (refl, runs_on h.first.status h.runs)) in
      let same : h.now.pid ≡ h.first.pid = ap (λ (p : Process). p.pid) h.still ∙ having_pid h.now.name h.now.transit h.first in
      subst (λ (rows : Private). Follows h.now.pid h.first.name rows.process) (sym h.done)
      (subst (λ n. Follows n h.first.name (private_to_spot h.spots h.passes s.code h.limit h.first).process) (sym same)
      (rows_follow h.first.pid h.first.name h.spots s.code h.limit h.passes h.first f))

  pub process_runs : rows.end ≡ before_node_row → is_running rows.process.status ≡ true
  process_runs = subst RunsBefore (sym h.done) (runs_before h.spots s.code h.limit h.passes h.first)

  -- the rows are the node's next rows
  pub rows_next : (m : ℕ) → steps s pid (rows.count + m) ≡ before rows.count (steps (after_private s pid (with_name_and_transit_of h.now rows)) pid m)
  rows_next m =
      let alone : Private = private_rows s.code rows.count h.first in
      let same : Same rows alone = subst (λ (rows : Private). Same rows (private_rows s.code rows.count h.first)) (sym h.done) (as_many h.spots s.code h.limit h.passes h.first) in
      from alone.count alone.process alone.sent same (further_later s s.code pid rows.count m h.first h.now refl h.there h.still (runs_on h.first.status h.runs))
    where
      -- the node after these rows: with the process that they made, and the signals that they sent posted
      given : Process → List Sent → State
      given p sent =
          let q : Process = with_name_and_transit h.now.name h.now.transit p in
          record s { processes = hearing_by pid q.status (posted_all (put_process s pid q).processes sent) }

      from : (count : ℕ) (p : Process) (sent : List Sent) → (rows.count ≡ count) × ((rows.process ≡ p) × (rows.sent ≡ sent))
          → steps s pid (count + m) ≡ before count (steps (given p sent) pid m)
          → steps s pid (rows.count + m) ≡ before rows.count (steps (after_private s pid (with_name_and_transit_of h.now rows)) pid m)
      from count p sent e k =
          subst (λ c. steps s pid (c + m) ≡ before c (steps (after_private s pid (with_name_and_transit_of h.now rows)) pid m)) (sym e.0)
          (subst (λ p. steps s pid (count + m) ≡ before count (steps (given p rows.sent) pid m)) (sym e.1.0)
          (subst (λ sent. steps s pid (count + m) ≡ before count (steps (given p sent) pid m)) (sym e.1.1) k))

  -- the node after the rows and the node's row preserves what every `Steps` preserves
  pub rows_keep : (P : State → Type 0) → ((s : State) (pid n : ℕ) → P s → P (next s (Steps pid n)).state) → P s → P (installed s pid (with_name_and_transit_of h.now rows)).state
  rows_keep P keeps p =
      let count : ℕ = rows.count + node_rows rows.end in
      subst P (steps_state s pid count ∙ ap (λ (r : Rows). r.state) (rows_next (node_rows rows.end))) (keeps s pid count p)

  -- the node after the rows, before the node's row, preserves what every `Steps` preserves
  pub rows_alone_keep : (P : State → Type 0) → ((s : State) (pid n : ℕ) → P s → P (next s (Steps pid n)).state) → P s → P (after_private s pid (with_name_and_transit_of h.now rows))
  rows_alone_keep P keeps p =
      let count : ℕ = rows.count + 0 in
      subst P (steps_state s pid count ∙ ap (λ (r : Rows). r.state) (rows_next 0)) (keeps s pid count p)
