-- The rows of the process of a number.
use Rattle.std.proofs.Common.{◌≡◌, ℕ, zero, suc, ◌+◌, ◌<◌, Bool, true, false, cond, List, [], refl, sym, ap, subst, ◌∙◌, arith, add-one, true≢false, Option, Some, None, Ok, Err, option_map}
use Rattle.std.specs.declared.alloc.AllocError.{AllocError}
use Rattle.std.proofs.lemmas.Option.{same_Some}
use Rattle.beam_term.specs.Prelude.{TermValue}
use Rattle.beam_model.specs.Prelude.{Place}
use Rattle.beam_machine.specs.declared.event.Then.{Then}
use Rattle.beam_machine.specs.declared.event.Then.TheVariants.{GoesOn, Waits as WaitsThen}
use Rattle.beam_machine.specs.declared.process.Status.{Status}
use Rattle.beam_machine.specs.declared.process.Status.TheVariants.{Running}
use Rattle.beam_machine.specs.Prelude.{Code, Process, ended, is_running, is_ended, then_of, makes, outcome, State, process_of, with_process, and_one, halting, done_by, running, row, IsLoud}
use Rattle.beam_laws.proofs.Hearing.{none_hear}
use Rattle.beam_laws.proofs.Numbered.{put_same, put_put, put_here}
use Rattle.beam_laws.proofs.Follows.{Follows, Comes, on, outcome_comes}
use Rattle.beam_rows.specs.declared.request.Request.{Request}
use Rattle.beam_rows.specs.declared.run.StopReason.{StopReason}
use Rattle.beam_rows.specs.declared.run.StopReason.TheVariants.{AtLimit, Waits, Ends, Asks, AtSpot, Refused}
use Rattle.beam_rows.specs.Prelude.{asked, can_ask, LeadsTo, ClearRows, Halts, is_stopped, passes_after}
use Rattle.beam_state.specs.Prelude.{Responds, ending, Parts, node, then_at, with_processes}
use Rattle.beam_state.proofs.Responding.{runs_there}
use Rattle.beam_rows.proofs.Clearing.{never_stops}
use Rattle.beam_core.specs.Halt.{rows_done, rows_stopped}
use Rattle.beam_core.specs.Rows.{CanAsk, PrivateRows, RowsAre, StopsNext}
use Rattle.beam_rows.proofs.AskedLoud.{asked_loud}
use Rattle.beam_core.proofs.Ending.{ended_loud}
use Rattle.beam_core.proofs.Stepping.{halts_more, halts_row, halts_stop, one_halts}

-- ---- one process of the node

-- putting a process in its own place changes nothing
same_put : (s : Parts) (pid : ℕ) (p : Process) → process_of s.processes pid ≡ Some p → with_processes s (with_process s.processes pid p) ≡ s
same_put s pid p e = ap (λ ps. with_processes s ps) (put_same s.processes pid p e)

-- ---- private rows leave their process the pid, and the name or none

pub follows_then : (pid : ℕ) (name : Option (List ℕ)) (p q : Process) → Follows pid name p → Follows p.pid p.name q → Follows pid name q
follows_then pid name p q h k = (k.0 ∙ h.0, ((λ n e. h.1.0 n (k.1.0 n e)), k.1.1))

row_follows : (code : Code) (p q : Process) → p.status ≡ Running → outcome code p ≡ makes q → Follows p.pid p.name q
row_follows code p q runs e = subst (Comes p.pid p.name) e (outcome_comes p.pid p.name code p (refl, (refl, ap is_ended runs)))

follows_on : (code : Code) (pid : ℕ) (name : Option (List ℕ)) (n : ℕ) (p q : Process) → Follows pid name p → LeadsTo code n p q → Follows pid name q
follows_on code pid name zero p q k h = subst (Follows pid name) (sym h) k
follows_on code pid name (suc n) p q k h =
    follows_on code pid name n h.1.0 q (follows_then pid name p h.1.0 k (row_follows code p h.1.0 h.0 h.1.1.0)) h.1.1.1

pub leads_follows : (code : Code) (n : ℕ) (p q : Process) → p.status ≡ Running → LeadsTo code n p q → Follows p.pid p.name q
leads_follows code n p q runs h = follows_on code p.pid p.name n p q (on p.pid p.name p (refl, (refl, ap is_ended runs))) h

-- ---- private rows of the node

-- the node with another process of that number
with_at : Parts → ℕ → Process → Parts
with_at s pid q = with_processes s (with_process s.processes pid q)

found_running : (o : Option Process) (p : Process) → o ≡ Some p → p.status ≡ Running → running o ≡ Some p
found_running o p e runs = ap running e ∙ at (is_running p.status) (ap is_running runs)
  where
    at : (b : _) → b ≡ true → cond {A = Option Process} b (Some p) None ≡ Some p
    at true h = refl
    at false h = cc

-- rows that lead to a process that hasn't ended begin at one that hasn't ended
leads_lives : (code : Code) (n : ℕ) (p q : Process) → LeadsTo code n p q → is_ended q.status ≡ false → is_ended p.status ≡ false
leads_lives code zero p q h lives = ap (λ (r : Process). is_ended r.status) (sym h) ∙ lives
leads_lives code (suc n) p q h lives = ap is_ended h.0

leads_halts : (code : Code) (spots : List Place) (passes : Bool) (n : ℕ) (s : Parts) (pid : ℕ) (p q : Process) → process_of s.processes pid ≡ Some p → is_ended q.status ≡ false
    → LeadsTo code n p q → ClearRows code spots passes n p → halting spots passes (node code s) pid n ≡ rows_done n (node code (with_at s pid q))
unfolding with_at
leads_halts code spots passes zero s pid p q e lives h clear =
    ap (λ (t : Parts). rows_done 0 (node code t)) (sym (ap (λ (r : Process). with_processes s (with_process s.processes pid r)) h ∙ same_put s pid p e))
leads_halts code spots passes (suc n) s pid p q e lives h clear =
    let r : Process = h.1.0 in
    let mid : Parts = with_processes s (with_process s.processes pid r) in
    let done : row (node code s) pid p ≡ node code mid =
    ap (λ o. done_by (node code s) pid o) h.1.1.0
    ∙ ap (λ ps. node code (with_processes s ps)) (none_hear pid r.status (with_process s.processes pid r) (leads_lives code n r q h.1.1.1 lives)) in
    let rest : halting spots false (node code mid) pid n ≡ rows_done n (node code (with_processes mid (with_process mid.processes pid q))) =
    leads_halts code spots false n mid pid r q (put_here s.processes pid p r e) lives h.1.1.1 (clear.1 r h.1.1.0) in
    halts_row spots passes (node code s) (node code mid) pid p n (found_running (process_of s.processes pid) p e h.0) clear.0 done
    ∙ (ap and_one rest
    ∙ (ap (λ l. rows_done (n + 1) (node code (with_processes s l))) (put_put s.processes pid r q)
    ∙ rw add-one refl))

-- ---- where private rows end

-- the process hasn't ended
pub halts_lives : (code : Code) (spots : List Place) (passes : Bool) (n count : ℕ) (stop : StopReason) (q : Process) → Halts code spots passes n count stop q → is_ended q.status ≡ false
halts_lives code spots passes n count AtLimit q h = ap is_ended h.1
halts_lives code spots passes n count Waits q h = ap is_ended h.1
halts_lives code spots passes n count (Ends reason value) q h = ap is_ended h.0.1
halts_lives code spots passes n count (Asks request) q h = ap is_ended h.0.1
halts_lives code spots passes n count AtSpot q h = ap is_ended h.1
halts_lives code spots passes n count Refused q h = ap is_ended h.1

-- what is known after `count` private rows, of a process that is still there
record Ran (code : Code) (spots : List Place) (passes : Bool) (pid n : ℕ) (old : Parts) (count : ℕ) (stop : StopReason) (new : Parts) : Type 0 where
  q : Process
  there : process_of new.processes pid ≡ Some q
  done : halting spots passes (node code old) pid count ≡ rows_done count (node code new)
  stops : Halts code spots passes n count stop q
  some : count ≡ 0 → q.status ≡ Running

ran_so : (code : Code) (spots : List Place) (passes : Bool) (pid n : ℕ) (old : Parts) (count : ℕ) (stop : StopReason) (new : Parts) → then_at old.processes pid ≡ Some GoesOn
    → PrivateRows code spots passes pid n old count stop new → Ran code spots passes pid n old count stop new
unfolding with_at
ran_so code spots passes pid n old count stop new runs h =
    let there = runs_there old.processes pid runs in
    let p : Process = there.0 in
    let made = h p there.1.0 in
    let q : Process = made.0 in
    let is : new ≡ with_processes old (with_process old.processes pid q) = made.1.1.1.1 in
    let lives : is_ended q.status ≡ false = halts_lives code spots passes n count stop q made.1.1.1.0 in
    record {
      q = q;
      there = ap (λ (s : Parts). process_of s.processes pid) is ∙ put_here old.processes pid p q there.1.0;
      done = leads_halts code spots passes count old pid p q there.1.0 lives made.1.0 made.1.1.0 ∙ ap (λ (s : Parts). rows_done count (node code s)) (sym is);
      stops = made.1.1.1.0;
      some = none_leads count p q there.1.1 made.1.0;
    }
  where
    none_leads : (count : ℕ) (p q : Process) → p.status ≡ Running → LeadsTo code count p q → count ≡ 0 → q.status ≡ Running
    none_leads zero p q runs h e = ap (λ (r : Process). r.status) h ∙ runs
    none_leads (suc n) p q runs h e = absurd (omega arith)

stands : (ps : List Process) (pid : ℕ) (q : Process) → process_of ps pid ≡ Some q → then_at ps pid ≡ Some (then_of q.status)
stands ps pid q e = ap (option_map (λ p. then_of p.status)) e

running_at : (ps : List Process) (pid : ℕ) (q : Process) → process_of ps pid ≡ Some q → q.status ≡ Running → then_at ps pid ≡ Some GoesOn
running_at ps pid q e runs = stands ps pid q e ∙ ap (λ s. Some (then_of s)) runs

pub rows_at_limit : (code : Code) (spots : List Place) (passes : Bool) (pid n : ℕ) (old : Parts) (count : ℕ) (new : Parts) → then_at old.processes pid ≡ Some GoesOn → 0 < n
    → PrivateRows code spots passes pid n old count AtLimit new → RowsAre code spots passes pid n old count (Ok (Some GoesOn)) new
rows_at_limit code spots passes pid n old count new runs some h =
    let r = ran_so code spots passes pid n old count AtLimit new runs h in
    let all : count ≡ n = r.stops.0 in
    (omega arith, omega arith, r.done, running_at new.processes pid r.q r.there r.stops.1)

pub limit_done : (code : Code) (spots : List Place) (passes : Bool) (pid n : ℕ) (old : Parts) (count : ℕ) (new : Parts) → then_at old.processes pid ≡ Some GoesOn
    → PrivateRows code spots passes pid n old count AtLimit new
    → (halting spots passes (node code old) pid count ≡ rows_done count (node code new)) × (then_at new.processes pid ≡ Some GoesOn)
limit_done code spots passes pid n old count new runs h =
    let r = ran_so code spots passes pid n old count AtLimit new runs h in
    (r.done, running_at new.processes pid r.q r.there r.stops.1)

-- rows after which the process doesn't run are at least one
some_done : (count : ℕ) (s : Status) → (count ≡ 0 → s ≡ Running) → is_running s ≡ false → 0 < count
some_done zero s k halts = absurd (true≢false (sym (ap is_running (k refl)) ∙ halts))
some_done (suc n) s k halts = omega arith

pub rows_after_one : (code : Code) (spots : List Place) (passes : Bool) (pid n : ℕ) (old : Parts) (count : ℕ) (new : Parts) → then_at old.processes pid ≡ Some GoesOn
    → PrivateRows code spots passes pid n old count Waits new → RowsAre code spots passes pid n old count (Ok (Some WaitsThen)) new
rows_after_one code spots passes pid n old count new runs h =
    let r = ran_so code spots passes pid n old count Waits new runs h in (
      some_done count r.q.status r.some (ap is_running r.stops.1),
      r.stops.0,
      r.done,
      stands new.processes pid r.q r.there ∙ ap (λ s. Some (then_of s)) r.stops.1,
    )

pub rows_refused : (code : Code) (spots : List Place) (passes : Bool) (pid n : ℕ) (old : Parts) (count : ℕ) (x : AllocError) (new : Parts) → then_at old.processes pid ≡ Some GoesOn
    → PrivateRows code spots passes pid n old count Refused new → RowsAre code spots passes pid n old count (Err x) new
rows_refused code spots passes pid n old count x new runs h =
    let r = ran_so code spots passes pid n old count Refused new runs h in
    (r.stops.0, r.done, running_at new.processes pid r.q r.there r.stops.1, subst (IsLoud code) (sym r.there) r.stops.2)

pub rows_at_spot : (code : Code) (spots : List Place) (passes : Bool) (pid n : ℕ) (old : Parts) (count : ℕ) (new : Parts) → then_at old.processes pid ≡ Some GoesOn
    → PrivateRows code spots passes pid n old count AtSpot new → RowsAre code spots passes pid n old count (Ok None) new
rows_at_spot code spots passes pid n old count new runs h =
    let r = ran_so code spots passes pid n old count AtSpot new runs h in
    (r.stops.0, r.done, running_at new.processes pid r.q r.there r.stops.1, subst (StopsNext spots (passes_after passes count)) (sym r.there) r.stops.2)

-- without break spots none is ever the next row
pub never_at_spot : (code : Code) (spots : List Place) (passes : Bool) (pid n : ℕ) (old : Parts) (count : ℕ) (new : Parts) → then_at old.processes pid ≡ Some GoesOn
    → PrivateRows code [] passes pid n old count AtSpot new → ⊥
never_at_spot code spots passes pid n old count new runs h =
    let r = ran_so code [] passes pid n old count AtSpot new runs h in
    true≢false (sym r.stops.2 ∙ never_stops (passes_after passes count) r.q)

-- a process that stops before its next row, where more rows were asked for
pub halts_before : (spots : List Place) (passes : Bool) (pid : ℕ) (s t : State) (count m : ℕ) → count < m → halting spots passes s pid count ≡ rows_done count t
    → then_at t.processes pid ≡ Some GoesOn → StopsNext spots (passes_after passes count) (process_of t.processes pid) → halting spots passes s pid m ≡ rows_stopped count t
halts_before spots passes pid s t count m l e runs stops =
    let there = runs_there t.processes pid runs in
    let stopped : is_stopped spots (passes_after passes count) there.0 ≡ true = subst (StopsNext spots (passes_after passes count)) there.1.0 stops in
    halts_stop count m spots passes pid s t there.0 l e (found_running (process_of t.processes pid) there.0 there.1.0 there.1.1) stopped

-- ---- the node's row after private rows

pub asks_runs : (code : Code) (spots : List Place) (passes : Bool) (pid n : ℕ) (old : Parts) (count : ℕ) (request : Request) (new : Parts) → then_at old.processes pid ≡ Some GoesOn
    → PrivateRows code spots passes pid n old count (Asks request) new → then_at new.processes pid ≡ Some GoesOn
asks_runs code spots passes pid n old count request new runs h =
    let r = ran_so code spots passes pid n old count (Asks request) new runs h in
    running_at new.processes pid r.q r.there r.stops.0.1

pub asks_can : (code : Code) (spots : List Place) (passes : Bool) (pid n : ℕ) (old : Parts) (count : ℕ) (request : Request) (new : Parts) → then_at old.processes pid ≡ Some GoesOn
    → PrivateRows code spots passes pid n old count (Asks request) new → CanAsk pid request new.processes
asks_can code spots passes pid n old count request new runs h =
    let r = ran_so code spots passes pid n old count (Asks request) new runs h in
    λ p found. subst (λ p. can_ask p request ≡ true) (same_Some r.q p (sym r.there ∙ found)) r.stops.0.3

pub rows_asked : (code : Code) (spots : List Place) (passes : Bool) (pid n : ℕ) (old : Parts) (count : ℕ) (request : Request) (mid new : Parts) (after : Then) → then_at old.processes pid ≡ Some GoesOn
    → PrivateRows code spots passes pid n old count (Asks request) mid → Responds mid pid (λ p. asked p request) (Ok after) new
    → RowsAre code spots passes pid n old (count + 1) (Ok (Some after)) new
rows_asked code spots passes pid n old count request mid new after runs h answered =
    let r = ran_so code spots passes pid n old count (Asks request) mid runs h in
    let less : count < n = r.stops.0.0 in
    let asks : outcome code r.q ≡ asked r.q request = r.stops.0.2 in
    let is : row (node code mid) pid r.q ≡ node code new = ap (λ o. done_by (node code mid) pid o) asks ∙ answered.0 code r.q r.there in
    let one : halting spots (passes_after passes count) (node code mid) pid 1 ≡ rows_done 1 (node code new) =
    one_halts spots (passes_after passes count) (node code mid) (node code new) pid r.q (found_running (process_of mid.processes pid) r.q r.there r.stops.0.1) r.stops.1 is in
    (omega arith, omega arith, halts_more count 1 spots passes pid (node code old) (node code mid) (node code new) r.done one, answered.1)

pub rows_unanswered : (code : Code) (spots : List Place) (passes : Bool) (pid n : ℕ) (old : Parts) (count : ℕ) (request : Request) (mid new : Parts) (x : AllocError) → then_at old.processes pid ≡ Some GoesOn
    → PrivateRows code spots passes pid n old count (Asks request) mid → Responds mid pid (λ p. asked p request) (Err x) new
    → RowsAre code spots passes pid n old count (Err x) new
rows_unanswered code spots passes pid n old count request mid new x runs h same =
    let r = ran_so code spots passes pid n old count (Asks request) mid runs h in
    subst (λ s. RowsAre code spots passes pid n old count (Err x) s) (sym same)
    (r.stops.0.0, r.done, running_at mid.processes pid r.q r.there r.stops.0.1, subst (IsLoud code) (sym r.there) (asked_loud code r.q request r.stops.0.2 r.stops.0.3))

-- ---- the row that ends the process, after private rows

pub ends_runs : (code : Code) (spots : List Place) (passes : Bool) (pid n : ℕ) (old : Parts) (count : ℕ) (reason value : TermValue) (new : Parts) → then_at old.processes pid ≡ Some GoesOn
    → PrivateRows code spots passes pid n old count (Ends reason value) new → then_at new.processes pid ≡ Some GoesOn
ends_runs code spots passes pid n old count reason value new runs h =
    let r = ran_so code spots passes pid n old count (Ends reason value) new runs h in
    running_at new.processes pid r.q r.there r.stops.0.1

pub rows_ended : (code : Code) (spots : List Place) (passes : Bool) (pid n : ℕ) (old : Parts) (count : ℕ) (reason value : TermValue) (mid new : Parts) (after : Then) → then_at old.processes pid ≡ Some GoesOn
    → PrivateRows code spots passes pid n old count (Ends reason value) mid → Responds mid pid (ending reason value) (Ok after) new
    → RowsAre code spots passes pid n old (count + 1) (Ok (Some after)) new
rows_ended code spots passes pid n old count reason value mid new after runs h answered =
    let r = ran_so code spots passes pid n old count (Ends reason value) mid runs h in
    let less : count < n = r.stops.0.0 in
    let ends : outcome code r.q ≡ makes (ended r.q reason value) = r.stops.0.2 in
    let is : row (node code mid) pid r.q ≡ node code new = ap (λ o. done_by (node code mid) pid o) ends ∙ answered.0 code r.q r.there in
    let one : halting spots (passes_after passes count) (node code mid) pid 1 ≡ rows_done 1 (node code new) =
    one_halts spots (passes_after passes count) (node code mid) (node code new) pid r.q (found_running (process_of mid.processes pid) r.q r.there r.stops.0.1) r.stops.1 is in
    (omega arith, omega arith, halts_more count 1 spots passes pid (node code old) (node code mid) (node code new) r.done one, answered.1)

pub rows_not_ended : (code : Code) (spots : List Place) (passes : Bool) (pid n : ℕ) (old : Parts) (count : ℕ) (reason value : TermValue) (mid new : Parts) (x : AllocError) → then_at old.processes pid ≡ Some GoesOn
    → PrivateRows code spots passes pid n old count (Ends reason value) mid → Responds mid pid (ending reason value) (Err x) new
    → RowsAre code spots passes pid n old count (Err x) new
rows_not_ended code spots passes pid n old count reason value mid new x runs h same =
    let r = ran_so code spots passes pid n old count (Ends reason value) mid runs h in
    subst (λ s. RowsAre code spots passes pid n old count (Err x) s) (sym same)
    (r.stops.0.0, r.done, running_at mid.processes pid r.q r.there r.stops.0.1, subst (IsLoud code) (sym r.there) (ended_loud code r.q reason value r.stops.0.2))
