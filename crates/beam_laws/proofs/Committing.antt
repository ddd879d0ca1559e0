-- A slice that is committed later.
use Rattle.std.proofs.Common.{◌≡◌, ℕ, ◌+◌, Bool, true, false, cond, not, List, ◌++◌, refl, sym, ap, subst, ◌∙◌, arith, ◌&&◌, Option, Some, None, option_map}
use Rattle.beam_machine.specs.declared.debug.DebugEvent.TheVariants.{Node as NodeEvent}
use Rattle.beam_machine.specs.declared.debug.DebugReply.TheVariants.{Held, Node}
use Rattle.beam_machine.specs.declared.event.Refused.TheVariants.{NotReady, Stopped}
use Rattle.beam_machine.specs.declared.event.Reply.TheVariants.{Ran}
use Rattle.beam_machine.specs.declared.process.Signal.{Signal}
use Rattle.beam_machine.specs.Prelude.{Debugged, DebugNext, is_among, is_at_spot, with_pid, Halting, no_rows, and_one, halts_or, halting, refuses, replies, after_rows, halted, halts, debug_steps, debug_next, Process, is_running, is_waiting, is_ended, then_of, State, process_of, with_process, alive, live_process, row, running, row_and, Private, before_node_row, at_spot, private_to_spot}
use Rattle.beam_machine.specs.declared.event.Event.TheVariants as event
use Rattle.beam_model.specs.Prelude.{Place}
use Rattle.beam_machine.specs.Next.{steps}
use Rattle.beam_laws.specs.Prelude.{IsStill, with_name_and_transit, with_signals, posted_all, after_private, with_name_and_transit_of, signals_to, Origin, slice_of, CanCommit, committed, and_next_row, passes_after, before_halting}
use Rattle.beam_laws.proofs.Ending.{runs_on}
use Rattle.beam_laws.proofs.Hearing.{as_before, hearing_here}
use Rattle.beam_laws.proofs.Numbered.{put_here, alive_of}
use Rattle.beam_laws.proofs.Posting.{all_posted_at}
use Rattle.beam_laws.proofs.Refusing.{steps_longer, stays}
use Rattle.beam_laws.proofs.Slices.{having_status, running_waits}
use Rattle.beam_laws.proofs.Spots.{spot_later}
use Rattle.beam_laws.proofs.Halts.{halting_goes_on}
use Rattle.beam_laws.proofs.SpotEnds.{slice_ends}

-- ---- the process in the node

having_goes : (name : Option (List ℕ)) (transit : List Signal) (p : Process) → (with_name_and_transit name transit p).goes ≡ p.goes
having_goes name transit p = elim (is_ended p.status) as (λ b. (cond {A = Process} b p (record p { name = name; transit = transit })).goes ≡ p.goes) [ true ↦ refl | false ↦ refl ]

-- the process after private rows, which may have sent signals to itself
own_after : (s : State) (pid : ℕ) (q : Process) (rows : Private) → process_of s.processes pid ≡ Some q
    → process_of (after_private s pid rows).processes pid ≡ Some (with_signals (signals_to pid rows.sent) rows.process)
own_after s pid q rows e =
    let signals : List Signal = signals_to pid rows.sent in
    let there : process_of (posted_all (with_process s.processes pid rows.process) rows.sent) pid ≡ Some (with_signals signals rows.process) =
    all_posted_at (with_process s.processes pid rows.process) pid rows.sent ∙ ap (option_map (with_signals signals)) (put_here s.processes pid q rows.process e) in
    hearing_here pid rows.process.status (posted_all (with_process s.processes pid rows.process) rows.sent) (with_signals signals rows.process) there
    (as_before (λ p. p.status) signals rows.process refl)

-- the process after the slice's rows: it stands and goes as the rows made it
abbrev Reaches : State → ℕ → Process → Type 0
Reaches t pid p = (x : Process) × (process_of t.processes pid ≡ Some x) × (x.status ≡ p.status) × (x.goes ≡ p.goes)

reached : (s : State) (pid : ℕ) (q : Process) (rows : Private) → process_of s.processes pid ≡ Some q → Reaches (committed s pid q rows).state pid rows.process
reached s pid q rows e =
    let given : Process = with_name_and_transit q.name q.transit rows.process in
    let signals : List Signal = signals_to pid rows.sent in
    let x : Process = with_signals signals given in (
      x,
      own_after s pid q (with_name_and_transit_of q rows) e,
      having_status given.name (given.transit ++ signals) given ∙ having_status q.name q.transit rows.process,
      having_goes given.name (given.transit ++ signals) given ∙ having_goes q.name q.transit rows.process,
    )

still_runs : (p q : Process) → IsStill p q → is_running p.status ≡ true → is_running q.status ≡ true
still_runs p q still runs = ap (λ x. is_running x.status) still ∙ (ap is_running (having_status q.name q.transit p) ∙ runs)

-- ---- events

further : (d : Debugged) (o : Origin) (n m : ℕ) (q : Process) → CanCommit d o q → is_ended o.process.status ≡ false
    → halting d.spots (is_among o.pid d.passing) d.node o.pid ((slice_of o n).count + m)
    ≡ before_halting (slice_of o n).count (halting d.spots (passes_after (slice_of o n).count o.passes) (committed d.node o.pid q (slice_of o n)).state o.pid m)
further d o n m q (at, (still, held, passes), code, spots) lives =
    let rows : Private = slice_of o n in
    let over : private_to_spot d.spots o.passes d.node.code n q ≡ with_name_and_transit_of q rows =
    ap (λ c. private_to_spot d.spots o.passes c n q) code ∙ (ap (λ x. private_to_spot x o.passes o.code n q) spots ∙ spot_later o.spots o.passes o.code n o.process q still) in
    ap (λ b. halting d.spots b d.node o.pid (rows.count + m)) passes
    ∙ subst (λ (r : Private). halting d.spots o.passes d.node o.pid (r.count + m) ≡ before_halting r.count (halting d.spots (passes_after r.count o.passes) (after_private d.node o.pid r) o.pid m))
    over
    (halting_goes_on d.node d.spots o.passes o.pid n m q at (ap (λ x. is_ended x.status) still ∙ (ap is_ended (having_status q.name q.transit o.process) ∙ lives)))

-- an event of rows of a process that runs and isn't held
steps_run : (d : Debugged) (pid n : ℕ) (q : Process) → process_of d.node.processes pid ≡ Some q → is_running q.status ≡ true → is_among pid d.held ≡ false
    → debug_next d (NodeEvent (event.Steps pid n)) ≡ halts d pid (halting d.spots (is_among pid d.passing) d.node pid n)
steps_run d pid n q at runs free =
    let all : DebugNext = halts d pid (halting d.spots (is_among pid d.passing) d.node pid n) in
    let live : live_process d.node.processes pid ≡ Some q = ap alive at ∙ alive_of q (runs_on q.status runs) in
    ap (debug_steps d pid n) live
    ∙ (ap (λ b. cond b (refuses d Stopped) (cond (is_waiting q.status) (refuses d NotReady) all)) free
    ∙ ap (λ b. cond b (refuses d NotReady) all) (running_waits q.status runs))

counts : (d : Debugged) (o : Origin) (n m : ℕ) (q : Process) → CanCommit d o q → is_running o.process.status ≡ true
    → debug_next d (NodeEvent (event.Steps o.pid ((slice_of o n).count + m)))
    ≡ halts d o.pid (before_halting (slice_of o n).count (halting d.spots (passes_after (slice_of o n).count o.passes) (committed d.node o.pid q (slice_of o n)).state o.pid m))
counts d o n m q h runs =
    steps_run d o.pid ((slice_of o n).count + m) q h.0 (still_runs o.process q h.1.0 runs) h.1.1 ∙ ap (halts d o.pid) (further d o n m q h (runs_on o.process.status runs))

halts_at : (d : Debugged) (pid : ℕ) (h : Halting) (x : Process) → process_of h.rows.state.processes pid ≡ Some x → halts d pid h ≡ halted d pid h (Some x)
halts_at d pid h x e = ap (halted d pid h) e

all_rows : (d : Debugged) (o : Origin) (n : ℕ) (q : Process) → CanCommit d o q → is_running o.process.status ≡ true
    → debug_next d (NodeEvent (event.Steps o.pid (slice_of o n).count))
    ≡ replies (after_rows d o.pid (committed d.node o.pid q (slice_of o n))) (Node (Ran (slice_of o n).count (then_of (slice_of o n).process.status)))
all_rows d o n q h runs =
    let rows : Private = slice_of o n in
    let t : State = (committed d.node o.pid q rows).state in
    let none : rows.count + 0 ≡ rows.count = omega arith in
    let whole : ℕ → Halting = λ k. record { rows = record { count = k; state = t }; stopped = false } in
    let r = reached d.node o.pid q rows h.0 in
    ap (λ k. debug_next d (NodeEvent (event.Steps o.pid k))) (sym none)
    ∙ (counts d o n 0 q h runs
    ∙ (ap (λ k. halts d o.pid (whole k)) none
    ∙ (halts_at d o.pid (whole rows.count) r.0 r.1
    ∙ ap (λ status. replies (after_rows d o.pid (committed d.node o.pid q rows)) (Node (Ran rows.count (then_of status)))) r.2)))

-- the next row of a process that runs, or the break spot before it
next_halts : (spots : List Place) (passes stopped : Bool) (t : State) (pid : ℕ) (p x : Process) → process_of t.processes pid ≡ Some x → x.status ≡ p.status → x.goes ≡ p.goes
    → is_running p.status ≡ true → (not passes && is_at_spot spots p.goes) ≡ stopped
    → (running (process_of t.processes pid) ≡ Some x) × (halting spots passes t pid 1 ≡ cond stopped (no_rows t true) (and_one (no_rows (row t pid x) false)))
next_halts spots passes stopped t pid p x e status goes runs so =
    let run : running (process_of t.processes pid) ≡ Some x = ap running e ∙ ap (λ b. cond b (Some x) None) (ap is_running status ∙ runs) in (
      run,
      ap (halts_or (λ u. no_rows u false) spots passes t pid) run
          ∙ ap (λ b. cond {A = Halting} b (no_rows t true) (and_one (no_rows (row t pid x) false))) (ap (λ g. not passes && is_at_spot spots g) goes ∙ so),
    )

stopped_at_spot : (d : Debugged) (o : Origin) (n : ℕ) (q : Process) → CanCommit d o q → is_running o.process.status ≡ true → (slice_of o n).end ≡ at_spot
    → debug_next d (NodeEvent (event.Steps o.pid ((slice_of o n).count + 1)))
    ≡ replies (record (after_rows d o.pid (committed d.node o.pid q (slice_of o n))) { held = with_pid o.pid d.held }) (Held (slice_of o n).count)
stopped_at_spot d o n q h runs e =
    let rows : Private = slice_of o n in
    let passes : Bool = passes_after rows.count o.passes in
    let t : State = (committed d.node o.pid q rows).state in
    let none : rows.count + 0 ≡ rows.count = omega arith in
    let r = reached d.node o.pid q rows h.0 in
    let ends = slice_ends o n at_spot e in
    let same : (not passes && is_at_spot d.spots rows.process.goes) ≡ true = ap (λ s. not passes && is_at_spot s rows.process.goes) h.3 ∙ ends.2 in
    let next = next_halts d.spots passes true t o.pid rows.process r.0 r.1 r.2 r.3 ends.1 same in
    let stop : ℕ → Halting = λ k. record { rows = record { count = k; state = t }; stopped = true } in
    counts d o n 1 q h runs
    ∙ (ap (λ x. halts d o.pid (before_halting rows.count x)) next.1
    ∙ (ap (λ k. halts d o.pid (stop k)) none ∙ halts_at d o.pid (stop rows.count) r.0 r.1))

-- the process that runs before a row of the node
abbrev NextRuns : Debugged → Origin → ℕ → Process → Type 0
NextRuns d o n q = (x : Process) × (running (process_of (committed d.node o.pid q (slice_of o n)).state.processes o.pid) ≡ Some x)
    × (halting d.spots (passes_after (slice_of o n).count o.passes) (committed d.node o.pid q (slice_of o n)).state o.pid 1 ≡ and_one (no_rows (row (committed d.node o.pid q (slice_of o n)).state o.pid x) false))

next_runs : (d : Debugged) (o : Origin) (n : ℕ) (q : Process) → CanCommit d o q → (slice_of o n).end ≡ before_node_row → NextRuns d o n q
next_runs d o n q h e =
    let rows : Private = slice_of o n in
    let passes : Bool = passes_after rows.count o.passes in
    let r = reached d.node o.pid q rows h.0 in
    let ends = slice_ends o n before_node_row e in
    let same : (not passes && is_at_spot d.spots rows.process.goes) ≡ false = ap (λ s. not passes && is_at_spot s rows.process.goes) h.3 ∙ ends.2 in
    let next = next_halts d.spots passes false (committed d.node o.pid q rows).state o.pid rows.process r.0 r.1 r.2 r.3 ends.1 same in
    (r.0, next.0, next.1)

one_row : (d : Debugged) (o : Origin) (n : ℕ) (q : Process) → CanCommit d o q → (slice_of o n).end ≡ before_node_row
    → (steps (committed d.node o.pid q (slice_of o n)).state o.pid 1).count ≡ 1
one_row d o n q h e =
    let t : State = (committed d.node o.pid q (slice_of o n)).state in
    ap (λ x. (row_and (λ u. steps u o.pid 0) t o.pid x).count) (next_runs d o n q h e).1

at_node_row : (d : Debugged) (o : Origin) (n : ℕ) (q : Process) → CanCommit d o q → is_running o.process.status ≡ true → (slice_of o n).end ≡ before_node_row
    → (z : Process) × (process_of (and_next_row (committed d.node o.pid q (slice_of o n)) o.pid).state.processes o.pid ≡ Some z)
    × (debug_next d (NodeEvent (event.Steps o.pid ((slice_of o n).count + 1)))
    ≡ replies (after_rows d o.pid (and_next_row (committed d.node o.pid q (slice_of o n)) o.pid)) (Node (Ran ((slice_of o n).count + 1) (then_of z.status))))
at_node_row d o n q h runs e = go (process_of (steps t o.pid 1).state.processes o.pid) refl
  where
    t : State
    t = (committed d.node o.pid q (slice_of o n)).state

    next : NextRuns d o n q
    next = next_runs d o n q h e

    done : Halting
    done = record { rows = and_next_row (committed d.node o.pid q (slice_of o n)) o.pid; stopped = false }

    same : halting d.spots (passes_after (slice_of o n).count o.passes) t o.pid 1 ≡ record { rows = record { count = 1; state = (steps t o.pid 1).state }; stopped = false }
    same = next.2 ∙ ap (λ (u : State). record { rows = record { count = 1; state = u }; stopped = false }) (sym (ap (λ x. (row_and (λ u. steps u o.pid 0) t o.pid x).state) next.1))

    go : (x : Option Process) → process_of (steps t o.pid 1).state.processes o.pid ≡ x
        → (z : Process) × (process_of (steps t o.pid 1).state.processes o.pid ≡ Some z)
        × (debug_next d (NodeEvent (event.Steps o.pid ((slice_of o n).count + 1))) ≡ replies (after_rows d o.pid done.rows) (Node (Ran ((slice_of o n).count + 1) (then_of z.status))))
    go None there =
        let r = reached d.node o.pid q (slice_of o n) h.0 in
        absurd (stays t.processes (steps t o.pid 1).state.processes o.pid r.0 (steps_longer 1 t o.pid) r.1 there)
    go (Some z) there = (z, there, counts d o n 1 q h runs ∙ (ap (λ x. halts d o.pid (before_halting (slice_of o n).count x)) same ∙ halts_at d o.pid done z there))

-- ---- the rows of a slice

pub slice_further : (d : Debugged) (o : Origin) (n m : ℕ) (q : Process) (r : Private) → r ≡ slice_of o n → CanCommit d o q → is_ended o.process.status ≡ false
    → halting d.spots (is_among o.pid d.passing) d.node o.pid (r.count + m)
    ≡ before_halting r.count (halting d.spots (passes_after r.count o.passes) (committed d.node o.pid q r).state o.pid m)
slice_further d o n m q r e h lives =
    subst (λ (r : Private). halting d.spots (is_among o.pid d.passing) d.node o.pid (r.count + m)
    ≡ before_halting r.count (halting d.spots (passes_after r.count o.passes) (committed d.node o.pid q r).state o.pid m)) (sym e) (further d o n m q h lives)

pub slice_counts : (d : Debugged) (o : Origin) (n m : ℕ) (q : Process) (r : Private) → r ≡ slice_of o n → CanCommit d o q → is_running o.process.status ≡ true
    → debug_next d (NodeEvent (event.Steps o.pid (r.count + m)))
    ≡ halts d o.pid (before_halting r.count (halting d.spots (passes_after r.count o.passes) (committed d.node o.pid q r).state o.pid m))
slice_counts d o n m q r e h runs =
    subst (λ (r : Private). debug_next d (NodeEvent (event.Steps o.pid (r.count + m)))
    ≡ halts d o.pid (before_halting r.count (halting d.spots (passes_after r.count o.passes) (committed d.node o.pid q r).state o.pid m))) (sym e) (counts d o n m q h runs)

pub slice_rows : (d : Debugged) (o : Origin) (n : ℕ) (q : Process) (r : Private) → r ≡ slice_of o n → CanCommit d o q → is_running o.process.status ≡ true
    → debug_next d (NodeEvent (event.Steps o.pid r.count)) ≡ replies (after_rows d o.pid (committed d.node o.pid q r)) (Node (Ran r.count (then_of r.process.status)))
slice_rows d o n q r e h runs =
    subst (λ (r : Private). debug_next d (NodeEvent (event.Steps o.pid r.count)) ≡ replies (after_rows d o.pid (committed d.node o.pid q r)) (Node (Ran r.count (then_of r.process.status))))
    (sym e) (all_rows d o n q h runs)

pub slice_at_spot : (d : Debugged) (o : Origin) (n : ℕ) (q : Process) (r : Private) → r ≡ slice_of o n → CanCommit d o q → is_running o.process.status ≡ true → r.end ≡ at_spot
    → debug_next d (NodeEvent (event.Steps o.pid (r.count + 1)))
    ≡ replies (record (after_rows d o.pid (committed d.node o.pid q r)) { held = with_pid o.pid d.held }) (Held r.count)
slice_at_spot d o n q r e h runs =
    subst (λ (r : Private). r.end ≡ at_spot → debug_next d (NodeEvent (event.Steps o.pid (r.count + 1)))
    ≡ replies (record (after_rows d o.pid (committed d.node o.pid q r)) { held = with_pid o.pid d.held }) (Held r.count)) (sym e) (stopped_at_spot d o n q h runs)

pub slice_one : (d : Debugged) (o : Origin) (n : ℕ) (q : Process) (r : Private) → r ≡ slice_of o n → CanCommit d o q → r.end ≡ before_node_row
    → (steps (committed d.node o.pid q r).state o.pid 1).count ≡ 1
slice_one d o n q r e h = subst (λ (r : Private). r.end ≡ before_node_row → (steps (committed d.node o.pid q r).state o.pid 1).count ≡ 1) (sym e) (one_row d o n q h)

pub slice_node_row : (d : Debugged) (o : Origin) (n : ℕ) (q : Process) (r : Private) → r ≡ slice_of o n → CanCommit d o q → is_running o.process.status ≡ true → r.end ≡ before_node_row
    → (z : Process) × (process_of (and_next_row (committed d.node o.pid q r) o.pid).state.processes o.pid ≡ Some z)
    × (debug_next d (NodeEvent (event.Steps o.pid (r.count + 1)))
    ≡ replies (after_rows d o.pid (and_next_row (committed d.node o.pid q r) o.pid)) (Node (Ran (r.count + 1) (then_of z.status))))
slice_node_row d o n q r e h runs =
    subst (λ (r : Private). r.end ≡ before_node_row → (z : Process) × (process_of (and_next_row (committed d.node o.pid q r) o.pid).state.processes o.pid ≡ Some z)
    × (debug_next d (NodeEvent (event.Steps o.pid (r.count + 1)))
    ≡ replies (after_rows d o.pid (and_next_row (committed d.node o.pid q r) o.pid)) (Node (Ran (r.count + 1) (then_of z.status))))) (sym e) (at_node_row d o n q h runs)
