-- A row that stays in its instance, in the node: by the outcome of the row, of which the node makes the process.
use Rattle.std.proofs.Common.{◌≡◌, ℕ, ◌==◌, true, false, cond, List, [], ◌∷◌, ◌++◌, inl, refl, sym, ap, subst, ◌∙◌, Option, Some, None, Result, Ok, Err, option_map, unwrap_or}
use Rattle.beam_term.specs.Prelude.{TermValue}
use Rattle.beam_model.specs.Prelude.{Place}
use Rattle.beam_model.specs.declared.exception.Exception.{Exception}
use Rattle.beam_machine.specs.declared.action.Action.{Action}
use Rattle.beam_machine.specs.declared.callee.After.{After}
use Rattle.beam_machine.specs.declared.callee.After.TheVariants.{NextRow, Return}
use Rattle.beam_machine.specs.declared.event.Event.TheVariants as event
use Rattle.beam_machine.specs.declared.process.Deadline.{Deadline}
use Rattle.beam_machine.specs.declared.process.Frame.{Frame}
use Rattle.beam_machine.specs.declared.process.Goes.{Goes}
use Rattle.beam_machine.specs.declared.process.Goes.TheVariants.{At, Enter, Nowhere}
use Rattle.beam_machine.specs.declared.process.Signal.{Signal}
use Rattle.beam_machine.specs.Prelude.{Process, is_running, is_ended, Outcome, makes, sends, asks, sleeps, answers, arguments_of, outcome, State, process_of, with_process, with_made, with_signals, posted, Answered, answer_of, raised, continues, deadline_at, done_by, row_and, running, next}
use Rattle.beam_machine.specs.Next.{steps}
use Rattle.beam_laws.specs.Prelude.{with_name_and_transit, native_sends, signals_to}
use Rattle.beam_laws.proofs.Arriving.{Asked, answer_asked}
use Rattle.beam_laws.proofs.Ending.{runs_on}
use Rattle.beam_laws.proofs.Follows.{Comes, outcome_comes}
use Rattle.beam_laws.proofs.Hearing.{hearing_here}
use Rattle.beam_laws.proofs.Numbered.{put_here}
use Rattle.beam_laws.proofs.Posting.{posted_at}
use Rattle.beam_laws.proofs.Sending.{steps_state}
use Rattle.beam_next_laws.specs.Places.{StandsAt, is_local, LeadsTo, StaysIn, IsNextIn, OutcomeStays}
use Rattle.beam_next_laws.proofs.Staying.{raised as raised_stays, stays}

here : (o : Option Process) (x y : Process) → o ≡ Some y → o ≡ Some x → y ≡ x
here o x y e f =
    let both : Some y ≡ Some x = sym e ∙ f in
    cc

module _ (i : ℕ) (start : List Frame) where
  -- signals, and a deadline, change no place
  with_transit : (q : Process) (ts : List Signal) (g : Goes) → LeadsTo i start q g → LeadsTo i start (record q { transit = ts }) g
  with_transit q ts (At place) h = h
  with_transit q ts (Enter m f arity) h = h
  with_transit q ts Nowhere h = h

  signalled : (signals : List Signal) (q : Process) → StaysIn i start q → StaysIn i start (with_signals signals q)
  signalled signals q h =
      elim (is_ended q.status) as (λ b. StaysIn i start (cond b q (record q { transit = q.transit ++ signals }))) [ true ↦ h | false ↦ with_transit q (q.transit ++ signals) q.goes h ]

  with_deadline : (q : Process) (d : Option Deadline) (g : Goes) → LeadsTo i start q g → LeadsTo i start (record q { deadline = d }) g
  with_deadline q d (At place) h = h
  with_deadline q d (Enter m f arity) h = h
  with_deadline q d Nowhere h = h

  -- the caller of a native of the node, which goes on with its answer
  answered : (z : Process) (after : After) (value : Result TermValue Exception) → z.frames ≡ start → IsNextIn i after → StaysIn i start (answers z after value)
  answered z (NextRow next) (Ok value) same h = inl h
  answered z (NextRow next) (Err e) same h = raised_stays i start z e same
  answered z Return value same h = absurd h

  same_frames : (name : Option (List ℕ)) (transit : List Signal) (q : Process) → (with_name_and_transit name transit q).frames ≡ q.frames
  same_frames name transit q = elim (is_ended q.status) as (λ b. (cond {A = Process} b q (record q { name = name; transit = transit })).frames ≡ q.frames) [ true ↦ refl | false ↦ refl ]

  asked : (t : State) (pid : ℕ) (ps : List Process) (a : Answered) (after : After) (xs : List Signal) (y q : Process) (o : Option Process) → t.processes ≡ ps → process_of ps pid ≡ o
      → Asked pid xs y o → y.frames ≡ start → IsNextIn i after → process_of (continues t pid after a.value o).processes pid ≡ Some q → StaysIn i start q
  asked t pid ps a after xs y q None there at g same h f =
      let clash : None ≡ Some q = sym at ∙ (ap (λ ps. process_of ps pid) (sym there) ∙ f) in
      cc
  asked t pid ps a after xs y q (Some z) there at g same h f =
      let r : Process = answers z after (raised a.value) in
      let both : Some z ≡ Some (record (with_name_and_transit g.0 (y.transit ++ xs) y) { monitors = g.1 }) = g.2 in
      let is : z ≡ record (with_name_and_transit g.0 (y.transit ++ xs) y) { monitors = g.1 } = cc in
      let frames : z.frames ≡ start = ap (λ z. z.frames) is ∙ (same_frames g.0 (y.transit ++ xs) y ∙ same) in
      let came : process_of (with_made ps pid r) pid ≡ Some q = subst (λ ps. process_of (with_made ps pid r) pid ≡ Some q) there f in
      subst (StaysIn i start) (here (process_of (with_made ps pid r) pid) q r (hearing_here pid r.status (with_process ps pid r) r (put_here ps pid z r at) refl) came) (answered z after (raised a.value) frames h)

  by_outcome : (s : State) (pid : ℕ) (p q : Process) (o : Outcome) → process_of s.processes pid ≡ Some p → Comes p.pid p.name o → OutcomeStays i start o
      → process_of (done_by s pid o).processes pid ≡ Some q → StaysIn i start q
  by_outcome s pid p q (makes y) at comes h f =
      subst (StaysIn i start) (here (process_of (with_made s.processes pid y) pid) q y (hearing_here pid y.status (with_process s.processes pid y) y (put_here s.processes pid p y at) refl) f) h
  by_outcome s pid p q (sends y to signal) at comes h f =
      let ps : List Process = with_process s.processes pid y in
      let signals : List Signal = cond (to == pid) (signal ∷ []) [] in
      subst (StaysIn i start)
      (here (process_of (posted ps to signal) pid) q (with_signals signals y) (posted_at ps to pid signal (to == pid) refl ∙ ap (option_map (with_signals signals)) (put_here s.processes pid p y at)) f)
      (signalled signals y h)
  by_outcome s pid p q (asks y native arity after) at comes h f =
      let ps : List Process = with_process s.processes pid y in
      let ts : List TermValue = arguments_of y arity in
      let a : Answered = answer_of s.references ps pid native ts in
      let t : State = record s { processes = a.processes; references = unwrap_or a.made s.references } in
      asked t pid a.processes a after (signals_to pid (native_sends s.references ps pid native ts)) y q (process_of a.processes pid) refl refl
      (answer_asked pid s.references ps native ts y (put_here s.processes pid p y at) comes.1.1) h.0 h.1 f
  by_outcome s pid p q (sleeps y k next) at comes h f =
      let d : Option Deadline = Some (deadline_at s.clock k next) in
      subst (StaysIn i start) (here (process_of (done_by s pid (sleeps y k next)).processes pid) q (record y { deadline = d }) (put_here s.processes pid p (record y { deadline = d }) at) f)
      (with_deadline y d y.goes h.0)

pub row_stays : (s : State) (pid : ℕ) (p q : Process) (action : Action) (row : Place) → process_of s.processes pid ≡ Some p → is_running p.status ≡ true → StandsAt s.code p action row
    → is_local action ≡ true → process_of (next s (event.Steps pid 1)).state.processes pid ≡ Some q → StaysIn row.instance p.frames q
row_stays s pid p q action row at runs stands l f =
    let there : running (process_of s.processes pid) ≡ Some p = ap running at ∙ ap (λ b. cond b (Some p) None) runs in
    let done : process_of (done_by s pid (outcome s.code p)).processes pid ≡ Some q =
    sym (ap (λ t. process_of t.processes pid) (steps_state s pid 1) ∙ ap (λ o. process_of (row_and (λ t. steps t pid 0) s pid o).state.processes pid) there) ∙ f in
    by_outcome row.instance p.frames s pid p q (outcome s.code p) at (outcome_comes p.pid p.name s.code p (refl, (refl, runs_on p.status runs))) (stays s.code p action row stands l) done
