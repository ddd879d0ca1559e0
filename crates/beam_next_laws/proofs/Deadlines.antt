-- A row keeps its process's deadline, takes it away, or gives it a place in the row's instance: by what a row may do to its process.
use Rattle.std.proofs.Common.{◌≡◌, ℕ, ◌&&◌, cond, true, List, [], ◌∷◌, inl, inr, refl, sym, ap, subst, ◌∙◌, nat_le, Option, Some, None}
use Rattle.beam_machine.specs.declared.action.Action.{Action}
use Rattle.beam_machine.specs.declared.event.Event.TheVariants as event
use Rattle.beam_machine.specs.declared.event.Refused.TheVariants.{NotReady}
use Rattle.beam_machine.specs.declared.event.Reply.TheVariants.{Done}
use Rattle.beam_machine.specs.declared.process.Deadline.{Deadline}
use Rattle.beam_machine.specs.declared.process.Frame.{Frame}
use Rattle.beam_machine.specs.declared.process.Goes.TheVariants.{At}
use Rattle.beam_machine.specs.declared.process.Status.TheVariants.{Running, Waiting}
use Rattle.beam_machine.specs.declared.process.Tag.{Tag}
use Rattle.beam_machine.specs.Prelude.{Code, Process, ended, normal, read_x, Outcome, tag_of, caught_at, unwound, goes_on, returns_to, outcome, State, process_of, live_process, is_waiting, Next, refused, replied, put_process, timed_out, next_timeout, next}
use Rattle.beam_model.specs.declared.exception.Exception.{Exception}
use Rattle.beam_model.specs.Prelude.{Place, exit_reason}
use Rattle.beam_term.specs.Prelude.{TermValue, nil_term}
use Rattle.beam_laws.proofs.Ending.{alive_is}
use Rattle.beam_laws.proofs.Moves.{named, Near, Changes, begins, writes, demonitors, calls, slots, Moves, goes, enters, returns, raise, receives, waits, waits_until, sleep, send, ask, ask_last}
use Rattle.beam_laws.proofs.Moving.{action_moves}
use Rattle.beam_laws.proofs.Numbered.{put_here}
use Rattle.beam_next_laws.specs.Places.{StandsAt, IsAfterIn, KeepsDeadline, OutcomeKeepsDeadline}
use Rattle.beam_next_laws.proofs.Entering.{performed}

-- rows in an instance, of a process with this deadline
module _ (i : ℕ) (d : Option Deadline) where
  abbrev Right : Process → Type 0
  Right q = KeepsDeadline i d q.deadline × (q.status ≡ Waiting → IsAfterIn i q.deadline)

  abbrev On : Process → Type 0
  On q = (q.deadline ≡ d) × (q.status ≡ Running)

  runs : (q : Process) → On q → q.status ≡ Waiting → IsAfterIn i q.deadline
  runs q k w =
      let both : Running ≡ Waiting = sym k.1 ∙ w in
      cc

  lives : (q : Process) → On q → Right q
  lives q k = (inl k.0, runs q k)

  ends : (p : Process) (reason value : TermValue) → Right (ended p reason value)
  ends p reason value = (inr tt, λ w. tt)

  caught : (p : Process) (e : Exception) (frames : List Frame) (otherwise : Process) (o : Option Tag) → On p → Right otherwise → Right (caught_at p e frames otherwise o)
  caught p e frames otherwise None k h = h
  caught p e frames otherwise (Some tag) k h = lives (record p { frames = frames; goes = At tag.place; pending = Some e }) k

  unwinds : (p : Process) (e : Exception) (frames : List Frame) → On p → Right (unwound p e frames)
  unwinds p e [] k = ends p (exit_reason e) nil_term
  unwinds p e (frame ∷ older) k = caught p e (frame ∷ older) (unwound p e older) (tag_of frame.y) k (unwinds p e older k)

  returned : (p : Process) (older : List Frame) (o : Option Place) → On p → Right (returns_to p older o)
  returned p older None k = ends p normal (read_x p.x 0)
  returned p older (Some place) k = lives (record p { frames = older; goes = At place }) k

  here : (place : Place) → Near (Some i) place → place.instance ≡ i
  here place near = cc

  changed : (p q : Process) → On p → Changes (Some i) p q → On (named p q)
  changed p _ k begins = k
  changed p _ k (writes q x pending mailbox c) = changed p q k c
  changed p _ k (demonitors q keep c) = changed p q k c
  changed p _ k (calls q back near c) = changed p q k c
  changed p _ k (slots q y made c) = changed p q k c

  moved : (code : Code) (p : Process) (o u : Outcome) → On p → Moves code (Some i) true p o u → OutcomeKeepsDeadline i d o
  moved code p _ _ k (goes q place near c) = lives (goes_on (named p q) place) (changed p q k c)
  moved code p _ _ k (enters q m f arity place far e c) = lives (goes_on (named p q) place) (changed p q k c)
  moved code p _ _ k (returns q frame older far e c) = returned (named p q) older frame.back (changed p q k c)
  moved code p _ _ k (raise q e c) = unwinds (named p q) e q.frames (changed p q k c)
  moved code p _ _ k (receives q place near c) = (inr tt, λ w. tt)
  moved code p _ _ k (waits q place near c) = (inr tt, λ w. tt)
  moved code p _ _ k (waits_until q place until near later c) = (inr (here until.after later), λ w. here until.after later)
  moved code p _ _ k (sleep q n place after near later c) = ((changed p q k c).0, here after later)
  moved code p _ _ k (send q to t place near c) = (changed p q k c).0
  moved code p _ _ k (ask native arity next near) = k.0
  moved code p _ _ k (ask_last q native arity far c) = (changed p q k c).0

pub keeps : (code : Code) (p : Process) (action : Action) (row : Place) → StandsAt code p action row → p.status ≡ Running → OutcomeKeepsDeadline row.instance p.deadline (outcome code p)
keeps code p action row at running =
    subst (OutcomeKeepsDeadline row.instance p.deadline) (sym (performed code p action row at))
    (moved row.instance p.deadline code p _ _ (refl, running) (action_moves code (Some row.instance) true p row refl action (λ e. refl)))

-- ---- the timeout

pub times_out : (s : State) (pid : ℕ) (p : Process) (d : Deadline) → live_process s.processes pid ≡ Some p → is_waiting p.status ≡ true → p.deadline ≡ Some d → nat_le d.at s.clock ≡ true
    → process_of (next s (event.Timeout pid)).state.processes pid ≡ Some (record p { goes = At d.after; deadline = None; status = Running })
times_out s pid p d live waiting set due =
    let q : Process = record (goes_on p d.after) { deadline = None; status = Running } in
    ap (λ o. process_of (next_timeout s pid o).state.processes pid) live
    ∙ (ap (λ o. process_of (timed_out s pid p o).state.processes pid) set
    ∙ (ap (λ b. process_of (cond {A = Next} (b && nat_le d.at s.clock) (replied (put_process s pid q) Done) (refused s NotReady)).state.processes pid) waiting
    ∙ (ap (λ b. process_of (cond {A = Next} b (replied (put_process s pid q) Done) (refused s NotReady)).state.processes pid) due
    ∙ put_here s.processes pid p q (alive_is (process_of s.processes pid) p live).0)))
