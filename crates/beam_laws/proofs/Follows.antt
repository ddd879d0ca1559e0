-- A row leaves its process the number and the name, or drops the name; and where the process ends, all but the number, the reason and the value go:
-- by what a row may do to its process.
use Rattle.std.proofs.Common.{◌≡◌, ℕ, cond, Bool, true, false, List, [], ◌∷◌, refl, sym, ap, ◌∙◌, true≢false, Option, Some, None, Result, filter}
use Rattle.beam_machine.specs.declared.callee.After.{After}
use Rattle.beam_machine.specs.declared.process.Frame.{Frame}
use Rattle.beam_machine.specs.declared.process.Goes.TheVariants.{At}
use Rattle.beam_machine.specs.declared.process.Monitor.{Monitor}
use Rattle.beam_machine.specs.declared.process.Status.TheVariants.{Running, Waiting}
use Rattle.beam_machine.specs.declared.process.Tag.{Tag}
use Rattle.beam_machine.specs.Prelude.{Code, Process, is_ended, ended, normal, read_x, Outcome, makes, sends, asks, sleeps, tag_of, caught_at, unwound, goes_on, returns_to, answers, waits_for_message, finds_message, outcome}
use Rattle.beam_model.specs.declared.exception.Exception.{Exception}
use Rattle.beam_model.specs.Prelude.{Place, exit_reason}
use Rattle.beam_term.specs.Prelude.{TermValue, nil_term}
pub use Rattle.beam_laws.specs.Orderly.{Ends, Follows}
use Rattle.beam_laws.proofs.Moves.{named, Changes, begins, writes, demonitors, calls, slots, Moves, goes, enters, returns, raise, receives, waits, waits_until, sleep, send, ask, ask_last}
use Rattle.beam_laws.proofs.Moving.{instance_of, instance_after, answer_moves, outcome_moves}

-- a process that hasn't ended, with this pid and name
abbrev pub Lives : ℕ → Option (List ℕ) → Process → Type 0
Lives pid name q = (q.pid ≡ pid) × ((q.name ≡ name) × (is_ended q.status ≡ false))

module _ (pid : ℕ) (name : Option (List ℕ)) where
  pub on : (q : Process) → Lives pid name q → Follows pid name q
  on q k = (k.0, ((λ n e. sym k.1.0 ∙ e), λ reason value e. absurd (true≢false (sym (ap is_ended e) ∙ k.1.1))))

  pub over : (p : Process) (reason value : TermValue) → p.pid ≡ pid → Follows pid name (ended p reason value)
  over p reason value e = (e, ((λ n f. cc), λ r v f. ap (λ s. record (ended p reason value) { status = s }) f))

-- a statement that holds of no monitors, and of fewer wherever it holds, holds of the monitors after a row
module _ (pid : ℕ) (name : Option (List ℕ)) (R : List Monitor → Type 0) (none : R []) (fewer : (ms : List Monitor) (keep : Monitor → Bool) → R ms → R (filter keep ms)) where
  abbrev Right : Process → Type 0
  Right q = Follows pid name q × R q.monitors

  abbrev On : Process → Type 0
  On q = Lives pid name q × R q.monitors

  lives : (q : Process) → On q → Right q
  lives q k = (on pid name q k.0, k.1)

  ends : (p : Process) (reason value : TermValue) → p.pid ≡ pid → Right (ended p reason value)
  ends p reason value e = (over pid name p reason value e, none)

  caught : (p : Process) (e : Exception) (frames : List Frame) (otherwise : Process) (o : Option Tag) → On p → Right otherwise → Right (caught_at p e frames otherwise o)
  caught p e frames otherwise None k h = h
  caught p e frames otherwise (Some tag) k h = lives (record p { frames = frames; goes = At tag.place; pending = Some e }) k

  unwinds : (p : Process) (e : Exception) (frames : List Frame) → On p → Right (unwound p e frames)
  unwinds p e [] k = ends p (exit_reason e) nil_term k.0.0
  unwinds p e (frame ∷ older) k = caught p e (frame ∷ older) (unwound p e older) (tag_of frame.y) k (unwinds p e older k)

  returned : (p : Process) (older : List Frame) (o : Option Place) → On p → Right (returns_to p older o)
  returned p older None k = ends p normal (read_x p.x 0) k.0.0
  returned p older (Some place) k = lives (record p { frames = older; goes = At place }) k

  settled : (p : Process) (place : Place) → On p → On (waits_for_message p place)
  settled p place k = ((k.0.0, (k.0.1.0, elim (finds_message p place) as (λ c. is_ended (cond c Running Waiting) ≡ false) [ true ↦ refl | false ↦ refl ])), k.1)

  changed : (here : Option ℕ) (p q : Process) → On p → Changes here p q → On (named p q)
  changed here p _ k begins = k
  changed here p _ k (writes q x pending mailbox c) = changed here p q k c
  changed here p _ k (demonitors q keep c) = let i = changed here p q k c in (i.0, fewer q.monitors keep i.1)
  changed here p _ k (calls q back near c) = changed here p q k c
  changed here p _ k (slots q y made c) = changed here p q k c

  -- the outcome of a row: the process that it makes, or one that hasn't ended
  abbrev pub ComesWith : Outcome → Type 0
  ComesWith (makes q) = Right q
  ComesWith (sends q to signal) = On q
  ComesWith (asks q native arity after) = On q
  ComesWith (sleeps q n next) = On q

  moved : (code : Code) (here : Option ℕ) (p : Process) (o u : Outcome) → On p → Moves code here true p o u → ComesWith o
  moved code here p _ _ k (goes q place near c) = lives (goes_on (named p q) place) (changed here p q k c)
  moved code here p _ _ k (enters q m f arity place far e c) = lives (goes_on (named p q) place) (changed here p q k c)
  moved code here p _ _ k (returns q frame older far e c) = returned (named p q) older frame.back (changed here p q k c)
  moved code here p _ _ k (raise q e c) = unwinds (named p q) e q.frames (changed here p q k c)
  moved code here p _ _ k (receives q place near c) = lives (goes_on (record (named p q) { deadline = None }) place) (changed here p q k c)
  moved code here p _ _ k (waits q place near c) = lives (record (waits_for_message (named p q) place) { deadline = None }) (settled (named p q) place (changed here p q k c))
  moved code here p _ _ k (waits_until q place d near later c) =
      lives (record (waits_for_message (named p q) place) { deadline = Some d }) (settled (named p q) place (changed here p q k c))
  moved code here p _ _ k (sleep q n place after near later c) = settled (named p q) place (changed here p q k c)
  moved code here p _ _ k (send q to t place near c) = changed here p q k c
  moved code here p _ _ k (ask native arity next near) = k
  moved code here p _ _ k (ask_last q native arity far c) = changed here p q k c

  pub answered_with : (p : Process) (after : After) (value : Result TermValue Exception) → On p → Right (answers p after value)
  answered_with p after value k = moved [] (instance_after after) p _ _ k (answer_moves [] p after value)

  pub outcome_comes_with : (code : Code) (p : Process) → On p → ComesWith (outcome code p)
  outcome_comes_with code p k = moved code (instance_of p.goes) p _ _ k (outcome_moves code p)

-- ---- whatever the monitors are

abbrev Any : List Monitor → Type 0
Any ms = Unit {0}

pub answered : (pid : ℕ) (name : Option (List ℕ)) (p : Process) (after : After) (value : Result TermValue Exception) → Lives pid name p → Follows pid name (answers p after value)
answered pid name p after value k = (answered_with pid name Any tt (λ ms keep h. tt) p after value (k, tt)).0

abbrev pub Comes : ℕ → Option (List ℕ) → Outcome → Type 0
Comes pid name (makes q) = Follows pid name q
Comes pid name (sends q to signal) = Lives pid name q
Comes pid name (asks q native arity after) = Lives pid name q
Comes pid name (sleeps q n next) = Lives pid name q

pub outcome_comes : (pid : ℕ) (name : Option (List ℕ)) (code : Code) (p : Process) → Lives pid name p → Comes pid name (outcome code p)
outcome_comes pid name code p k = go (outcome code p) (outcome_comes_with pid name Any tt (λ ms keep h. tt) code p (k, tt))
  where
    go : (o : Outcome) → ComesWith pid name Any tt (λ ms keep h. tt) o → Comes pid name o
    go (makes q) c = c.0
    go (sends q to signal) c = c.0
    go (asks q native arity after) c = c.0
    go (sleeps q n next) c = c.0
