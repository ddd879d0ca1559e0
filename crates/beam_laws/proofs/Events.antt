-- How an event, and a list of events, can change the code, the clock and the count of instances.
use Rattle.std.proofs.Common.{◌≡◌, ℕ, zero, suc, ◌+◌, ◌≤◌, List, [], ◌∷◌, refl, ◌∙◌, arith, Option, Some, None, Result}
use Rattle.beam_model.specs.declared.exception.Fault.{Fault}
use Rattle.beam_model.specs.Prelude.{Listing}
use Rattle.beam_machine.specs.declared.event.Event.{Event}
use Rattle.beam_machine.specs.Prelude.{Process, Outcome, makes, sends, asks, sleeps, outcome, State, process_of, loaded, deleted, purged, Rows, continues, done_by, row, running, row_and, end_old, next, run, Touch, touch_of, Touches, stays, in_turn, loads, deletes, ends, purges, runs, arrives, times_out, ticks, posts, starts}
use Rattle.beam_machine.specs.declared.callee.After.{After}
use Rattle.beam_term.specs.Prelude.{TermValue}
use Rattle.beam_machine.specs.Next.{steps}
use Rattle.beam_laws.proofs.Touching.{next_touches}

-- the states differ in their processes alone
abbrev pub Alike : State → State → Type 0
Alike s t = (t.code ≡ s.code) × (t.clock ≡ s.clock) × (t.instances ≡ s.instances)

pub alike : (s : State) → Alike s s
alike s = (refl, refl, refl)

then_alike : (s t u : State) → Alike s t → Alike t u → Alike s u
then_alike s t u a b = (b.0 ∙ a.0, b.1 ∙ a.1, b.2 ∙ a.2)

-- ---- rows

continues_alike : (s : State) (pid : ℕ) (after : After) (value : Result TermValue Fault) (o : Option Process) → Alike s (continues s pid after value o)
continues_alike s pid after value None = (refl, refl, refl)
continues_alike s pid after value (Some p) = (refl, refl, refl)

done_alike : (s : State) (pid : ℕ) (o : Outcome) → Alike s (done_by s pid o)
done_alike s pid (makes p) = (refl, refl, refl)
done_alike s pid (sends p to signal) = (refl, refl, refl)
done_alike s pid (asks p native arity after) = continues_alike _ pid after _ _
done_alike s pid (sleeps p n place) = (refl, refl, refl)

row_and_alike : (s : State) (pid : ℕ) (rest : State → Rows) (o : Option Process) → ((t : State) → Alike t (rest t).state) → Alike s (row_and rest s pid o).state
row_and_alike s pid rest None more = (refl, refl, refl)
row_and_alike s pid rest (Some p) more = then_alike s (row s pid p) (rest (row s pid p)).state (done_alike s pid (outcome s.code p)) (more (row s pid p))

pub steps_alike : (n : ℕ) (s : State) (pid : ℕ) → Alike s (steps s pid n).state
steps_alike zero s pid = (refl, refl, refl)
steps_alike (suc n) s pid = row_and_alike s pid (λ t. steps t pid n) (running (process_of s.processes pid)) (λ t. steps_alike n t pid)

-- ---- events

-- a relation of states that every event keeps
pub record Kept : Type 1 where
  pub keeps : State → State → Type 0
  pub then : (s t u : State) → keeps s t → keeps t u → keeps s u
  pub still : (s t : State) → Alike s t → keeps s t
  pub clock : (s : State) (now : ℕ) → s.clock ≤ now → keeps s (record s { clock = now })
  pub delete : (s : State) (name : List ℕ) → keeps s (record s { code = deleted s.code name })
  pub purge : (s : State) (name : List ℕ) (ps : List Process) → keeps s (record s { code = purged s.code name; processes = ps })
  pub load : (s : State) (l : Listing) → keeps s (record s { code = loaded s.code (s.instances + 1) l; instances = s.instances + 1 })

module _ (K : Kept) where
  same : (s : State) → K.keeps s s
  same s = K.still s s (refl, refl, refl)

  kept_touched : (t : Touch) (s u : State) → Touches t s u → K.keeps s u
  kept_touched _ _ _ (stays t s) = same s
  kept_touched _ _ _ (in_turn t s u v first second) = K.then s u v (kept_touched t s u first) (kept_touched t u v second)
  kept_touched _ _ _ (loads s l) = K.then s (end_old s l.name) _ (K.still s (end_old s l.name) (refl, refl, refl)) (K.load (end_old s l.name) l)
  kept_touched _ _ _ (ends s ls) = K.still s _ (refl, refl, refl)
  kept_touched _ _ _ (deletes s name e) = K.delete s name
  kept_touched _ _ _ (purges s name) = K.purge s name _
  kept_touched _ _ _ (runs s pid n) = K.still s _ (steps_alike n s pid)
  kept_touched _ _ _ (ticks s now later) = K.clock s now later
  kept_touched _ _ _ (arrives s pid p e) = K.still s _ (refl, refl, refl)
  kept_touched _ _ _ (times_out s pid p d e is) = K.still s _ (refl, refl, refl)
  kept_touched _ _ _ (posts s to signal) = K.still s _ (refl, refl, refl)
  kept_touched _ _ _ (starts s name function arguments) = K.still s _ (refl, refl, refl)

  pub kept_next : (s : State) (e : Event Listing) → K.keeps s (next s e).state
  kept_next s e = kept_touched (touch_of e) s (next s e).state (next_touches s e)

  pub kept_run : (s : State) (events : List (Event Listing)) → K.keeps s (run s events).state
  kept_run s [] = same s
  kept_run s (e ∷ events) = K.then s (next s e).state (run (next s e).state events).state (kept_next s e) (kept_run (next s e).state events)

-- ---- time

falls_never : Kept
falls_never = record {
  keeps = λ s t. s.clock ≤ t.clock;
  then = λ s t u a b. omega (arith, a, b);
  still = λ s t a. omega (arith, a.1);
  clock = λ s now a. a;
  delete = λ s name. omega arith;
  purge = λ s name ps. omega arith;
  load = λ s l. omega arith;
}

pub clock_run : (s : State) (events : List (Event Listing)) → s.clock ≤ (run s events).state.clock
unfolding falls_never
clock_run s events = kept_run falls_never s events
