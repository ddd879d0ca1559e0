-- A row that asks something of the node leaves pids and names in order.
use Rattle.std.proofs.Common.{◌≡◌, ℕ, ◌-◌, List, [], true, false, cond, Option, Some, None, Result, Ok, Err, refl, sym, ap, subst, ◌∙◌, option_map}
use Rattle.std.specs.declared.alloc.AllocError.{AllocError}
use Rattle.beam_machine.specs.declared.event.Then.{Then}
use Rattle.beam_machine.specs.declared.event.Then.TheVariants.{GoesOn}
use Rattle.beam_machine.specs.declared.process.Status.{Status}
use Rattle.beam_machine.specs.declared.process.Status.TheVariants.{Running, Waiting, Ended}
use Rattle.beam_machine.specs.declared.callee.After.{After}
use Rattle.beam_machine.specs.declared.callee.After.TheVariants.{Return}
use Rattle.beam_machine.specs.Prelude.{done_by, Process, then_of, is_ended, Outcome, makes, asks, after_dropping, arguments_of, finds_message, State, process_of, with_process}
use Rattle.beam_term.specs.Prelude.{TermValue}
use Rattle.beam_model.specs.declared.native.NodeNative.{NodeNative}
use Rattle.beam_model.specs.Prelude.{Place}
use Rattle.beam_laws.specs.Prelude.{ArePart, MonitorsNoMore}
use Rattle.beam_laws.proofs.Ending.{at_index}
use Rattle.beam_laws.proofs.Follows.{Follows, Lives, Comes, over}
use Rattle.beam_laws.proofs.Monitoring.{all_are, none_are}
use Rattle.beam_laws.proofs.Orderly.{set_orderly, done_orderly}
use Rattle.beam_laws.proofs.Rising.{RisesIf, rise_part, set_up, process_up, done_up}
use Rattle.beam_proc.proofs.UndoneSteps.{taken}
use Rattle.beam_state.specs.Prelude.{Responds, RespondsBy, AnswersNative, MadeBy, asking, asking_dropping, sending, sleeping, ending, HasSlots, Parts, parts, node, then_at, AreLawful}

-- a process that runs is there
pub runs_there : (ps : List Process) (pid : ℕ) → then_at ps pid ≡ Some GoesOn → (p : Process) × ((process_of ps pid ≡ Some p) × (p.status ≡ Running))
runs_there ps pid e = at (process_of ps pid) refl e
  where
    runs : (s : Status) → Some (then_of s) ≡ Some GoesOn → s ≡ Running
    runs Running e = refl
    runs Waiting e = cc
    runs (Ended r v) e = cc

    at : (o : Option Process) → process_of ps pid ≡ o → option_map (λ p. then_of p.status) o ≡ Some GoesOn → (p : Process) × ((process_of ps pid ≡ Some p) × (p.status ≡ Running))
    at None f e = cc
    at (Some p) f e = (p, (f, runs p.status e))

lives : (p : Process) → p.status ≡ Running → is_ended p.status ≡ false
lives p e = ap is_ended e

-- processes stay in order when a running one is changed and keeps its pid, its name or none, and no more monitors
pub changed_lawful : (references : ℕ) (ps : List Process) (pid : ℕ) (p q : Process) → process_of ps pid ≡ Some p → Follows p.pid p.name q → ArePart p.monitors q.monitors
    → AreLawful references ps → AreLawful references (with_process ps pid q)
changed_lawful references ps pid p q e f part o = (
  set_orderly ps (pid - 1) p q o.0 (at_index ps pid p e) f,
  set_up references ps (pid - 1) q o.1 (rise_part references p.monitors q.monitors part (subst (RisesIf references) e (process_up references ps pid o.1))),
)

-- the outcome of a row of the node has the pid, the name or none, and no more monitors
abbrev pub IsRow : Process → Outcome → Type 0
IsRow p outcome = Comes p.pid p.name outcome × MonitorsNoMore p.monitors outcome

by_outcome : (s : Parts) (pid : ℕ) (outcome : Process → Outcome) (result : Result Then AllocError) (count : ℕ) (new : List Process) (p : Process)
    → process_of s.processes pid ≡ Some p → is_ended p.status ≡ false → IsRow p (outcome p) → AreLawful s.references s.processes
    → RespondsBy s.clock pid outcome s.references s.processes result count new → AreLawful count new
by_outcome s pid outcome (Err refused) count new p e l c o h = subst (λ n. AreLawful n new) (sym h.1) (subst (AreLawful s.references) (sym h.0) o)
by_outcome s pid outcome (Ok said) count new p e l c o h =
    let keeps : AreLawful (done_by (node [] s) pid (outcome p)).references (done_by (node [] s) pid (outcome p)).processes =
    (done_orderly (node [] s) pid p (outcome p) e l c.0 o.0, (done_up (node [] s) pid p (outcome p) e c.1).1 o.1) in
    subst (λ (t : State). AreLawful t.references t.processes) (h.0 [] s.instances p e) keeps

-- the node's response to a row keeps pids, names and monitors in order
pub asked_lawful : (s : Parts) (pid : ℕ) (outcome : Process → Outcome) (result : Result Then AllocError) (count : ℕ) (new : List Process) → then_at s.processes pid ≡ Some GoesOn
    → ((p : Process) → process_of s.processes pid ≡ Some p → Lives p.pid p.name p → IsRow p (outcome p)) → AreLawful s.references s.processes
    → RespondsBy s.clock pid outcome s.references s.processes result count new → AreLawful count new
asked_lawful s pid outcome result count new e c o h =
    let r = runs_there s.processes pid e in
    by_outcome s pid outcome result count new r.0 r.1.0 (lives r.0 r.1.1) (c r.0 r.1.0 (refl, (refl, lives r.0 r.1.1))) o h

pub responded_by : (s : Parts) (pid : ℕ) (outcome : Process → Outcome) (result : Result Then AllocError) (count : ℕ) (new : List Process)
    → RespondsBy s.clock pid outcome s.references s.processes result count new → Responds s pid outcome result (parts new s.clock s.instances count)
responded_by s pid outcome (Err refused) count new h = ap (λ ps. parts ps s.clock s.instances count) h.0 ∙ ap (parts s.processes s.clock s.instances) h.1
responded_by s pid outcome (Ok said) count new h = ((λ code p e. h.0 code s.instances p e), h.1)

-- a process that was made of another
pub made_responds : (clock references pid : ℕ) (made : Process → Process) (old new : List Process) (result : Result Then AllocError) → MadeBy pid made old result new
    → RespondsBy clock pid (λ p. makes (made p)) references old result references new
made_responds clock references pid made old new (Err refused) h = (h, refl)
made_responds clock references pid made old new (Ok said) h = ((λ code i p found. ap (λ ps. node code (parts ps clock i references)) (sym (h.0 p found))), h.1)

-- ---- natives

-- what a native comes to, as a response to the process that asks
abbrev pub AnswersOf : ℕ → Option ℕ → NodeNative → ℕ → After → ℕ → List Process → Result Then AllocError → ℕ → List Process → Type 0
AnswersOf pid slots native arity after references old result count new =
    (p : Process) → process_of old pid ≡ Some p → AnswersNative pid slots native (arguments_of p arity) after references old result count new

pub native_asked : (clock pid arity : ℕ) (native : NodeNative) (after : After) (references : ℕ) (old : List Process) (result : Result Then AllocError) (count : ℕ) (new : List Process)
    → then_at old pid ≡ Some GoesOn → AnswersOf pid None native arity after references old result count new
    → RespondsBy clock pid (asking native arity after) references old result count new
native_asked clock pid arity native after references old (Err refused) count new runs h = let r = runs_there old pid runs in h r.0 r.1.0
native_asked clock pid arity native after references old (Ok said) count new runs h =
    let r = runs_there old pid runs in
    ((λ code i p found. (h p found).0 (node code (parts old clock i references)) p found), (h r.0 r.1.0).1)

pub dropping_asked : (clock pid n arity : ℕ) (native : NodeNative) (references : ℕ) (old : List Process) (result : Result Then AllocError) (count : ℕ) (new : List Process)
    → then_at old pid ≡ Some GoesOn → HasSlots n pid old → AnswersOf pid (Some n) native arity Return references old result count new
    → RespondsBy clock pid (asking_dropping n native arity) references old result count new
dropping_asked clock pid n arity native references old (Err refused) count new runs can h = let r = runs_there old pid runs in h r.0 r.1.0
dropping_asked clock pid n arity native references old (Ok said) count new runs can h =
    let r = runs_there old pid runs in (
      (λ code i p found.
          ap (λ o. done_by (node code (parts old clock i references)) pid (after_dropping p o (λ q. asks q native arity Return))) (taken n p p.frames (can p found))
          ∙ (h p found).0 (node code (parts old clock i references)) p found),
      (h r.0 r.1.0).1,
    )

-- ---- the requests of rows

pub sending_comes : (to : ℕ) (next : Place) (p : Process) → Lives p.pid p.name p → IsRow p (sending to next p)
sending_comes to next p k = (k, all_are p.monitors)

pub asking_comes : (native : NodeNative) (arity : ℕ) (after : After) (p : Process) → Lives p.pid p.name p → IsRow p (asking native arity after p)
asking_comes native arity after p k = (k, all_are p.monitors)

-- the process that asks after its y registers are dropped
pub dropping_comes : (ps : List Process) (pid n : ℕ) (native : NodeNative) (arity : ℕ) (p : Process) → HasSlots n pid ps → process_of ps pid ≡ Some p → Lives p.pid p.name p
    → IsRow p (asking_dropping n native arity p)
dropping_comes ps pid n native arity p h e k =
    subst (λ (o : Option Process). IsRow p (after_dropping p o (λ q. asks q native arity Return))) (sym (taken n p p.frames (h p e))) (k, all_are p.monitors)

pub ending_comes : (reason value : TermValue) (p : Process) → Lives p.pid p.name p → IsRow p (ending reason value p)
ending_comes reason value p k = (over p.pid p.name p reason value k.0, none_are p.monitors)

-- the process that waits
pub sleeping_comes : (n at : ℕ) (next : Place) (p : Process) → Lives p.pid p.name p → IsRow p (sleeping n at next p)
sleeping_comes n at next p k =
    ((refl, (refl, elim (finds_message p (record { instance = next.instance; at = at })) as (λ c. is_ended (cond c Running Waiting) ≡ false) [ true ↦ refl | false ↦ refl ])), all_are p.monitors)
