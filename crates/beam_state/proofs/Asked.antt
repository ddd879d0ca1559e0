-- The requests of a process that runs, where the process is given by its index.
use Rattle.std.proofs.Common.{◌≡◌, ℕ, ◌+◌, ◌-◌, ◌<◌, List, length, slice_get, get_or, unwrap_or, refl, sym, ap, subst, ◌∙◌, arith, Some, Ok, IfSome}
use Rattle.std.proofs.Math.ListN.{set}
use Rattle.std.proofs.lemmas.Option.{get_or_from_slice_get, slice_get_within}
use Rattle.beam_machine.specs.declared.event.Then.TheVariants.{GoesOn}
use Rattle.beam_machine.specs.declared.process.Signal.TheVariants.{Message}
use Rattle.beam_machine.specs.declared.process.Status.TheVariants.{Running}
use Rattle.beam_machine.specs.Prelude.{Process, read_x, put_x, goes_on, process_of, posted}
use Rattle.beam_model.specs.Prelude.{Place}
use Rattle.beam_term.specs.Prelude.{TermValue}
use Rattle.beam_laws.proofs.Ending.{at_index}
use Rattle.beam_proc.specs.Prelude.{stepped_back}
use Rattle.beam_proc.specs.declared.undoing.Stepped.{Stepped}
use Rattle.beam_state.specs.Prelude.{RespondsBy, sending, then_at}
use Rattle.beam_state.proofs.Answering.{get_set, undone, message_sent}
use Rattle.beam_state.proofs.Responding.{runs_there}

-- ---- the process of an index

-- the process of that number runs, and is this process
abbrev pub Runs : List Process → ℕ → ℕ → Process → Type 0
Runs ps pid at p = (process_of ps pid ≡ Some p) × ((slice_get ps at ≡ Some p) × (p.status ≡ Running))

pub runs_found : (ps : List Process) (at pid : ℕ) → pid ≡ at + 1 → then_at ps pid ≡ Some GoesOn → (p : Process) × Runs ps pid at p
runs_found ps at pid e h =
    let r = runs_there ps pid h in
    let same : pid - 1 ≡ at = omega arith in
    (r.0, (r.1.0, (subst (λ k. slice_get ps k ≡ Some r.0) same (at_index ps pid r.0 r.1.0), r.1.1)))

same_process : (ps : List Process) (at : ℕ) (p q : Process) → slice_get ps at ≡ Some p → slice_get ps at ≡ Some q → q ≡ p
same_process ps at p q e g = ap (λ o. unwrap_or o p) (sym g ∙ e)

-- a running process is the one that is read at its index
pub read_runs : (ps : List Process) (at pid : ℕ) (p : Process) → pid ≡ at + 1 → then_at ps pid ≡ Some GoesOn → slice_get ps at ≡ Some p → Runs ps pid at p
read_runs ps at pid p e h there =
    let found = runs_found ps at pid e h in
    subst (Runs ps pid at) (same_process ps at p found.0 there found.1.1.0) found.1

pub says : (ps : List Process) (at : ℕ) (p : Process) (P : Process → Type 0) → slice_get ps at ≡ Some p → P p → IfSome (slice_get ps at) P
says ps at p P e h = subst (λ o. IfSome o P) (sym e) h

pub said : (ps : List Process) (at : ℕ) (p : Process) (P : Process → Type 0) → slice_get ps at ≡ Some p → IfSome (slice_get ps at) P → P p
said ps at p P e h = subst (λ o. IfSome o P) e h

pub within : (ps : List Process) (at : ℕ) (p : Process) → slice_get ps at ≡ Some p → at < length ps
within ps at p e = slice_get_within ps at p e

pub got : (ps : List Process) (at : ℕ) (p : Process) → slice_get ps at ≡ Some p → p ≡ get_or ps at p
got ps at p e = sym (get_or_from_slice_get ps at p p e)

-- the process that was set at an index is read there
set_there : (ps cur : List Process) (at : ℕ) (p q : Process) → slice_get ps at ≡ Some p → cur ≡ set ps at q → slice_get cur at ≡ Some q
set_there ps cur at p q e c = ap (λ ps. slice_get ps at) c ∙ get_set ps at q (within ps at p e)

-- ---- messages

abbrev pub stepped_on : Process → TermValue → Place → Process
stepped_on p value next = goes_on (put_x p 0 value) next

abbrev pub Steps : List Process → ℕ → TermValue → Place → Stepped → List Process → Type 0
Steps ps at value next s mid = IfSome (slice_get ps at) (λ p. (mid ≡ set ps at (stepped_on p value next)) × (stepped_back (stepped_on p value next) s ≡ p))

pub sent : (clock references pid at to : ℕ) (next : Place) (old mid new : List Process) (p : Process) (s : Stepped) (message value : TermValue) → pid ≡ at + 1 → Runs old pid at p
    → message ≡ read_x p.x 1 → value ≡ read_x p.x 1 → Steps old at value next s mid → new ≡ posted mid to (Message message) → RespondsBy clock pid (sending to next) references old (Ok GoesOn) references new
sent clock references pid at to next old mid new p s message value e r m v h is =
    let step : mid ≡ set old at (stepped_on p (read_x p.x 1) next) = subst (λ v. mid ≡ set old at (stepped_on p v next)) v (said old at p (λ p. (mid ≡ set old at (stepped_on p value next)) × (stepped_back (stepped_on p value next) s ≡ p)) r.1.0 h).0 in
    message_sent clock references pid at to next old new p (stepped_on p (read_x p.x 1) next) e (within old at p r.1.0) (got old at p r.1.0) r.1.1 refl
    (is ∙ (ap (λ m. posted mid to (Message m)) m ∙ ap (λ ps. posted ps to (Message (read_x p.x 1))) step))

pub unsent : (pid at : ℕ) (next : Place) (old mid cur new : List Process) (p : Process) (s : Stepped) (value : TermValue) → Runs old pid at p → Steps old at value next s mid → cur ≡ mid
    → IfSome (slice_get cur at) (λ q. new ≡ set cur at (stepped_back q s)) → new ≡ old
unsent pid at next old mid cur new p s value r h is back =
    let step = said old at p (λ p. (mid ≡ set old at (stepped_on p value next)) × (stepped_back (stepped_on p value next) s ≡ p)) r.1.0 h in
    let q : Process = stepped_on p value next in
    let there : slice_get cur at ≡ Some q = set_there old cur at p q r.1.0 (is ∙ step.0) in
    said cur at q (λ q. new ≡ set cur at (stepped_back q s)) there back
    ∙ undone old cur at p q (stepped_back q s) (within old at p r.1.0) (got old at p r.1.0) (is ∙ step.0) step.1
