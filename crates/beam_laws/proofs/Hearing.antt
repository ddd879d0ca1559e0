-- The DOWNs of an end, and of the ends that a change of code makes.
use Rattle.std.proofs.Common.{◌≡◌, ℕ, ◌-◌, ◌||◌, Bool, true, false, cond, nat_lt, List, [], ◌∷◌, ◌++◌, append-nil, length, map, slice_get, refl, sym, ap, ◌∙◌, Option, Some, None, option_map, filter, flat_map}
use Rattle.std.proofs.lemmas.List.{length-map}
use Rattle.std.proofs.lemmas.Option.{slice_get-map}
use Rattle.std.specs.List.{list_any}
use Rattle.std.proofs.lemmas.Bool.{or_parts}
use Rattle.beam_machine.specs.declared.process.Signal.{Signal}
use Rattle.beam_machine.specs.declared.process.Status.{Status}
use Rattle.beam_machine.specs.declared.process.Status.TheVariants.{Running, Waiting, Ended}
use Rattle.beam_machine.specs.Prelude.{old_of, lingers, lingers_at, lingers_in_old, lingers_in_olds, pids_of, ends_or_hears, killing, Code, Process, is_ended, ended, killed, process_of, with_signals, downs, hearing_by}
use Rattle.beam_term.specs.Prelude.{nil_term}
use Rattle.beam_laws.specs.Prelude.{downs_of_end}

-- ---- a process with more signals in transit to it

pub none_more : (p : Process) → with_signals [] p ≡ p
none_more p = elim (is_ended p.status) as (λ b. cond b p (record p { transit = p.transit ++ [] }) ≡ p) [
  | true ↦ refl
  | false ↦ ap (λ ts. record p { transit = ts }) (append-nil p.transit)
]

-- an ended process gets no signals
pub gets_none : (signals : List Signal) (p : Process) → is_ended p.status ≡ true → with_signals signals p ≡ p
gets_none signals p over = ap (λ b. cond b p (record p { transit = p.transit ++ signals })) over

-- a value that doesn't depend on the signals in transit is as before
pub as_before : {A : Type 0} (of : Process → A) (signals : List Signal) (p : Process) → of (record p { transit = p.transit ++ signals }) ≡ of p → of (with_signals signals p) ≡ of p
as_before of signals p same = elim (is_ended p.status) as (λ b. of (cond b p (record p { transit = p.transit ++ signals })) ≡ of p) [ true ↦ refl | false ↦ same ]

-- ---- the DOWNs of an end

abbrev pub hears : ℕ → Status → Process → Process
hears pid status q = with_signals (downs_of_end pid status q) q

unchanged : (f : Process → Process) → ((q : Process) → f q ≡ q) → (ps : List Process) → map f ps ≡ ps
unchanged f same [] = refl
unchanged f same (p ∷ ps) = ap (λ q. q ∷ map f ps) (same p) ∙ ap (λ qs. p ∷ qs) (unchanged f same ps)

pub hearing_is : (pid : ℕ) (status : Status) (ps : List Process) → hearing_by pid status ps ≡ map (hears pid status) ps
hearing_is pid Running ps = sym (unchanged (hears pid Running) none_more ps)
hearing_is pid Waiting ps = sym (unchanged (hears pid Waiting) none_more ps)
hearing_is pid (Ended reason value) ps = refl

-- a process that hasn't ended sends no DOWNs
pub none_hear : (pid : ℕ) (status : Status) (ps : List Process) → is_ended status ≡ false → hearing_by pid status ps ≡ ps
none_hear pid Running ps lives = refl
none_hear pid Waiting ps lives = refl
none_hear pid (Ended reason value) ps lives = cc

pub process_map : (f : Process → Process) (ps : List Process) (n : ℕ) → process_of (map f ps) n ≡ option_map f (process_of ps n)
process_map f ps n = elim (nat_lt 0 n) as (λ b. cond b (slice_get (map f ps) (n - 1)) None ≡ option_map f (cond b (slice_get ps (n - 1)) None)) [
  | true ↦ slice_get-map f ps (n - 1)
  | false ↦ refl
]

pub hearing_at : (pid : ℕ) (status : Status) (ps : List Process) (n : ℕ) → process_of (hearing_by pid status ps) n ≡ option_map (hears pid status) (process_of ps n)
hearing_at pid status ps n = ap (λ qs. process_of qs n) (hearing_is pid status ps) ∙ process_map (hears pid status) ps n

-- the process that ended gets no DOWN
pub own_hears : (pid : ℕ) (status : Status) (p : Process) → p.status ≡ status → hears pid status p ≡ p
own_hears pid Running p e = none_more p
own_hears pid Waiting p e = none_more p
own_hears pid (Ended reason value) p e = gets_none (downs pid reason p.monitors) p (ap is_ended e)

pub hearing_here : (pid : ℕ) (status : Status) (ps : List Process) (p : Process) → process_of ps pid ≡ Some p → p.status ≡ status → process_of (hearing_by pid status ps) pid ≡ Some p
hearing_here pid status ps p e same = hearing_at pid status ps pid ∙ (ap (option_map (hears pid status)) e ∙ ap Some (own_hears pid status p same))

-- there are no DOWNs of a process that hasn't ended
pub none_heard : (pid : ℕ) (status : Status) (q : Process) → is_ended status ≡ false → downs_of_end pid status q ≡ []
none_heard pid Running q lives = refl
none_heard pid Waiting q lives = refl
none_heard pid (Ended reason value) q lives = cc

-- the DOWNs to a process don't depend on the signals in transit to it
pub heard_same : (pid : ℕ) (status : Status) (signals : List Signal) (q : Process) → downs_of_end pid status (with_signals signals q) ≡ downs_of_end pid status q
heard_same pid Running signals q = refl
heard_same pid Waiting signals q = refl
heard_same pid (Ended reason value) signals q = as_before (λ q. downs pid reason q.monitors) signals q refl

pub hearing_length : (pid : ℕ) (status : Status) (ps : List Process) → length (hearing_by pid status ps) ≡ length ps
hearing_length pid status ps = ap length (hearing_is pid status ps) ∙ length-map ps (hears pid status)

-- ---- ends by a change of code

-- no process passes the test, so none ends
none_pass : (test : Process → Bool) (ps : List Process) → list_any test ps ≡ false → pids_of test ps ≡ []
none_pass test [] = λ e. refl
none_pass test (p ∷ ps) = go (test p) (none_pass test ps)
  where
    go : (b : Bool) → (list_any test ps ≡ false → pids_of test ps ≡ []) → (b || list_any test ps) ≡ false → map (λ p. p.pid) (cond b (p ∷ filter test ps) (filter test ps)) ≡ []
    go true more e = cc
    go false more e = more e

none_killed : (test : Process → Bool) (pids : List ℕ) (ps : List Process) → pids ≡ [] → list_any test ps ≡ false → map (ends_or_hears test pids) ps ≡ ps
none_killed test pids [] none = λ e. refl
none_killed test pids (p ∷ ps) none = λ e.
    let each = or_parts (test p) (list_any test ps) e in
    let spared : ends_or_hears test pids p ≡ p =
    ap (λ b. cond b (ended p killed nil_term) (with_signals (flat_map (λ pid. downs pid killed p.monitors) pids) p)) each.0
    ∙ (ap (λ ns. with_signals (flat_map (λ pid. downs pid killed p.monitors) ns) p) none ∙ none_more p) in
    ap (λ q. q ∷ map (ends_or_hears test pids) ps) spared ∙ ap (λ qs. p ∷ qs) (none_killed test pids ps none each.1)

pub nobody_ends : (test : Process → Bool) (ps : List Process) → list_any test ps ≡ false → killing test ps ≡ ps
nobody_ends test ps e = none_killed test (pids_of test ps) ps (none_pass test ps e) e

-- after the ends no process passes the test, where neither an end nor more signals in transit make one pass
pub all_ended : (test : Process → Bool) (pids : List ℕ) (ps : List Process) → ((p : Process) → test (ended p killed nil_term) ≡ false)
    → ((signals : List Signal) (p : Process) → test (with_signals signals p) ≡ test p) → list_any test (map (ends_or_hears test pids) ps) ≡ false
all_ended test pids [] over hears = refl
all_ended test pids (p ∷ ps) over hears = ap (λ b. b || list_any test (map (ends_or_hears test pids) ps)) (go (test p) refl) ∙ all_ended test pids ps over hears
  where
    signals : List Signal
    signals = flat_map (λ pid. downs pid killed p.monitors) pids

    go : (b : Bool) → test p ≡ b → test (cond b (ended p killed nil_term) (with_signals signals p)) ≡ false
    go true e = over p
    go false e = hears signals p ∙ e

-- ---- lingering in old code

pub lingers_same : (o : Option ℕ) (signals : List Signal) (p : Process) → lingers_at o (with_signals signals p) ≡ lingers_at o p
lingers_same None signals p = refl
lingers_same (Some number) signals p = as_before (lingers number) signals p refl

pub lingers_not : (o : Option ℕ) (p : Process) → ((number : ℕ) → lingers number p ≡ false) → lingers_at o p ≡ false
lingers_not None p nowhere = refl
lingers_not (Some number) p nowhere = nowhere number

pub in_olds_same : (code : Code) (names : List (List ℕ)) (signals : List Signal) (p : Process) → lingers_in_olds code names (with_signals signals p) ≡ lingers_in_olds code names p
in_olds_same code [] signals p = refl
in_olds_same code (name ∷ names) signals p =
    ap (λ b. b || lingers_in_olds code names (with_signals signals p)) (lingers_same (old_of code name) signals p)
    ∙ ap (λ b. lingers_in_old code name p || b) (in_olds_same code names signals p)

pub in_olds_not : (code : Code) (names : List (List ℕ)) (p : Process) → ((number : ℕ) → lingers number p ≡ false) → lingers_in_olds code names p ≡ false
in_olds_not code [] p nowhere = refl
in_olds_not code (name ∷ names) p nowhere = ap (λ b. b || lingers_in_olds code names p) (lingers_not (old_of code name) p nowhere) ∙ in_olds_not code names p nowhere
