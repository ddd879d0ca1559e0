-- Processes that are set, started, named and sent to stay in live instances.
use Rattle.std.proofs.Common.{◌≡◌, ℕ, suc, zero, ◌+◌, ◌-◌, cond, subst, true, false, nat_lt, List, [], ◌∷◌, ◌++◌, length, slice_get, Option, Some, None, codes}
use Rattle.std.proofs.Math.ListN.{set}
use Rattle.beam_machine.specs.declared.process.Signal.{Signal}
use Rattle.beam_machine.specs.declared.process.Signal.TheVariants.{Down}
use Rattle.beam_machine.specs.Prelude.{Code, IsHome, AreHome, Process, is_ended, started, own_number, process_of, with_process, alive, live_process, posted_to, posted, Answered, is_alive, or_noproc, put_monitor, monitored, answer_of, Sent}
use Rattle.beam_term.specs.Prelude.{TermValue, atom_term}
use Rattle.beam_model.specs.declared.native.NodeNative.{NodeNative}
use Rattle.beam_laws.proofs.NodeAnswers.{Answers, keeps_all, starts_one, names_one, unnames_one, posts_one, makes_one, monitors_one, answer_is}

-- ---- the list of processes

abbrev pub IsHomeIf : Code → Option Process → Type 0
IsHomeIf code (Some p) = IsHome code p
IsHomeIf code None = Unit {0}

pub set_home : (code : Code) (ps : List Process) (at : ℕ) (p : Process) → AreHome code ps → IsHome code p → AreHome code (set ps at p)
set_home code [] at p h i = tt
set_home code (q ∷ qs) zero p h i = (i, h.1)
set_home code (q ∷ qs) (suc at) p h i = (h.0, set_home code qs at p h.1 i)

get_home : (code : Code) (ps : List Process) (at : ℕ) → AreHome code ps → IsHomeIf code (slice_get ps at)
get_home code [] at h = tt
get_home code (q ∷ qs) zero h = h.0
get_home code (q ∷ qs) (suc at) h = get_home code qs at h.1

pub process_home : (code : Code) (ps : List Process) (pid : ℕ) → AreHome code ps → IsHomeIf code (process_of ps pid)
process_home code ps pid h =
    elim (nat_lt 0 pid) as (λ c. IsHomeIf code (cond c (slice_get ps (pid - 1)) None)) [ true ↦ get_home code ps (pid - 1) h | false ↦ tt ]

alive_home : (code : Code) (o : Option Process) → IsHomeIf code o → IsHomeIf code (alive o)
alive_home code None h = tt
alive_home code (Some p) h = elim (is_ended p.status) as (λ c. IsHomeIf code (cond c None (Some p))) [ true ↦ tt | false ↦ h ]

pub live_home : (code : Code) (ps : List Process) (pid : ℕ) → AreHome code ps → IsHomeIf code (live_process ps pid)
live_home code ps pid h = alive_home code (process_of ps pid) (process_home code ps pid h)

pub appended_home : (code : Code) (ps : List Process) (p : Process) → AreHome code ps → IsHome code p → AreHome code (ps ++ p ∷ [])
appended_home code [] p h i = (i, tt)
appended_home code (q ∷ qs) p h i = (h.0, appended_home code qs p h.1 i)

pub started_home : (code : Code) (pid : ℕ) (name function : List ℕ) (arguments : List TermValue) → IsHome code (started pid name function arguments)
started_home code pid name function arguments = λ n e. cc

-- ---- signals

posted_to_home : (code : Code) (ps : List Process) (pid : ℕ) (signal : Signal) (o : Option Process) → AreHome code ps → IsHomeIf code o → AreHome code (posted_to ps pid signal o)
posted_to_home code ps pid signal None h i = h
posted_to_home code ps pid signal (Some p) h i = set_home code ps (pid - 1) (record p { transit = p.transit ++ signal ∷ [] }) h i

pub posted_home : (code : Code) (ps : List Process) (pid : ℕ) (signal : Signal) → AreHome code ps → AreHome code (posted ps pid signal)
posted_home code ps pid signal h = posted_to_home code ps pid signal (live_process ps pid) h (live_home code ps pid h)

-- ---- natives of the node

watching_home : (code : Code) (ps : List Process) (caller n : ℕ) (watched : TermValue) (o : Option Process) → AreHome code ps → IsHomeIf code o → AreHome code (put_monitor ps caller n watched o)
watching_home code ps caller n watched None h i = h
watching_home code ps caller n watched (Some p) h i = set_home code ps (caller - 1) _ h i

noproc_home : (code : Code) (ps : List Process) (caller n : ℕ) (watched : TermValue) → AreHome code ps → AreHome code (or_noproc ps caller n watched)
noproc_home code ps caller n watched h =
    let signal : Signal = Down n (atom_term (codes "noproc")) in
    elim (is_alive ps (own_number watched)) as (λ b. AreHome code (cond b ps (posted ps caller signal))) [ true ↦ h | false ↦ posted_home code ps caller signal h ]

monitored_home : (code : Code) (ps : List Process) (caller : ℕ) (watched : TermValue) (n : ℕ) → AreHome code ps → AreHome code (monitored ps caller watched n)
monitored_home code ps caller watched n h =
    let qs : List Process = or_noproc ps caller n watched in
    let k : AreHome code qs = noproc_home code ps caller n watched h in
    watching_home code qs caller n watched (live_process qs caller) k (live_home code qs caller k)

-- a process that hasn't ended, with another name
renamed_home : (code : Code) (ps : List Process) (pid : ℕ) (p : Process) (name : Option (List ℕ)) → AreHome code ps → live_process ps pid ≡ Some p
    → AreHome code (with_process ps pid (record p { name = name }))
renamed_home code ps pid p name h e = set_home code ps (pid - 1) (record p { name = name }) h (subst (IsHomeIf code) e (live_home code ps pid h))

answered_home : (code : Code) (references : ℕ) (ps : List Process) (caller : ℕ) (native : NodeNative) (xs : List Sent) (a : Answered) → AreHome code ps
    → Answers references ps caller native xs a → AreHome code a.processes
answered_home code references ps caller native _ _ h (keeps_all value) = h
answered_home code references ps caller native _ _ h (starts_one name function arguments value) =
    appended_home code ps (started (length ps + 1) name function arguments) h (started_home code (length ps + 1) name function arguments)
answered_home code references ps caller native _ _ h (names_one name pid p value e free) = renamed_home code ps pid p (Some name) h e
answered_home code references ps caller native _ _ h (unnames_one pid p value e) = renamed_home code ps pid p None h e
answered_home code references ps caller native _ _ h (posts_one to signal value plain) = posted_home code ps to signal h
answered_home code references ps caller native _ _ h (makes_one value) = h
answered_home code references ps caller native _ _ h (monitors_one watched value is) = monitored_home code ps caller watched (references + 1) h

pub answer_home : (code : Code) (references : ℕ) (ps : List Process) (caller : ℕ) (native : NodeNative) (arguments : List TermValue) → AreHome code ps → AreHome code (answer_of references ps caller native arguments).processes
answer_home code references ps caller native arguments h = answered_home code references ps caller native _ _ h (answer_is references ps caller native arguments)
