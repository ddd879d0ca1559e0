-- What a native of the node keeps of each process.
use Rattle.std.proofs.Common.{◌≡◌, ℕ, zero, suc, ◌+◌, ◌-◌, ◌<◌, Bool, true, false, cond, not, nat_lt, List, [], ◌∷◌, ◌++◌, length, slice_get, get_or, refl, sym, ap, subst, ◌∙◌, arith, is_some, ◌&&◌, Option, Some, None, Result, Ok, Err, option_map, slice_set, codes}
use Rattle.std.proofs.lemmas.Option.{slice_get-get_or, same_Some}
use Rattle.beam_machine.specs.declared.process.Frame.{Frame}
use Rattle.beam_machine.specs.declared.process.Signal.{Signal}
use Rattle.beam_machine.specs.declared.process.Signal.TheVariants.{Message, Exit as ExitSignal, Down}
use Rattle.beam_machine.specs.declared.process.Status.{Status}
use Rattle.beam_machine.specs.Prelude.{Process, is_ended, started, own_pid, own_reference, own_number, arguments_from, process_of, with_process, alive, live_process, registered, posted_to, posted, Answered, answer, fault, most_processes, spawns_with, is_free, names, registers, unnames, unregisters, is_alive, posted_if_own, sends_named, most_references, makes_reference, or_noproc, put_monitor, monitored, monitors_by, answer_of}
use Rattle.beam_model.specs.declared.exception.Fault.{Fault}
use Rattle.beam_model.specs.declared.exception.Fault.TheVariants.{Badarg, SystemLimit}
use Rattle.beam_model.specs.declared.native.NodeNative.{NodeNative}
use Rattle.beam_model.specs.declared.native.NodeNative.TheVariants.{Spawn, Register, Unregister, Whereis, IsProcessAlive, Exit, Send, MakeRef, Monitor}
use Rattle.beam_model.specs.Prelude.{truth, elements_in, same_text}
use Rattle.beam_term.specs.Prelude.{TermValue, atom_term, pid_term}
use Rattle.beam_laws.proofs.Ending.{at_index}
use Rattle.beam_state.specs.Prelude.{is_make_ref}

-- ---- the parts of a process that natives keep

abbrev pub Kept : Type 0
Kept = List TermValue × Status × List Frame

abbrev pub kept : Process → Kept
kept p = (p.x, p.status, p.frames)

abbrev pub kept_at : List Process → ℕ → Option Kept
kept_at ps at = option_map kept (slice_get ps at)

-- each process of the first list is in the second, with the same x registers, frames and status
abbrev pub Stay : List Process → List Process → Type 0
Stay ps qs = (at : ℕ) (k : Kept) → kept_at ps at ≡ Some k → kept_at qs at ≡ Some k

set_keeps : (ps : List Process) (j at : ℕ) (p q : Process) → slice_get ps j ≡ Some p → kept q ≡ kept p → kept_at (slice_set ps j q) at ≡ kept_at ps at
set_keeps [] j at p q e s = refl
set_keeps (r ∷ ps) zero zero p q e s = ap Some (s ∙ ap kept (sym (same_Some r p e)))
set_keeps (r ∷ ps) zero (suc at) p q e s = refl
set_keeps (r ∷ ps) (suc j) zero p q e s = refl
set_keeps (r ∷ ps) (suc j) (suc at) p q e s = set_keeps ps j at p q e s

push_keeps : (ps : List Process) (at : ℕ) (q : Process) (k : Kept) → kept_at ps at ≡ Some k → kept_at (ps ++ q ∷ []) at ≡ Some k
push_keeps [] at q k e = cc
push_keeps (r ∷ ps) zero q k e = e
push_keeps (r ∷ ps) (suc at) q k e = push_keeps ps at q k e

pub kept_within : (ps : List Process) (at : ℕ) (k : Kept) → kept_at ps at ≡ Some k → at < length ps
kept_within [] at k e = cc
kept_within (p ∷ ps) zero k e = omega arith
kept_within (p ∷ ps) (suc at) k e = let below : at < length ps = kept_within ps at k e in omega arith

pub kept_there : (ps : List Process) (at : ℕ) (p : Process) → at < length ps → p ≡ get_or ps at p → kept_at ps at ≡ Some (kept p)
kept_there ps at p l g = ap (option_map kept) (slice_get-get_or ps at p l ∙ ap Some (sym g))

-- ---- one process of the list

alive_is : (o : Option Process) (p : Process) → alive o ≡ Some p → o ≡ Some p
alive_is None p e = cc
alive_is (Some q) p e = by (is_ended q.status) e
  where
    by : (b : Bool) → cond b None (Some q) ≡ Some p → Some q ≡ Some p
    by true e = cc
    by false e = e

pub live_at : (ps : List Process) (pid : ℕ) (p : Process) → live_process ps pid ≡ Some p → slice_get ps (pid - 1) ≡ Some p
live_at ps pid p e = at_index ps pid p (alive_is (process_of ps pid) p e)

-- ---- signals

posted_to_stay : (ps : List Process) (pid : ℕ) (signal : Signal) (o : Option Process) → live_process ps pid ≡ o → Stay ps (posted_to ps pid signal o)
posted_to_stay ps pid signal None e = λ at k h. h
posted_to_stay ps pid signal (Some p) e =
    λ at k h. set_keeps ps (pid - 1) at p (record p { transit = p.transit ++ signal ∷ [] }) (live_at ps pid p e) refl ∙ h

pub posted_stay : (ps : List Process) (pid : ℕ) (signal : Signal) → Stay ps (posted ps pid signal)
posted_stay ps pid signal = posted_to_stay ps pid signal (live_process ps pid) refl

signalled_stay : (ps : List Process) (o : Option ℕ) (signal : Signal) → Stay ps (posted_if_own ps o signal)
signalled_stay ps None signal = λ at k h. h
signalled_stay ps (Some pid) signal = posted_stay ps pid signal

-- ---- what natives leave

-- a native with a value leaves all processes there; one with a fault changes nothing
abbrev LeavesBy : List Process → List Process → Option ℕ → Result TermValue Fault → Type 0
LeavesBy ps qs made (Ok value) = Stay ps qs
LeavesBy ps qs made (Err f) = (qs ≡ ps) × (made ≡ None)

abbrev Leaves : List Process → Answered → Type 0
Leaves ps a = LeavesBy ps a.processes a.made a.value

either : (ps : List Process) (b : Bool) (x y : Answered) → Leaves ps x → Leaves ps y → Leaves ps (cond b x y)
either ps true x y h k = h
either ps false x y h k = k

spawns_leave : (ps : List Process) (name function : List ℕ) (o : Option (List TermValue)) → Leaves ps (spawns_with ps name function o)
spawns_leave ps name function None = (refl, refl)
spawns_leave ps name function (Some arguments) =
    let new : Process = started (length ps + 1) name function arguments in
    let spawned : Answered = answer (ps ++ new ∷ []) (own_pid (length ps + 1)) in
    let b : Bool = nat_lt (length ps) most_processes in
    either ps (nat_lt 255 (length arguments)) (fault ps Badarg) (cond b spawned (fault ps SystemLimit)) (refl, refl) (either ps b spawned (fault ps SystemLimit) (λ at k h. push_keeps ps at new k h) (refl, refl))

names_leave : (ps : List Process) (name : List ℕ) (pid : ℕ) (o : Option Process) → live_process ps pid ≡ o → Leaves ps (names ps name pid o)
names_leave ps name pid None e = (refl, refl)
names_leave ps name pid (Some p) e =
    either ps (is_free ps name && not (is_some p.name)) (answer (with_process ps pid (record p { name = Some name })) (truth true)) (fault ps Badarg)
    (λ at k h. set_keeps ps (pid - 1) at p (record p { name = Some name }) (live_at ps pid p e) refl ∙ h) (refl, refl)

registers_leave : (ps : List Process) (name : List ℕ) (o : Option ℕ) → Leaves ps (registers ps name o)
registers_leave ps name None = (refl, refl)
registers_leave ps name (Some pid) = names_leave ps name pid (live_process ps pid) refl

unnames_leave : (ps : List Process) (pid : ℕ) (o : Option Process) → live_process ps pid ≡ o → Leaves ps (unnames ps pid o)
unnames_leave ps pid None e = (refl, refl)
unnames_leave ps pid (Some p) e = λ at k h. set_keeps ps (pid - 1) at p (record p { name = None }) (live_at ps pid p e) refl ∙ h

unregisters_leave : (ps : List Process) (o : Option ℕ) → Leaves ps (unregisters ps o)
unregisters_leave ps None = (refl, refl)
unregisters_leave ps (Some pid) = unnames_leave ps pid (live_process ps pid) refl

sends_leave : (ps : List Process) (o : Option ℕ) (message : TermValue) → Leaves ps (sends_named ps o message)
sends_leave ps None message = (refl, refl)
sends_leave ps (Some pid) message = posted_stay ps pid (Message message)

watching_stay : (ps : List Process) (caller n : ℕ) (watched : TermValue) (o : Option Process) → live_process ps caller ≡ o → Stay ps (put_monitor ps caller n watched o)
watching_stay ps caller n watched None e = λ at k h. h
watching_stay ps caller n watched (Some p) e =
    λ at k h. set_keeps ps (caller - 1) at p (record p { monitors = p.monitors ++ record { reference = n; pid = watched } ∷ [] }) (live_at ps caller p e) refl ∙ h

noproc_stay : (ps : List Process) (caller n : ℕ) (watched : TermValue) → Stay ps (or_noproc ps caller n watched)
noproc_stay ps caller n watched =
    let signal : Signal = Down n (atom_term (codes "noproc")) in
    elim (is_alive ps (own_number watched)) as (λ b. Stay ps (cond b ps (posted ps caller signal))) [ true ↦ λ at k h. h | false ↦ posted_stay ps caller signal ]

monitored_stay : (ps : List Process) (caller n : ℕ) (watched : TermValue) → Stay ps (monitored ps caller watched n)
monitored_stay ps caller n watched =
    let qs : List Process = or_noproc ps caller n watched in
    λ at k h. watching_stay qs caller n watched (live_process qs caller) refl at k (noproc_stay ps caller n watched at k h)

makes_leave : (references : ℕ) (ps : List Process) (f : ℕ → List Process) → ((n : ℕ) → Stay ps (f n)) → Leaves ps (makes_reference references ps f)
makes_leave references ps f stay =
    let n : ℕ = references + 1 in
    either ps (nat_lt references most_references) (record { processes = f n; made = Some n; value = Ok (own_reference n) }) (fault ps SystemLimit) (stay n) (refl, refl)

monitors_leave : (references : ℕ) (ps : List Process) (caller : ℕ) (kind : List ℕ) (watched : TermValue) → Leaves ps (monitors_by references ps caller kind watched)
monitors_leave references ps caller kind watched =
    either ps (same_text kind (codes "process")) (makes_reference references ps (monitored ps caller watched)) (fault ps Badarg)
    (makes_leave references ps (monitored ps caller watched) (λ n. monitored_stay ps caller n watched)) (refl, refl)

answer_leaves : (references : ℕ) (ps : List Process) (caller : ℕ) (native : NodeNative) (arguments : List TermValue) → Leaves ps (answer_of references ps caller native arguments)
answer_leaves references ps caller Spawn (atom_term name ∷ atom_term function ∷ arguments ∷ []) = spawns_leave ps name function (elements_in arguments)
answer_leaves references ps caller Register (atom_term name ∷ pid_term host id serial creation ∷ []) = registers_leave ps name (own_number (pid_term host id serial creation))
answer_leaves references ps caller Unregister (atom_term name ∷ []) = unregisters_leave ps (registered ps name)
answer_leaves references ps caller Whereis (atom_term name ∷ []) = λ at k h. h
answer_leaves references ps caller IsProcessAlive (pid_term host id serial creation ∷ []) = λ at k h. h
answer_leaves references ps caller Exit (pid_term host id serial creation ∷ reason ∷ []) = signalled_stay ps (own_number (pid_term host id serial creation)) (ExitSignal caller reason)
answer_leaves references ps caller Send (pid_term host id serial creation ∷ message ∷ []) = signalled_stay ps (own_number (pid_term host id serial creation)) (Message message)
answer_leaves references ps caller Send (atom_term name ∷ message ∷ []) = sends_leave ps (registered ps name) message
answer_leaves references ps caller MakeRef [] = makes_leave references ps (λ n. ps) (λ n at k h. h)
answer_leaves references ps caller Monitor (atom_term kind ∷ pid_term host id serial creation ∷ []) = monitors_leave references ps caller kind (pid_term host id serial creation)
answer_leaves references ps caller _ _ = (refl, refl)

module _ (references : ℕ) (ps : List Process) (caller : ℕ) (native : NodeNative) (arguments : List TermValue) where
  abbrev pub given : Answered
  given = answer_of references ps caller native arguments

  -- a fault changes nothing
  pub fault_leaves : (f : Fault) → given.value ≡ Err f → (given.processes ≡ ps) × (given.made ≡ None)
  fault_leaves f e = subst (LeavesBy ps given.processes given.made) e (answer_leaves references ps caller native arguments)

  -- each process is still there after a native with a value, with the same x registers, frames and status
  pub value_stays : (value : Result TermValue Fault) → given.value ≡ value → Stay ps given.processes
  value_stays (Ok v) e = subst (LeavesBy ps given.processes given.made) e (answer_leaves references ps caller native arguments)
  value_stays (Err f) e = λ at k h. ap (λ qs. kept_at qs at) (fault_leaves f e).0 ∙ h

-- a native but make_ref has a value only where one of its registers was written
no_value : (references : ℕ) (ps : List Process) (caller : ℕ) (native : NodeNative) (arity : ℕ) (v : TermValue) → is_make_ref native ≡ false
    → (answer_of references ps caller native (arguments_from [] 0 arity)).value ≡ Ok v → ⊥
no_value references ps caller Spawn zero v other e = cc
no_value references ps caller Spawn (suc n) v other e = cc
no_value references ps caller Register zero v other e = cc
no_value references ps caller Register (suc n) v other e = cc
no_value references ps caller Unregister zero v other e = cc
no_value references ps caller Unregister (suc n) v other e = cc
no_value references ps caller Whereis zero v other e = cc
no_value references ps caller Whereis (suc n) v other e = cc
no_value references ps caller IsProcessAlive zero v other e = cc
no_value references ps caller IsProcessAlive (suc n) v other e = cc
no_value references ps caller Exit zero v other e = cc
no_value references ps caller Exit (suc n) v other e = cc
no_value references ps caller Send zero v other e = cc
no_value references ps caller Send (suc n) v other e = cc
no_value references ps caller MakeRef n v other e = cc
no_value references ps caller Monitor zero v other e = cc
no_value references ps caller Monitor (suc n) v other e = cc

pub value_written : (references : ℕ) (ps : List Process) (caller : ℕ) (native : NodeNative) (x : List TermValue) (arity : ℕ) (v : TermValue) → is_make_ref native ≡ false
    → (answer_of references ps caller native (arguments_from x 0 arity)).value ≡ Ok v → 0 < length x
value_written references ps caller native [] arity v other e = absurd (no_value references ps caller native arity v other e)
value_written references ps caller native (t ∷ x) arity v other e = omega arith

-- an index at which these parts are kept has a process with these parts
pub kept_has : (ps : List Process) (at : ℕ) (k : Kept) → kept_at ps at ≡ Some k → (q : Process) × ((slice_get ps at ≡ Some q) × (kept q ≡ k))
kept_has ps at k e = by (slice_get ps at) refl e
  where
    is : (a : Kept) → Some a ≡ Some k → a ≡ k
    is a e = cc

    by : (o : Option Process) → slice_get ps at ≡ o → option_map kept o ≡ Some k → (q : Process) × ((slice_get ps at ≡ Some q) × (kept q ≡ k))
    by None f e = cc
    by (Some q) f e = (q, (f, is (kept q) e))
