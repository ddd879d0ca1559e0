-- Calls by module name, and returns: by computing the row.
use Rattle.std.proofs.Common.{◌≡◌, ℕ, ◌+◌, true, false, cond, List, ◌∷◌, nat_lt, refl, sym, ap, ◌∙◌, Some, None, option_map, option_and_then, is_some, ap₂, Ok}
use Rattle.beam_term.specs.Prelude.{TermValue, atom_term}
use Rattle.beam_model.specs.Prelude.{Place, is_erlang, native_named, native_value}
use Rattle.beam_model.specs.declared.native.Native.{Native}
use Rattle.beam_model.specs.declared.exception.Fault.TheVariants.{Undef, SystemLimit}
use Rattle.beam_machine.specs.declared.action.Action.{Action}
use Rattle.beam_machine.specs.declared.action.Action.TheVariants.{Control}
use Rattle.beam_machine.specs.declared.action.Control.TheVariants.{CallExternal, CallExternalOnly, CallExternalLast, Apply, ApplyLast, Return}
use Rattle.beam_machine.specs.declared.callee.After.TheVariants as After
use Rattle.beam_machine.specs.declared.callee.Callee.TheVariants.{Function, Native as NativeCallee}
use Rattle.beam_machine.specs.declared.event.Event.TheVariants as event
use Rattle.beam_machine.specs.declared.process.Frame.{Frame}
use Rattle.beam_machine.specs.declared.process.Goes.TheVariants.{At, Enter}
use Rattle.beam_machine.specs.Prelude.{Code, answers, arguments_of, put_x, own_pid, versions_of, entry_of, entry_in, callee_named, erlang_callee, Process, is_running, words_of, dropped, read_x, ended, normal, makes, after_dropping, applies, callee_at, calls, calls_only, enters, faults, goes_on, illegal, perform, performs, with_new_frame, outcome, outcome_at, returns_from, returns_to, State, process_of, row_and, running, next, done_by, with_process}
use Rattle.beam_machine.specs.Next.{steps}
use Rattle.beam_machine.specs.Row.{applied}
use Rattle.beam_laws.proofs.Hearing.{hearing_here}
use Rattle.beam_laws.proofs.Numbered.{put_here}
use Rattle.beam_laws.proofs.Sending.{steps_state}
use Rattle.beam_next_laws.specs.Places.{StandsAt, IsCurrentEntry}

-- the outcome of the row at which a process stands is that of its action
pub performed : (code : Code) (p : Process) (action : Action) (next : Place) → StandsAt code p action next → outcome code p ≡ perform code action next p
performed code p action next (place, step, at, there, is, after) =
    ap (λ goes. outcome_at code goes p) at
    ∙ (ap (λ o. performs code place.instance o p) there
    ∙ (ap (λ a. perform code a (record { instance = place.instance; at = step.next }) p) is ∙ ap (λ next. perform code action next p) (sym after)))

found : (code : Code) (name function : List ℕ) (arity : ℕ) (entry : Place) → IsCurrentEntry code name function arity entry → entry_of code name function arity ≡ Some entry
unfolding entry_of
found code name function arity entry (i, current, number, at) =
    ap (option_and_then (λ i. entry_in i function arity)) current
    ∙ (ap (option_map (λ at. record { instance = i.number; at = at })) at ∙ ap (λ n. Some (record { instance = n; at = entry.at })) (sym number))

gone : (code : Code) (name function : List ℕ) (arity : ℕ) → (versions_of code name).current ≡ None → entry_of code name function arity ≡ None
unfolding entry_of
gone code name function arity e = ap (option_and_then (λ i. entry_in i function arity)) e

function_of : (name function : List ℕ) (arity : ℕ) → is_erlang name ≡ false → callee_named name function arity ≡ Function name function arity
unfolding callee_named
function_of name function arity e = ap (λ b. cond b (erlang_callee function arity (native_named function arity)) (Function name function arity)) e

calls_there : (code : Code) (p : Process) (next entry : Place) (name function : List ℕ) (arity : ℕ) → IsCurrentEntry code name function arity entry → nat_lt (words_of p.frames) 65536 ≡ true
    → calls code (Function name function arity) next p ≡ makes (goes_on (with_new_frame p next) entry)
calls_there code p next entry name function arity e room =
    ap (λ b. makes (cond b (enters (with_new_frame p next) (entry_of code name function arity)) (faults p SystemLimit))) room
    ∙ ap (λ o. makes (enters (with_new_frame p next) o)) (found code name function arity entry e)

goes_there : (code : Code) (p : Process) (entry : Place) (name function : List ℕ) (arity : ℕ) → IsCurrentEntry code name function arity entry
    → calls_only code (Function name function arity) p ≡ makes (goes_on p entry)
goes_there code p entry name function arity e = ap (λ o. makes (enters p o)) (found code name function arity entry e)

pub call_enters : (code : Code) (p : Process) (next entry : Place) (name function : List ℕ) (arity : ℕ) → StandsAt code p (Control (CallExternal (Function name function arity))) next
    → IsCurrentEntry code name function arity entry → nat_lt (words_of p.frames) 65536 ≡ true → outcome code p ≡ makes (goes_on (with_new_frame p next) entry)
call_enters code p next entry name function arity at e room = performed code p (Control (CallExternal (Function name function arity))) next at ∙ calls_there code p next entry name function arity e room

pub only_enters : (code : Code) (p : Process) (next entry : Place) (name function : List ℕ) (arity : ℕ) → StandsAt code p (Control (CallExternalOnly (Function name function arity))) next
    → IsCurrentEntry code name function arity entry → outcome code p ≡ makes (goes_on p entry)
only_enters code p next entry name function arity at e = performed code p (Control (CallExternalOnly (Function name function arity))) next at ∙ goes_there code p entry name function arity e

pub last_enters : (code : Code) (p q : Process) (next entry : Place) (name function : List ℕ) (arity n : ℕ) → StandsAt code p (Control (CallExternalLast n (Function name function arity))) next
    → IsCurrentEntry code name function arity entry → dropped n p p.frames ≡ Some q → outcome code p ≡ makes (goes_on q entry)
last_enters code p q next entry name function arity n at e drops =
    performed code p (Control (CallExternalLast n (Function name function arity))) next at
    ∙ (ap (λ o. after_dropping p o (calls_only code (Function name function arity))) drops ∙ goes_there code q entry name function arity e)

-- the function that apply finds
applied_is : (p : Process) (name function : List ℕ) (arity : ℕ) → read_x p.x arity ≡ atom_term name → read_x p.x (arity + 1) ≡ atom_term function → is_erlang name ≡ false
    → callee_at p arity ≡ Some (Function name function arity)
applied_is p name function arity m f e = ap₂ (λ s t. applied s t arity) m f ∙ ap Some (function_of name function arity e)

pub apply_enters : (code : Code) (p : Process) (next entry : Place) (name function : List ℕ) (arity : ℕ) → StandsAt code p (Control (Apply arity)) next
    → IsCurrentEntry code name function arity entry → read_x p.x arity ≡ atom_term name → read_x p.x (arity + 1) ≡ atom_term function → is_erlang name ≡ false
    → nat_lt (words_of p.frames) 65536 ≡ true → outcome code p ≡ makes (goes_on (with_new_frame p next) entry)
apply_enters code p next entry name function arity at e m f apart room =
    performed code p (Control (Apply arity)) next at
    ∙ (ap (applies p (λ c. calls code c next p)) (applied_is p name function arity m f apart) ∙ calls_there code p next entry name function arity e room)

pub apply_last_enters : (code : Code) (p q : Process) (next entry : Place) (name function : List ℕ) (arity n : ℕ) → StandsAt code p (Control (ApplyLast arity n)) next
    → IsCurrentEntry code name function arity entry → dropped n p p.frames ≡ Some q → read_x q.x arity ≡ atom_term name → read_x q.x (arity + 1) ≡ atom_term function
    → is_erlang name ≡ false → outcome code p ≡ makes (goes_on q entry)
apply_last_enters code p q next entry name function arity n at e drops m f apart =
    performed code p (Control (ApplyLast arity n)) next at
    ∙ (ap (λ o. after_dropping p o (λ q. applies q (λ c. calls_only code c q) (callee_at q arity))) drops
    ∙ (ap (applies q (λ c. calls_only code c q)) (applied_is q name function arity m f apart) ∙ goes_there code q entry name function arity e))

pub first_enters : (code : Code) (p : Process) (entry : Place) (name function : List ℕ) (arity : ℕ) → p.goes ≡ Enter name function arity
    → IsCurrentEntry code name function arity entry → is_erlang name ≡ false → outcome code p ≡ makes (goes_on p entry)
first_enters code p entry name function arity at e apart =
    ap (λ goes. outcome_at code goes p) at ∙ (ap (λ c. calls_only code c p) (function_of name function arity apart) ∙ goes_there code p entry name function arity e)

pub none_raises : (code : Code) (p : Process) (next : Place) (name function : List ℕ) (arity : ℕ) → StandsAt code p (Control (CallExternalOnly (Function name function arity))) next
    → (versions_of code name).current ≡ None → outcome code p ≡ makes (faults p Undef)
none_raises code p next name function arity at e =
    performed code p (Control (CallExternalOnly (Function name function arity))) next at ∙ ap (λ o. makes (enters p o)) (gone code name function arity e)

-- ---- one row in the node

pub one_row : (s : State) (pid : ℕ) (p q : Process) → process_of s.processes pid ≡ Some p → is_running p.status ≡ true → outcome s.code p ≡ makes q
    → process_of (next s (event.Steps pid 1)).state.processes pid ≡ Some q
one_row s pid p q at runs is =
    let there : running (process_of s.processes pid) ≡ Some p = ap running at ∙ ap (λ b. cond b (Some p) None) runs in
    ap (λ t. process_of t.processes pid) (steps_state s pid 1)
    ∙ (ap (λ o. process_of (row_and (λ t. steps t pid 0) s pid o).state.processes pid) there
    ∙ (ap (λ o. process_of (done_by s pid o).processes pid) is ∙ hearing_here pid q.status (with_process s.processes pid q) q (put_here s.processes pid p q at) refl))

-- ---- returns

pub goes_back : (code : Code) (p : Process) (next back : Place) (frame : Frame) (older : List Frame) → StandsAt code p (Control Return) next → p.frames ≡ frame ∷ older → frame.y ≡ None
    → frame.back ≡ Some back → outcome code p ≡ makes (record p { frames = older; goes = At back })
goes_back code p next back frame older at frames bare returns =
    performed code p (Control Return) next at
    ∙ (ap (λ fs. makes (returns_from p fs)) frames
    ∙ (ap (λ y. makes (cond (is_some y) (illegal p) (returns_to p older frame.back))) bare ∙ ap (λ o. makes (returns_to p older o)) returns))

pub goes_nowhere : (code : Code) (p : Process) (next : Place) (frame : Frame) (older : List Frame) → StandsAt code p (Control Return) next → p.frames ≡ frame ∷ older → frame.y ≡ None
    → frame.back ≡ None → outcome code p ≡ makes (ended p normal (read_x p.x 0))
goes_nowhere code p next frame older at frames bare returns =
    performed code p (Control Return) next at
    ∙ (ap (λ fs. makes (returns_from p fs)) frames
    ∙ (ap (λ y. makes (cond (is_some y) (illegal p) (returns_to p older frame.back))) bare ∙ ap (λ o. makes (returns_to p older o)) returns))

pub native_goes_back : (code : Code) (p : Process) (next back : Place) (frame : Frame) (older : List Frame) (f : Native) (arity : ℕ) (value : TermValue)
    → StandsAt code p (Control (CallExternalOnly (NativeCallee f arity))) next → native_value f (arguments_of p arity) (own_pid p.pid) ≡ Ok value → p.frames ≡ frame ∷ older
    → frame.y ≡ None → frame.back ≡ Some back → outcome code p ≡ makes (record (put_x p 0 value) { frames = older; goes = At back })
native_goes_back code p next back frame older f arity value at gives frames bare returns =
    let q : Process = put_x p 0 value in
    performed code p (Control (CallExternalOnly (NativeCallee f arity))) next at
    ∙ (ap (λ v. makes (answers p After.Return v)) gives
    ∙ (ap (λ fs. makes (returns_from q fs)) frames
    ∙ (ap (λ y. makes (cond (is_some y) (illegal q) (returns_to q older frame.back))) bare ∙ ap (λ o. makes (returns_to q older o)) returns)))
