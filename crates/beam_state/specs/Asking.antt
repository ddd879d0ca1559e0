-- What a row asks of the node, where memory may be refused.
use Rattle.std.specs.Prelude.{◌≡◌, ◌+◌, ℕ, true, List, Option, Some, None, is_some, Result, Ok, Err}
use Rattle.std.specs.declared.alloc.AllocError.{AllocError}
use Rattle.beam_term.specs.Prelude.{TermValue}
use Rattle.beam_model.specs.declared.native.NodeNative.{NodeNative}
use Rattle.beam_model.specs.Prelude.{Place}
use Rattle.beam_machine.specs.declared.callee.After.{After}
use Rattle.beam_machine.specs.declared.callee.After.TheVariants.{Return}
use Rattle.beam_machine.specs.declared.process.Signal.TheVariants.{Message}
use Rattle.beam_machine.specs.declared.event.Then.{Then}
use Rattle.beam_machine.specs.declared.event.Then.TheVariants.{GoesOn}
use Rattle.beam_machine.specs.Prelude.{Code, Process, read_x, put_x, dropped, bared, ended, State, process_of, with_process, with_made, Outcome, makes, sends, asks, sleeps, goes_on, waits_for_message, after_dropping, answers, arguments_of, answer_of, done_by, goes_on_with}
use Rattle.beam_proc.specs.Prelude.{reason_of}
use Rattle.beam_state.specs.Parts.{Parts, parts, node, then_at}

-- ---- the outcomes

-- x1 is sent to a process, and x0 is x1 at the next row
abbrev pub sending : ℕ → Place → Process → Outcome
sending to next p = sends (goes_on (put_x p 0 (read_x p.x 1)) next) to (Message (read_x p.x 1))

-- a native of the node with `arity` arguments
abbrev pub asking : NodeNative → ℕ → After → Process → Outcome
asking native arity after p = asks p native arity after

-- a native of the node before a return, after exactly n y registers were dropped
abbrev pub asking_dropping : ℕ → NodeNative → ℕ → Process → Outcome
asking_dropping n native arity p = after_dropping p (dropped n p p.frames) (λ q. asks q native arity Return)

-- a wait at a row of the next row's instance, with a deadline n milliseconds from now, after which the next row follows
abbrev pub sleeping : ℕ → ℕ → Place → Process → Outcome
sleeping n at next p = sleeps (waits_for_message p (record { instance = next.instance; at = at })) n next

-- the process ends
abbrev pub ending : TermValue → TermValue → Process → Outcome
ending reason value p = makes (ended p reason value)

-- the process of that number has exactly n y registers
abbrev pub HasSlots : ℕ → ℕ → List Process → Type 0
HasSlots n pid ps = (p : Process) → process_of ps pid ≡ Some p → is_some (dropped n p p.frames) ≡ true

-- ---- the node's responses

-- the node carries out the outcome of the process's row: the answer is how the process stands then; or memory was refused, and nothing
-- changed
abbrev pub Responds : Parts → ℕ → (Process → Outcome) → Result Then AllocError → Parts → Type 0
Responds old pid outcome (Ok after) new =
    ((code : Code) (p : Process) → process_of old.processes pid ≡ Some p → done_by (node code old) pid (outcome p) ≡ node code new)
    × (then_at new.processes pid ≡ Some after)
Responds old pid outcome (Err refused) new = new ≡ old

-- the node carries out an outcome that changes processes and the count of references alone, whatever the count of instances is
abbrev pub RespondsBy : ℕ → ℕ → (Process → Outcome) → ℕ → List Process → Result Then AllocError → ℕ → List Process → Type 0
RespondsBy clock pid outcome references old (Ok after) count new =
    ((code : Code) (i : ℕ) (p : Process) → process_of old pid ≡ Some p
    → done_by (node code (parts old clock i references)) pid (outcome p) ≡ node code (parts new clock i count))
    × (then_at new pid ≡ Some after)
RespondsBy clock pid outcome references old (Err refused) count new = (new ≡ old) × (count ≡ references)

-- a process that asks for a native, without the y registers that it drops before
abbrev pub bare_if : Option ℕ → Process → Process
bare_if (Some n) p = bared p
bare_if None p = p

-- there are exactly as many y registers as the process drops, if it drops any
abbrev pub CanDrop : Option ℕ → Process → Type 0
CanDrop (Some n) p = is_some (dropped n p p.frames) ≡ true
CanDrop None p = Unit {0}

-- a process that drops y registers before the native returns after it
abbrev pub IsFollowed : Option ℕ → After → Type 0
IsFollowed (Some n) after = after ≡ Return
IsFollowed None after = Unit {0}

-- the process of that number stands at that index and runs; it has exactly the y registers that it drops before the native, if it drops
-- any, and returns then
pub record IsAsking (at pid : ℕ) (slots : Option ℕ) (after : After) (ps : List Process) : Type 0 where
  pub located : pid ≡ at + 1
  pub runs : then_at ps pid ≡ Some GoesOn
  pub drops : (p : Process) → process_of ps pid ≡ Some p → CanDrop slots p
  pub follows : IsFollowed slots after

-- these are the first x registers of the process of that number
abbrev pub AreRead : ℕ → List TermValue → List Process → Type 0
AreRead pid arguments ps = (p : Process) → process_of ps pid ≡ Some p → (arity : ℕ) × (arguments ≡ arguments_of p arity)

-- the reason with which the process of that number ends after the native, if it ends whatever the native's value is
abbrev pub EndsAfter : ℕ → Option ℕ → After → Option TermValue → List Process → Type 0
EndsAfter pid slots after reason ps =
    (p : Process) (value : TermValue) → process_of ps pid ≡ Some p → reason_of (answers (bare_if slots p) after (Ok value)).status ≡ reason

-- the node's answer to a native for which a process asks with these arguments, where n references have been made: the answer is how the
-- process stands then; or memory was refused, and nothing changed
abbrev pub AnswersNative : ℕ → Option ℕ → NodeNative → List TermValue → After → ℕ → List Process → Result Then AllocError → ℕ → List Process → Type 0
AnswersNative pid slots native arguments after references old (Ok said) count new =
    ((s : State) (p : Process) → process_of old pid ≡ Some p
    → goes_on_with (record s { references = references }) pid after
    (answer_of references (with_process old pid (bare_if slots p)) pid native arguments) ≡ record s { processes = new; references = count })
    × (then_at new pid ≡ Some said)
AnswersNative pid slots native arguments after references old (Err refused) count new = (new ≡ old) × (count ≡ references)

-- the process of that number is replaced by what is made of it, all that monitor it hear of its end, and the answer is how it stands; or
-- memory was refused, and nothing changed
abbrev pub MadeBy : ℕ → (Process → Process) → List Process → Result Then AllocError → List Process → Type 0
MadeBy pid made old (Ok said) new = ((p : Process) → process_of old pid ≡ Some p → new ≡ with_made old pid (made p)) × (then_at new pid ≡ Some said)
MadeBy pid made old (Err refused) new = new ≡ old
