-- Rows that end their process aren't quiet.
use Rattle.std.proofs.Common.{◌≡◌, ℕ, ◌==◌, ◌+◌, Bool, true, false, ◌&&◌, not, if◌then◌else◌, List, [], ◌∷◌, length, Option, Some, None, is_some, refl, ap, ◌∙◌}
use Rattle.beam_machine.specs.declared.action.Action.{Action}
use Rattle.beam_machine.specs.declared.action.Source.{Source}
use Rattle.beam_machine.specs.declared.action.Step.{Step}
use Rattle.beam_machine.specs.declared.process.Frame.{Frame}
use Rattle.beam_machine.specs.declared.process.Goes.TheVariants.{At, Enter, Nowhere}
use Rattle.beam_machine.specs.declared.process.Slot.{Slot}
use Rattle.beam_machine.specs.Prelude.{Code, step_of, Process, dropped, without_slots, with_slots, ended, is_ended, read, is_quiet_action, is_quiet_control, is_quiet_message, is_quiet_stack, is_quiet_step, is_quiet_at, is_quiet, is_calm, Outcome, makes, sends, asks, sleeps, tag_of, unwound, caught_at, illegal, goes_on, goes_to, changes, decides, has_size, is_tagged, with_one, with_two, tests, trims_newest, trims_in, stacks, returns_to, returns_from, controls, with_message_at, waits, message_rows, perform, performs, outcome_at, outcome}
use Rattle.beam_term.specs.Prelude.{TermValue}
use Rattle.beam_machine.specs.declared.action.Action.TheVariants.{Test, Compute, Data, Control, Stack, Catching, Messaging}
use Rattle.beam_machine.specs.declared.action.Control.{Control as TheControl}
use Rattle.beam_machine.specs.declared.action.Control.TheVariants as control
use Rattle.beam_machine.specs.declared.action.Messaging.{Messaging as TheMessaging}
use Rattle.beam_machine.specs.declared.action.Messaging.TheVariants as messaging
use Rattle.beam_machine.specs.declared.action.Source.TheVariants as source
use Rattle.beam_machine.specs.declared.action.Stack.{Stack as TheStack}
use Rattle.beam_machine.specs.declared.action.Stack.TheVariants as stack
use Rattle.beam_machine.specs.declared.action.Test.{Test as TheTest}
use Rattle.beam_machine.specs.declared.action.Test.TheVariants as test
use Rattle.beam_machine.specs.declared.process.Goes.{Goes}
use Rattle.beam_machine.specs.declared.process.Tag.{Tag}
use Rattle.beam_model.specs.declared.exception.Exception.{Exception}
use Rattle.beam_model.specs.declared.exception.Fault.TheVariants.{IllegalOperand}
use Rattle.beam_model.specs.Prelude.{message_at, with_next, with_removed, compares, is_of_type, Place}
use Rattle.beam_model.specs.declared.exception.Exception.TheVariants as exception

abbrev over : Process → Bool
over p = is_ended p.status

abbrev ends : Outcome → Bool
ends (makes p) = over p
ends (sends p to signal) = false
ends (asks p native arity after) = false
ends (sleeps p n next) = false

-- without its pending exception
abbrev calmed : Process → Process
calmed p = record p { pending = None }

-- the value of a source doesn't depend on the pending exception
read_pending : (p : Process) (s : Source) → read (calmed p) s ≡ read p s
read_pending p (source.Constant t) = refl
read_pending p (source.X n) = refl
read_pending p (source.Y n) = refl

end_loud : (o : Outcome) → ends o ≡ true → is_calm o ≡ false
end_loud (makes p) h = ap (λ b. not b && not (is_some p.pending)) h
end_loud (sends p to signal) h = refl
end_loud (asks p native arity after) h = refl
end_loud (sleeps p n next) h = refl

-- ---- whether a quiet row ends its process doesn't depend on the pending exception

unwound_alike : (p : Process) (e : Exception) (fs : List Frame) → over (unwound (calmed p) e fs) ≡ over (unwound p e fs)
unwound_alike p e [] = refl
unwound_alike p e (f ∷ fs) = at (tag_of f.y) (unwound_alike p e fs)
  where
    at : (o : Option Tag) → over (unwound (calmed p) e fs) ≡ over (unwound p e fs)
        → over (caught_at (calmed p) e (f ∷ fs) (unwound (calmed p) e fs) o) ≡ over (caught_at p e (f ∷ fs) (unwound p e fs) o)
    at (Some tag) h = refl
    at None h = h

illegal_alike : (p : Process) → over (illegal (calmed p)) ≡ over (illegal p)
illegal_alike p = unwound_alike p (exception.Fault IllegalOperand) p.frames

goes_alike : (p : Process) (instance : ℕ) (target : Option ℕ) → over (goes_to (calmed p) instance target) ≡ over (goes_to p instance target)
goes_alike p instance (Some at) = refl
goes_alike p instance None = illegal_alike p

decides_alike : (p : Process) (next : Place) (fail : Option ℕ) (b : Bool) → over (decides (calmed p) next fail b) ≡ over (decides p next fail b)
decides_alike p next fail true = refl
decides_alike p next fail false = goes_alike p next.instance fail

one_alike : (p : Process) (does calmly : TermValue → Process) (o r : Option TermValue) → o ≡ r → ((t : TermValue) → over (calmly t) ≡ over (does t))
    → over (with_one (calmed p) o calmly) ≡ over (with_one p r does)
one_alike p does calmly o r e same = ap (λ o. over (with_one (calmed p) o calmly)) e ∙ at r
  where
    at : (r : Option TermValue) → over (with_one (calmed p) r calmly) ≡ over (with_one p r does)
    at (Some t) = same t
    at None = illegal_alike p

two_alike : (p : Process) (does calmly : TermValue → TermValue → Process) (o r l m : Option TermValue) → o ≡ r → l ≡ m → ((s t : TermValue) → over (calmly s t) ≡ over (does s t))
    → over (with_two (calmed p) o l calmly) ≡ over (with_two p r m does)
two_alike p does calmly o r l m e f same = ap (λ o. over (with_two (calmed p) o l calmly)) e ∙ (ap (λ l. over (with_two (calmed p) r l calmly)) f ∙ at r m)
  where
    at : (r m : Option TermValue) → over (with_two (calmed p) r m calmly) ≡ over (with_two p r m does)
    at (Some s) (Some t) = same s t
    at (Some s) None = illegal_alike p
    at None m = illegal_alike p

tests_alike : (t : TheTest) (fail : Option ℕ) (next : Place) (p : Process) → over (tests t fail next (calmed p)) ≡ over (tests t fail next p)
tests_alike (test.Compare comparison left right) fail next p =
    two_alike p (λ s t. decides p next fail (compares comparison s t)) (λ s t. decides (calmed p) next fail (compares comparison s t))
    (read (calmed p) left) (read p left) (read (calmed p) right) (read p right) (read_pending p left) (read_pending p right) (λ s t. decides_alike p next fail (compares comparison s t))
tests_alike (test.IsOfType type s) fail next p =
    one_alike p (λ t. decides p next fail (is_of_type type t)) (λ t. decides (calmed p) next fail (is_of_type type t)) (read (calmed p) s) (read p s) (read_pending p s)
    (λ t. decides_alike p next fail (is_of_type type t))
tests_alike (test.HasSize s n) fail next p =
    one_alike p (λ t. decides p next fail (has_size n t)) (λ t. decides (calmed p) next fail (has_size n t)) (read (calmed p) s) (read p s) (read_pending p s)
    (λ t. decides_alike p next fail (has_size n t))
tests_alike (test.IsTagged s n tag) fail next p =
    one_alike p (λ t. decides p next fail (is_tagged n tag t)) (λ t. decides (calmed p) next fail (is_tagged n tag t)) (read (calmed p) s) (read p s) (read_pending p s)
    (λ t. decides_alike p next fail (is_tagged n tag t))

drops_alike : (n : ℕ) (next : Place) (p : Process) (fs : List Frame) → over (changes (calmed p) next (dropped n (calmed p) fs)) ≡ over (changes p next (dropped n p fs))
drops_alike n next p [] = illegal_alike p
drops_alike n next p (f ∷ fs) = at f.y
  where
    within : (b : Bool) → over (changes (calmed p) next (if b then Some (with_slots (calmed p) f fs None) else None)) ≡ over (changes p next (if b then Some (with_slots p f fs None) else None))
    within true = refl
    within false = illegal_alike p

    at : (o : Option (List Slot)) → over (changes (calmed p) next (without_slots n (calmed p) f fs o)) ≡ over (changes p next (without_slots n p f fs o))
    at (Some y) = within (length y == n)
    at None = illegal_alike p

trims_alike : (m n : ℕ) (next : Place) (p : Process) (fs : List Frame) → over (trims_newest m n next (calmed p) fs) ≡ over (trims_newest m n next p fs)
trims_alike m n next p [] = illegal_alike p
trims_alike m n next p (f ∷ fs) = at f.y
  where
    within : (q r : Process) (b : Bool) → over q ≡ over r → over (if b then q else illegal (calmed p)) ≡ over (if b then r else illegal p)
    within q r true h = h
    within q r false h = illegal_alike p

    at : (o : Option (List Slot)) → over (trims_in m n next (calmed p) f fs o) ≡ over (trims_in m n next p f fs o)
    at (Some y) = within _ _ (length y == m + n) refl
    at None = illegal_alike p

returns_alike : (p : Process) (fs : List Frame) → over (returns_from (calmed p) fs) ≡ over (returns_from p fs)
returns_alike p [] = illegal_alike p
returns_alike p (f ∷ fs) = at (is_some f.y)
  where
    leads : (back : Option Place) → over (returns_to (calmed p) fs back) ≡ over (returns_to p fs back)
    leads (Some place) = refl
    leads None = refl

    at : (b : Bool) → over (if b then illegal (calmed p) else returns_to (calmed p) fs f.back) ≡ over (if b then illegal p else returns_to p fs f.back)
    at true = illegal_alike p
    at false = leads f.back

message_alike : (p q r : Process) (o : Option TermValue) → over q ≡ over r → over (with_message_at (calmed p) o q) ≡ over (with_message_at p o r)
message_alike p q r (Some t) h = h
message_alike p q r None h = illegal_alike p

waits_alike : (p : Process) (instance : ℕ) (target : Option ℕ) → over (waits (calmed p) instance target) ≡ over (waits p instance target)
waits_alike p instance (Some at) = refl
waits_alike p instance None = illegal_alike p

-- ---- rows by their actions

control_loud : (code : Code) (c : TheControl) (next : Place) (p : Process) → ends (controls code c next p) ≡ true → (is_quiet_control c && is_calm (controls code c next (calmed p))) ≡ false
control_loud code (control.Jump target) next p h = end_loud (makes (goes_to (calmed p) next.instance target)) (goes_alike p next.instance target ∙ h)
control_loud code (control.Call target) next p h = refl
control_loud code (control.CallLast n target) next p h = refl
control_loud code (control.CallExternal c) next p h = refl
control_loud code (control.CallExternalOnly c) next p h = refl
control_loud code (control.CallExternalLast n c) next p h = refl
control_loud code (control.Apply arity) next p h = refl
control_loud code (control.ApplyLast arity n) next p h = refl
control_loud code control.Return next p h = end_loud (makes (returns_from (calmed p) p.frames)) (returns_alike p p.frames ∙ h)
control_loud code (control.SelectValue s choices fail) next p h = refl
control_loud code (control.SelectSize s choices fail) next p h = refl

stack_loud : (s : TheStack) (next : Place) (p : Process) → over (stacks s next p) ≡ true → (is_quiet_stack s && is_calm (makes (stacks s next (calmed p)))) ≡ false
stack_loud (stack.Allocate n) next p h = refl
stack_loud (stack.Deallocate n) next p h = end_loud (makes (changes (calmed p) next (dropped n (calmed p) p.frames))) (drops_alike n next p p.frames ∙ h)
stack_loud (stack.Trim m n) next p h = end_loud (makes (trims_newest m n next (calmed p) p.frames)) (trims_alike m n next p p.frames ∙ h)
stack_loud (stack.Clear registers) next p h = refl
stack_loud stack.TestHeap next p h = refl

message_loud : (m : TheMessaging) (next : Place) (p : Process) → ends (message_rows m next p) ≡ true → (is_quiet_message m && is_calm (message_rows m next (calmed p))) ≡ false
message_loud messaging.Send next p h = refl
message_loud (messaging.Peek dest fail) next p h = refl
message_loud (messaging.Skip target) next p h =
    let q : Process = record p { mailbox = with_next p.mailbox } in
    end_loud (message_rows (messaging.Skip target) next (calmed p))
    (message_alike p (goes_to (calmed q) next.instance target) (goes_to q next.instance target) (message_at p.mailbox) (goes_alike q next.instance target) ∙ h)
message_loud messaging.Remove next p h =
    let q : Process = goes_on (record p { mailbox = with_removed p.mailbox; deadline = None }) next in
    end_loud (message_rows messaging.Remove next (calmed p)) (message_alike p (calmed q) q (message_at p.mailbox) refl ∙ h)
message_loud (messaging.Wait target) next p h = end_loud (makes (waits (calmed p) next.instance target)) (waits_alike p next.instance target ∙ h)
message_loud (messaging.WaitTimeout target duration) next p h = refl
message_loud messaging.Timeout next p h = end_loud (message_rows messaging.Timeout next (calmed p)) h
message_loud (messaging.Reads s) next p h = refl
message_loud (messaging.ReadsBoth left right) next p h = refl

action_loud : (code : Code) (a : Action) (next : Place) (p : Process) → ends (perform code a next p) ≡ true → (is_quiet_action a && is_calm (perform code a next (calmed p))) ≡ false
action_loud code (Test t fail) next p h = end_loud (makes (tests t fail next (calmed p))) (tests_alike t fail next p ∙ h)
action_loud code (Compute c fail) next p h = refl
action_loud code (Data d) next p h = refl
action_loud code (Control c) next p h = control_loud code c next p h
action_loud code (Stack s) next p h = stack_loud s next p h
action_loud code (Catching c) next p h = refl
action_loud code (Messaging m) next p h = message_loud m next p h

step_loud : (code : Code) (instance : ℕ) (o : Option Step) (p : Process) → ends (performs code instance o p) ≡ true → (is_quiet_step o && is_calm (performs code instance o (calmed p))) ≡ false
step_loud code instance (Some step) p h = action_loud code step.action (record { instance = instance; at = step.next }) p h
step_loud code instance None p h = refl

goes_loud : (code : Code) (g : Goes) (p : Process) → ends (outcome_at code g p) ≡ true → (is_quiet_at code g && is_calm (outcome_at code g (calmed p))) ≡ false
goes_loud code (At place) p h = step_loud code place.instance (step_of code place) p h
goes_loud code (Enter name function arity) p h = refl
goes_loud code Nowhere p h = refl

pub ended_loud : (code : Code) (p : Process) (reason value : TermValue) → outcome code p ≡ makes (ended p reason value) → is_quiet code p ≡ false
ended_loud code p reason value e = goes_loud code p.goes p (ap ends e)
