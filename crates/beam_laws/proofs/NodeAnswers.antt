-- What a native of the node does to the processes and to the count of references: one relation, by whose few
-- constructors laws over natives are proved, and that each native keeps to it.
use Rattle.std.proofs.Common.{◌≡◌, ℕ, ◌+◌, nat_lt, ◌&&◌, Bool, true, false, cond, not, List, [], ◌∷◌, ◌++◌, length, refl, Option, is_some, Some, None, Result, Ok, codes}
use Rattle.beam_model.specs.declared.exception.Fault.{Fault}
use Rattle.beam_model.specs.declared.exception.Fault.TheVariants.{Badarg, SystemLimit}
use Rattle.beam_model.specs.declared.native.NodeNative.{NodeNative}
use Rattle.beam_model.specs.declared.native.NodeNative.TheVariants.{Spawn, Register, Unregister, Whereis, IsProcessAlive, Exit, Send, MakeRef, Monitor}
use Rattle.beam_model.specs.Prelude.{truth, elements_in, same_text}
use Rattle.beam_machine.specs.declared.process.Signal.{Signal}
use Rattle.beam_machine.specs.declared.process.Signal.TheVariants.{Message, Exit as ExitSignal, Down}
use Rattle.beam_machine.specs.Prelude.{Process, started, Sent, own_pid, own_reference, own_number, with_process, live_process, registered, posted, posted_if_own, Answered, answer, fault, answer_of, most_processes, most_references, spawns_with, is_free, names, registers, unnames, unregisters, sends_named, monitored, monitors_by}
use Rattle.beam_term.specs.Prelude.{TermValue, atom_term, pid_term}
use Rattle.beam_laws.specs.Prelude.{signal_to, signal_if, noproc_sends, native_sends}

-- a message or an exit signal
abbrev pub is_no_down : Signal → Bool
is_no_down (Down reference reason) = false
is_no_down signal = true

-- the answer of a native to its caller, and the signals that it sends
pub data Answers (references : ℕ) (ps : List Process) (caller : ℕ) (native : NodeNative) : List Sent → Answered → Type 0 where
  keeps_all : (value : Result TermValue Fault) → Answers references ps caller native [] (record { processes = ps; made = None; value = value })
  starts_one : (name function : List ℕ) (arguments : List TermValue) (value : Result TermValue Fault)
      → Answers references ps caller native [] (record { processes = ps ++ started (length ps + 1) name function arguments ∷ []; made = None; value = value })
  -- a name that no process has
  names_one : (name : List ℕ) (pid : ℕ) (p : Process) (value : Result TermValue Fault) → live_process ps pid ≡ Some p → registered ps name ≡ None
      → Answers references ps caller native [] (record { processes = with_process ps pid (record p { name = Some name }); made = None; value = value })
  unnames_one : (pid : ℕ) (p : Process) (value : Result TermValue Fault) → live_process ps pid ≡ Some p
      → Answers references ps caller native [] (record { processes = with_process ps pid (record p { name = None }); made = None; value = value })
  posts_one : (to : ℕ) (signal : Signal) (value : Result TermValue Fault) → is_no_down signal ≡ true
      → Answers references ps caller native (signal_to ps to signal) (record { processes = posted ps to signal; made = None; value = value })
  makes_one : (value : Result TermValue Fault) → Answers references ps caller native [] (record { processes = ps; made = Some (references + 1); value = value })
  monitors_one : (watched : TermValue) (value : Result TermValue Fault) → native ≡ Monitor
      → Answers references ps caller native (noproc_sends ps caller watched (Some (references + 1)))
      (record { processes = monitored ps caller watched (references + 1); made = Some (references + 1); value = value })

module _ (references : ℕ) (ps : List Process) (caller : ℕ) where
  abbrev Right : NodeNative → List Sent → Answered → Type 0
  Right native xs a = Answers references ps caller native xs a

  either : (native : NodeNative) (xs : List Sent) (b : Bool) (x y : Answered) → Right native xs x → Right native xs y → Right native xs (cond b x y)
  either native xs true x y h k = h
  either native xs false x y h k = k

  spawn : (name function : List ℕ) (o : Option (List TermValue)) → Right Spawn [] (spawns_with ps name function o)
  spawn name function None = keeps_all _
  spawn name function (Some arguments) =
      let spawned : Answered = answer (ps ++ started (length ps + 1) name function arguments ∷ []) (own_pid (length ps + 1)) in
      either Spawn [] (nat_lt 255 (length arguments)) (fault ps Badarg) _ (keeps_all _)
      (either Spawn [] (nat_lt (length ps) most_processes) spawned (fault ps SystemLimit) (starts_one name function arguments _) (keeps_all _))

  free_is : (o : Option ℕ) (b c : Bool) → ((not (is_some o) && b) && c) ≡ true → o ≡ None
  free_is None b c e = refl
  free_is (Some n) b c e = cc

  register : (name : List ℕ) (pid : ℕ) (o : Option Process) → live_process ps pid ≡ o → Right Register [] (names ps name pid o)
  register name pid None e = keeps_all _
  register name pid (Some p) e = go (is_free ps name && not (is_some p.name)) refl
    where
      go : (b : Bool) → (is_free ps name && not (is_some p.name)) ≡ b
          → Right Register [] (cond {A = Answered} b (answer (with_process ps pid (record p { name = Some name })) (truth true)) (fault ps Badarg))
      go false f = keeps_all _
      go true f = names_one name pid p _ e (free_is (registered ps name) (not (same_text name (codes "undefined"))) (not (is_some p.name)) f)

  register_own : (name : List ℕ) (o : Option ℕ) → Right Register [] (registers ps name o)
  register_own name None = keeps_all _
  register_own name (Some pid) = register name pid (live_process ps pid) refl

  unregister : (pid : ℕ) (o : Option Process) → live_process ps pid ≡ o → Right Unregister [] (unnames ps pid o)
  unregister pid None e = keeps_all _
  unregister pid (Some p) e = unnames_one pid p _ e

  unregister_named : (o : Option ℕ) → Right Unregister [] (unregisters ps o)
  unregister_named None = keeps_all _
  unregister_named (Some pid) = unregister pid (live_process ps pid) refl

  signal_own : (native : NodeNative) (o : Option ℕ) (signal : Signal) (value : TermValue) → is_no_down signal ≡ true
      → Right native (signal_if ps o signal) (answer (posted_if_own ps o signal) value)
  signal_own native None signal value plain = keeps_all _
  signal_own native (Some to) signal value plain = posts_one to signal _ plain

  send_named : (o : Option ℕ) (message : TermValue) → Right Send (signal_if ps o (Message message)) (sends_named ps o message)
  send_named None message = keeps_all _
  send_named (Some to) message = posts_one to (Message message) _ refl

  abbrev made_monitor : TermValue → Answered
  made_monitor watched = record { processes = monitored ps caller watched (references + 1); made = Some (references + 1); value = Ok (own_reference (references + 1)) }

  -- the answer of monitor to a kind that is right or not, with a reference to be had or not
  abbrev monitor_answer : TermValue → Bool → Bool → Answered
  monitor_answer watched right more = cond right (cond more (made_monitor watched) (fault ps SystemLimit)) (fault ps Badarg)

  -- it sends a DOWN only where it made a reference
  monitor_right : (watched : TermValue) (right more : Bool)
      → Right Monitor (noproc_sends ps caller watched (monitor_answer watched right more).made) (monitor_answer watched right more)
  monitor_right watched false more = keeps_all _
  monitor_right watched true false = keeps_all _
  monitor_right watched true true = monitors_one watched _ refl

  monitor : (kind : List ℕ) (watched : TermValue)
      → Right Monitor (noproc_sends ps caller watched (monitors_by references ps caller kind watched).made) (monitors_by references ps caller kind watched)
  monitor kind watched = monitor_right watched (same_text kind (codes "process")) (nat_lt references most_references)

  pub answer_is : (native : NodeNative) (ts : List TermValue) → Right native (native_sends references ps caller native ts) (answer_of references ps caller native ts)
  answer_is Spawn (atom_term name ∷ atom_term function ∷ arguments ∷ []) = spawn name function (elements_in arguments)
  answer_is Register (atom_term name ∷ pid_term host id serial creation ∷ []) = register_own name (own_number (pid_term host id serial creation))
  answer_is Unregister (atom_term name ∷ []) = unregister_named (registered ps name)
  answer_is Whereis (atom_term name ∷ []) = keeps_all _
  answer_is IsProcessAlive (pid_term host id serial creation ∷ []) = keeps_all _
  answer_is Exit (pid_term host id serial creation ∷ reason ∷ []) = signal_own Exit (own_number (pid_term host id serial creation)) (ExitSignal caller reason) _ refl
  answer_is Exit (to ∷ []) = keeps_all _
  answer_is Exit (to ∷ reason ∷ []) = keeps_all _
  answer_is Exit (to ∷ reason ∷ more ∷ rest) = keeps_all _
  answer_is Send (pid_term host id serial creation ∷ message ∷ []) = signal_own Send (own_number (pid_term host id serial creation)) (Message message) _ refl
  answer_is Send (atom_term name ∷ message ∷ []) = send_named (registered ps name) message
  answer_is Send (to ∷ []) = keeps_all _
  answer_is Send (to ∷ message ∷ []) = keeps_all _
  answer_is Send (to ∷ message ∷ more ∷ rest) = keeps_all _
  answer_is MakeRef [] = either MakeRef [] (nat_lt references most_references) _ (fault ps SystemLimit) (makes_one _) (keeps_all _)
  answer_is MakeRef (t ∷ rest) = keeps_all _
  answer_is Monitor (atom_term kind ∷ pid_term host id serial creation ∷ []) = monitor kind (pid_term host id serial creation)
  answer_is Monitor (kind ∷ []) = keeps_all _
  answer_is Monitor (kind ∷ watched ∷ []) = keeps_all _
  answer_is Monitor (kind ∷ watched ∷ more ∷ rest) = keeps_all _
  answer_is _ _ = keeps_all _
