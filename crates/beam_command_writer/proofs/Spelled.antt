-- Bodies that are written spell their commands, by the constructors of `SpellsCommand`.
use Rattle.std.proofs.Common.{◌≡◌, ℕ, ◌^◌, ◌<◌, ◌≤◌, pos, IsTrue, List, length, refl, subst, lt-ltb}
use Rattle.beam_term.specs.Prelude.{IsAtomText, TermValue}
use Rattle.beam_model.specs.Prelude.{IsExternal, external_bytes}
use Rattle.beam_machine.specs.declared.debug.DebugEvent.TheVariants.{Node, SetBreak, ClearBreak, Resume, StepOne, Inspect}
use Rattle.beam_machine.specs.declared.debug.Spot.{Spot}
use Rattle.beam_machine.specs.declared.event.Event.TheVariants as event
use Rattle.beam_machine.specs.Prelude.{IsNumber, names_process, spot_at, SpellsCommand, load, load_strict, delete, soft_purge, purge, spawn, send, deliver, timeout, set_break, clear_break, resume, step_one, inspect, versions}
use Rattle.beam_machine.specs.Frames.{clock, spot_number}
use Rattle.beam_command_writer.specs.Bodies.{spawn_term, send_term, term_of_spot}

pub file_written : (file : List ℕ) → SpellsCommand 1 file (Node (event.Load file))
file_written file = load file

pub strict_written : (file : List ℕ) → SpellsCommand 2 file (Node (event.LoadStrict file))
strict_written file = load_strict file

pub delete_written : (name : List ℕ) → IsAtomText name → SpellsCommand 3 name (Node (event.Delete name))
delete_written name h = delete name h

pub soft_purge_written : (name : List ℕ) → IsAtomText name → SpellsCommand 4 name (Node (event.SoftPurge name))
soft_purge_written name h = soft_purge name h

pub purge_written : (name : List ℕ) → IsAtomText name → SpellsCommand 5 name (Node (event.Purge name))
purge_written name h = purge name h

pub versions_written : (name : List ℕ) → IsAtomText name → SpellsCommand 17 name (Node (event.Versions name))
versions_written name h = versions name h

pub deliver_written : (field : List ℕ) (pid : ℕ) → IsNumber 4 field pid → SpellsCommand 9 field (Node (event.Deliver pid))
deliver_written field pid h = deliver field pid h

pub clock_written : (field : List ℕ) (now : ℕ) → IsNumber 8 field now → SpellsCommand 10 field (Node (event.Clock now))
clock_written field now h = clock field now h

pub timeout_written : (field : List ℕ) (pid : ℕ) → IsNumber 4 field pid → SpellsCommand 11 field (Node (event.Timeout pid))
timeout_written field pid h = timeout field pid h

pub ruleset written = (file_written, strict_written, delete_written, soft_purge_written, purge_written, versions_written, deliver_written, clock_written, timeout_written)

pub spawn_written : (name function : List ℕ) (arguments : List TermValue) → length arguments ≤ 255
    → IsExternal (external_bytes (spawn_term name function arguments)) (spawn_term name function arguments)
    → SpellsCommand 6 (external_bytes (spawn_term name function arguments)) (Node (event.Spawn name function arguments))
spawn_written name function arguments few h = spawn (external_bytes (spawn_term name function arguments)) name function arguments few h

pub send_written : (to message : TermValue) → IsTrue (names_process to) → IsExternal (external_bytes (send_term to message)) (send_term to message)
    → SpellsCommand 7 (external_bytes (send_term to message)) (Node (event.Send to message))
send_written to message names h = send (external_bytes (send_term to message)) to message names h

-- ---- the debugger's commands

pub resume_written : (field : List ℕ) (pid : ℕ) → IsNumber 4 field pid → SpellsCommand 14 field (Resume pid)
resume_written field pid h = resume field pid h

pub step_one_written : (field : List ℕ) (pid : ℕ) → IsNumber 4 field pid → SpellsCommand 15 field (StepOne pid)
step_one_written field pid h = step_one field pid h

pub inspect_written : (field : List ℕ) (pid : ℕ) → IsNumber 4 field pid → SpellsCommand 16 field (Inspect pid)
inspect_written field pid h = inspect field pid h

pub ruleset written_to_debugger = (resume_written, step_one_written, inspect_written)

number_same : (n : ℕ) → n < 2 ^ 32 → spot_number (pos n) ≡ n
number_same n lt = rw (lt-ltb n (2 ^ 32) lt) refl

spot_same : (spot : Spot) → spot.label < 2 ^ 32 → spot.rows < 2 ^ 32 → spot_at spot.version spot.«module» (pos spot.label) (pos spot.rows) ≡ spot
spot_same spot label rows = λ i. record spot { label = number_same spot.label label i; rows = number_same spot.rows rows i }

pub set_written : (spot : Spot) → spot.label < 2 ^ 32 → spot.rows < 2 ^ 32 → IsExternal (external_bytes (term_of_spot spot)) (term_of_spot spot)
    → SpellsCommand 12 (external_bytes (term_of_spot spot)) (SetBreak spot)
set_written spot label rows h =
    subst (λ (s : Spot). SpellsCommand 12 (external_bytes (term_of_spot spot)) (SetBreak s)) (spot_same spot label rows)
    (set_break (external_bytes (term_of_spot spot)) spot.version spot.«module» (pos spot.label) (pos spot.rows) h)

pub clear_written : (spot : Spot) → spot.label < 2 ^ 32 → spot.rows < 2 ^ 32 → IsExternal (external_bytes (term_of_spot spot)) (term_of_spot spot)
    → SpellsCommand 13 (external_bytes (term_of_spot spot)) (ClearBreak spot)
clear_written spot label rows h =
    subst (λ (s : Spot). SpellsCommand 13 (external_bytes (term_of_spot spot)) (ClearBreak s)) (spot_same spot label rows)
    (clear_break (external_bytes (term_of_spot spot)) spot.version spot.«module» (pos spot.label) (pos spot.rows) h)
