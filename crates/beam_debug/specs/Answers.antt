-- The answers of the debugger's calls, as values of the definitions.
use Rattle.std.specs.Prelude.{◌≡◌, ℕ, Bool, true, Some, None, is_some, option_map, Result, Ok, Err}
use Rattle.beam_machine.specs.declared.debug.DebugReply.{DebugReply}
use Rattle.beam_machine.specs.declared.debug.DebugReply.TheVariants.{Held, Viewed, Node}
use Rattle.beam_machine.specs.declared.event.Reply.TheVariants.{Done, Changed}
use Rattle.beam_machine.specs.declared.event.Refused.{Refused}
use Rattle.beam_machine.specs.declared.event.Refused.TheVariants.{NoMemory, NoProcess}
use Rattle.beam_machine.specs.Prelude.{Debugged, DebugAnswer, is_among, process_of, View, view_of}
use Rattle.beam_debug.specs.declared.outcome.Outcome.{Outcome}
use Rattle.beam_debug.specs.declared.outcome.Outcome.TheVariants.{Node as NodeOutcome, Held as HeldOutcome, Viewed as ViewedOutcome}
use Rattle.beam_debug.specs.declared.view.View.{View as TheView}
use Rattle.beam_debug.specs.Seen.{seen}

-- an answer, as a reply of the definitions
abbrev pub reply_of : Outcome → DebugReply View
reply_of (NodeOutcome reply) = Node reply
reply_of (HeldOutcome count) = Held count
reply_of (ViewedOutcome view) = Viewed view

abbrev pub answer_of : Result Outcome Refused → DebugAnswer
answer_of (Ok outcome) = Ok (reply_of outcome)
answer_of (Err refusal) = Err refusal

-- the answer of a change of the break spots
abbrev pub change_answer : Result Bool Refused → DebugAnswer
change_answer (Ok is_new) = Ok (Node (Changed is_new))
change_answer (Err refusal) = Err refusal

-- the answer to the resumption of a process
abbrev pub release_answer : Result (Unit {0}) Refused → DebugAnswer
release_answer (Ok done) = Ok (Node Done)
release_answer (Err refusal) = Err refusal

-- a view of a process, as a value of the definitions
abbrev pub inspect_answer : Result TheView Refused → Result View Refused
inspect_answer (Ok view) = Ok (seen view)
inspect_answer (Err refusal) = Err refusal

-- the answer to an inspection: the view of the process; or no process of that number was started; or memory was refused
abbrev pub Inspected : Debugged → ℕ → Result View Refused → Type 0
Inspected d pid (Ok view) = option_map (view_of d.node.code (is_among pid d.held)) (process_of d.node.processes pid) ≡ Some view
Inspected d pid (Err NoMemory) = is_some (process_of d.node.processes pid) ≡ true
Inspected d pid (Err refusal) = (refusal ≡ NoProcess) × (process_of d.node.processes pid ≡ None)
