-- An event that no allocation failure cut is entered as it was recorded.
use Rattle.std.proofs.Common.{◌≡◌, false, cond, Ok, refl, ap}
use Rattle.beam_debug.specs.declared.outcome.Outcome.{Outcome}
use Rattle.beam_debug.specs.declared.outcome.Outcome.TheVariants as outcome
use Rattle.beam_debug.specs.Prelude.{reply_of}
use Rattle.beam_machine.specs.declared.debug.DebugEvent.{DebugEvent}
use Rattle.beam_machine.specs.declared.debug.DebugEvent.TheVariants.{Node, SetBreak, ClearBreak, Resume, StepOne, Inspect}
use Rattle.beam_machine.specs.declared.event.Event.TheVariants as event
use Rattle.beam_machine.specs.declared.event.Reply.TheVariants as reply
use Rattle.beam_machine.specs.declared.event.Then.TheVariants.{GoesOn, Waits, Ended}
use Rattle.beam_machine.specs.Prelude.{debug_cut_event}
use Rattle.beam_model.specs.Prelude.{Listing}
use Rattle.beam_recall.specs.CutRows.{is_cut, rows_asked}

pub is_whole : (e : DebugEvent Listing) (o : Outcome) → is_cut (rows_asked e) o ≡ false → debug_cut_event e (Ok (reply_of o)) ≡ e
is_whole (Node (event.Steps pid rows)) (outcome.Node (reply.Ran count GoesOn)) whole = ap (λ b. Node (event.Steps pid (cond b count rows))) whole
is_whole (Node (event.Steps pid rows)) (outcome.Node (reply.Ran count Waits)) whole = refl
is_whole (Node (event.Steps pid rows)) (outcome.Node (reply.Ran count (Ended reason value))) whole = refl
is_whole (Node (event.Steps pid rows)) (outcome.Node reply.Done) whole = refl
is_whole (Node (event.Steps pid rows)) (outcome.Node (reply.Changed b)) whole = refl
is_whole (Node (event.Steps pid rows)) (outcome.Node (reply.Versions current old)) whole = refl
is_whole (Node (event.Steps pid rows)) (outcome.Node (reply.Upgraded numbers)) whole = refl
is_whole (Node (event.Steps pid rows)) (outcome.Node (reply.Started p)) whole = refl
is_whole (Node (event.Steps pid rows)) (outcome.Held count) whole = refl
is_whole (Node (event.Steps pid rows)) (outcome.Viewed view) whole = refl
is_whole (Node (event.Load image)) o whole = refl
is_whole (Node (event.LoadStrict image)) o whole = refl
is_whole (Node (event.AtomicLoad mode images)) o whole = refl
is_whole (Node (event.Delete name)) o whole = refl
is_whole (Node (event.SoftPurge name)) o whole = refl
is_whole (Node (event.Purge name)) o whole = refl
is_whole (Node (event.Versions name)) o whole = refl
is_whole (Node (event.Spawn named function arguments)) o whole = refl
is_whole (Node (event.Send to message)) o whole = refl
is_whole (Node (event.Deliver pid)) o whole = refl
is_whole (Node (event.Clock now)) o whole = refl
is_whole (Node (event.Timeout pid)) o whole = refl
is_whole (SetBreak spot) o whole = refl
is_whole (ClearBreak spot) o whole = refl
is_whole (Resume pid) o whole = refl
is_whole (StepOne pid) o whole = refl
is_whole (Inspect pid) o whole = refl
