-- What the node's answers say of an event that it was given as it was recorded.
use Rattle.std.proofs.Common.{◌≡◌, ℕ, Option, Some, Result, Ok, Err, IfOk, IfErr, [], ◌∷◌, ◌++◌, sym, ap, ◌∙◌}
use Rattle.beam_debug.specs.declared.outcome.Outcome.{Outcome}
use Rattle.beam_debug.specs.Prelude.{reply_of}
use Rattle.beam_journal.specs.Entering.{entry_of}
use Rattle.beam_machine.specs.declared.debug.DebugEvent.{DebugEvent}
use Rattle.beam_model.specs.Prelude.{Listing}
use Rattle.beam_receipts.specs.Receipts.{SeatHistory}
use Rattle.beam_receipts.specs.declared.refusal.Refusal.{Refusal}
use Rattle.beam_shared.specs.Prelude.{Node, accepted, with_refused}
use Rattle.beam_recall.specs.Recalling.{accepted_from}

pub of_its_seat : (r : Result Outcome Refusal) (old new : Node) (event : DebugEvent Listing) (seat : Option ℕ) (number own : ℕ) → seat ≡ Some number → own ≡ number
    → IfOk r (λ outcome. new ≡ accepted old event own (reply_of outcome)) → IfOk r (λ outcome. new ≡ accepted_from old event seat (reply_of outcome))
of_its_seat (Ok outcome) old new event seat number own is same accepts =
    accepts ∙ ap (λ s. accepted_from old event s (reply_of outcome)) (ap (λ n. Some n) same ∙ sym is)
of_its_seat (Err refusal) old new event seat number own is same accepts = tt

pub same_number : (r : Result Outcome Refusal) (n : Node) (event : DebugEvent Listing) (s t : SeatHistory)
    → IfOk r (λ outcome. t ≡ record s { kept = s.kept ++ entry_of event (Some s.number) (reply_of outcome) ∷ [] })
    → IfErr r (λ refusal. t ≡ with_refused n event refusal s) → t.number ≡ s.number
same_number (Ok outcome) n event s t kept noted = ap (λ (x : SeatHistory). x.number) kept
same_number (Err refusal) n event s t kept noted = ap (λ (x : SeatHistory). x.number) noted
