-- The clauses of a node's command, of its answer and of its refusal, make it an answered command.
use Rattle.std.proofs.Common.{◌≡◌, ◌≢◌, ◌<◌, ◌++◌, ◌∷◌, [], false, length, Some, Result, Ok, Err, IfOk, IfErr, OnErr, OnOk}
use Rattle.beam_model.specs.Prelude.{Listing}
use Rattle.beam_machine.specs.declared.debug.DebugEvent.{DebugEvent}
use Rattle.beam_machine.specs.Prelude.{IsLawful, replay}
use Rattle.beam_debug.specs.declared.outcome.Outcome.{Outcome}
use Rattle.beam_debug.specs.Prelude.{reply_of, DebugLoudly}
use Rattle.beam_journal.specs.Entering.{in_memory, Accepts, entry_of}
use Rattle.beam_receipts.specs.Receipts.{SeatHistory, of_seat}
use Rattle.beam_receipts.specs.declared.refusal.Refusal.{Refusal}
use Rattle.beam_shared.specs.Prelude.{Node, accepted, RefusesCommand, must_wait, with_refused, AddUp, AreOfSeats}
use Rattle.beam_sched.specs.CommandAnswers.{CommandAnswered, answer_of}

pub command_answered : (n new : Node) (s t : SeatHistory) (event : DebugEvent Listing) (r : Result Outcome Refusal)
    → IsLawful n.journal → replay n.journal ≡ n.state → AreOfSeats n → AddUp n → s.kept ≡ of_seat s.number n.journal → s.number < n.seats → s.limit ≡ n.limit
    → IfOk r (λ reply. Accepts n.state event (reply_of reply))
    → IfOk r (λ reply. new ≡ accepted n event s.number (reply_of reply))
    → IfOk r (λ reply. t ≡ record s { kept = s.kept ++ entry_of event (Some s.number) (reply_of reply) ∷ [] })
    → IfOk r (λ reply. DebugLoudly n.state event (Ok (reply_of reply)) new.state)
    → OnOk r ((in_memory n.journal n.drained ≢ n.limit) × (must_wait n.checked_out event ≡ false))
    → IfErr r (λ refusal. RefusesCommand n event refusal)
    → OnErr r (new ≡ n)
    → IfErr r (λ refusal. t ≡ with_refused n event refusal s)
    → CommandAnswered s event (answer_of r) t
command_answered n new s t event (Ok outcome) lawful replays of_seats add_up kept given limit accepts node seat loud may refused err noted = record {
  node = n;
  new = new;
  lawful = lawful;
  replays = replays;
  of_seats = of_seats;
  add_up = add_up;
  given = given;
  limit = limit;
  kept = kept;
  answered = record { accepts = accepts; loud = loud; may = may; node = node; seat = seat };
}
command_answered n new s t event (Err refusal) lawful replays of_seats add_up kept given limit accepts node seat loud may refused err noted = record {
  node = n;
  new = new;
  lawful = lawful;
  replays = replays;
  of_seats = of_seats;
  add_up = add_up;
  given = given;
  limit = limit;
  kept = kept;
  answered = record { why = refused; node = err; seat = noted };
}
