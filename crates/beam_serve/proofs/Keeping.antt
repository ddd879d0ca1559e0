-- The entries that a seat keeps of the commands of a session, and the refusals that it notes.
use Rattle.std.proofs.Common.{◌≡◌, ◌∙◌, inl, inr, ℕ, List, [], ◌∷◌, ◌++◌, refl, ap, sym, append_assoc, append-nil, Some, Result, Ok, Err, take}
use Rattle.beam_machine.specs.declared.command.Response.{Response}
use Rattle.beam_machine.specs.declared.debug.DebugEvent.{DebugEvent}
use Rattle.beam_machine.specs.declared.debug.DebugReply.{DebugReply}
use Rattle.beam_machine.specs.declared.event.Event.TheVariants.{Load, LoadStrict, AtomicLoad}
use Rattle.beam_machine.specs.Prelude.{Entry, View, Command, response_of, stream_of}
use Rattle.beam_machine.specs.declared.command.Response.TheVariants as response
use Rattle.beam_machine.specs.declared.debug.DebugEvent.TheVariants.{Node as NodeEvent}
use Rattle.beam_machine.specs.declared.event.Refused.TheVariants as refused
use Rattle.beam_model.specs.Prelude.{Listing}
use Rattle.beam_journal.specs.Entering.{entry_of}
use Rattle.beam_receipts.specs.Receipts.{RefusedCommand, SeatHistory}
use Rattle.beam_remote.specs.declared.error.Served.{Served}
use Rattle.beam_remote.specs.declared.error.ServeError.{ServeError}
use Rattle.beam_remote.specs.Prelude.{Answered, AreUnprepared, IsServed, IsStopped, IsUnloaded, IsUnprepared, Serves}
use Rattle.beam_receipts.specs.declared.refusal.Refusal.{Refusal}
use Rattle.beam_shared.specs.Prelude.{Node, refused_command, with_refused}
use Rattle.beam_sched.specs.CommandAnswers.{CommandAnswered, with_kept}
use Rattle.beam_serve.specs.Answers.{SeatAnswers, response_by, response_to}
use Rattle.beam_serve.specs.SessionReplies.{IsPartlyWrittenAndKept, IsUnloadedResponse, IsWrittenAndKept, KeepsReplied}

unprepared_one : (file : List ℕ) (r : Response) → IsUnprepared file r → IsUnloadedResponse r
unprepared_one file (response.BadFile layer number) h = tt
unprepared_one file (response.Refused refused.NoMemory) h = tt
unprepared_one file r h = absurd h

unprepared_some : (files : List (List ℕ)) (r : Response) → AreUnprepared files r → IsUnloadedResponse r
unprepared_some files (response.BadFile layer number) h = tt
unprepared_some files (response.Refused refused.NoMemory) h = tt
unprepared_some files r h = absurd h

unprepared_is : (c : Command) (r : Response) → IsUnloaded c r → IsUnloadedResponse r
unprepared_is (NodeEvent (Load file)) r h = unprepared_one file r h
unprepared_is (NodeEvent (LoadStrict file)) r h = unprepared_one file r h
unprepared_is (NodeEvent (AtomicLoad mode files)) r h = unprepared_some files r h
unprepared_is c r h = absurd h

-- a load that never got to the node, before the other responses of a session
keeps_unloaded : (s next t : SeatHistory) (r : Response) (rs : List Response) → IsUnloadedResponse r → next ≡ s → KeepsReplied next rs t → KeepsReplied s (r ∷ rs) t
keeps_unloaded s next t r rs is same h = record {
  entries = h.entries;
  refusals = h.refusals;
  kept = h.kept ∙ ap (λ (x : SeatHistory). record x { kept = x.kept ++ h.entries; refused = x.refused ++ h.refusals }) same;
  told = inr (inr (is, h.told));
}

-- a reply to an accepted event, before the other responses of a session
keeps_reply : (s next t : SeatHistory) (event : DebugEvent Listing) (reply : DebugReply View) (r : Response) (rs : List Response)
    → r ≡ response_of (Ok reply) → next ≡ with_kept s event reply → KeepsReplied next rs t → KeepsReplied s (r ∷ rs) t
keeps_reply s next t event reply r rs is same h = record {
  entries = entry_of event (Some s.number) reply ∷ h.entries;
  refusals = h.refusals;
  kept = h.kept ∙ ap (λ (x : SeatHistory). record x { kept = x.kept ++ h.entries; refused = x.refused ++ h.refusals }) same
      ∙ ap (λ (es : List Entry). record s { kept = es; refused = s.refused ++ h.refusals }) (append_assoc s.kept (entry_of event (Some s.number) reply ∷ []) h.entries);
  told = inl (is, h.told);
}

-- a refusal, before the other responses of a session
keeps_refusal : (n : Node) (s next t : SeatHistory) (event : DebugEvent Listing) (why : Refusal) (r : Response) (rs : List Response)
    → r ≡ response_to why → next ≡ with_refused n event why s → KeepsReplied next rs t → KeepsReplied s (r ∷ rs) t
keeps_refusal n s next t event why r rs is same h = record {
  entries = h.entries;
  refusals = refused_command n s event why ∷ h.refusals;
  kept = h.kept ∙ ap (λ (x : SeatHistory). record x { kept = x.kept ++ h.entries; refused = x.refused ++ h.refusals }) same
      ∙ ap (λ (fs : List RefusedCommand). record s { kept = s.kept ++ h.entries; refused = fs }) (append_assoc s.refused (refused_command n s event why ∷ []) h.refusals);
  told = inr (inl (is, h.told));
}

keeps_answer : (s next t : SeatHistory) (event : DebugEvent Listing) (answer : Result (DebugReply View) Refusal) (r : Response) (rs : List Response)
    → CommandAnswered s event answer next → r ≡ response_by answer → KeepsReplied next rs t → KeepsReplied s (r ∷ rs) t
keeps_answer s next t event (Ok reply) r rs c is h = keeps_reply s next t event reply r rs is c.answered.seat h
keeps_answer s next t event (Err why) r rs c is h = keeps_refusal c.node s next t event why r rs is c.answered.seat h

keeps_one : (s next t : SeatHistory) (c : Command) (r : Response) (rs : List Response) → Answered SeatAnswers s c r next → KeepsReplied next rs t → KeepsReplied s (r ∷ rs) t
keeps_one s next t c r rs (inl a) h = keeps_answer s next t a.0 a.2.answer r rs a.2.command_answered a.2.is_response h
keeps_one s next t c r rs (inr a) h = keeps_unloaded s next t r rs (unprepared_is c r a.0) a.1 h

-- a seat keeps of a session's commands the entries that their responses report, and notes the refusals
pub keeps : (s : SeatHistory) (cs : List Command) (rs : List Response) (t : SeatHistory) → Serves SeatAnswers s cs rs t → KeepsReplied s rs t
keeps s [] [] t h = record {
  entries = [];
  refusals = [];
  kept = h ∙ ap (λ (es : List Entry). record s { kept = es }) (sym (append-nil s.kept))
      ∙ ap (λ (fs : List RefusedCommand). record s { kept = s.kept ++ []; refused = fs }) (sym (append-nil s.refused));
  told = (refl, refl);
}
keeps s [] (r ∷ rs) t h = absurd h
keeps s (c ∷ cs) [] t h = absurd h
keeps s (c ∷ cs) (r ∷ rs) t h = keeps_one s h.0 t c r rs h.1 (keeps h.0 cs rs t h.2)

pub kept_served : (s : SeatHistory) (read written : List ℕ) (served : Served) (t : SeatHistory) → IsServed SeatAnswers s read written served t → IsWrittenAndKept s written t
kept_served s read written served t h = record {
  responses = h.responses;
  is_written = h.is_written;
  keeps = keeps s (stream_of read).commands h.responses t h.answered;
}

pub kept_stopped : (s : SeatHistory) (read written : List ℕ) (e : ServeError) (t : SeatHistory) → IsStopped SeatAnswers s read written e t → IsPartlyWrittenAndKept s written t
kept_stopped s read written e t h = record {
  responses = h.responses;
  untold = h.untold;
  begun = h.begun;
  last = h.at_most_one;
  is_written = h.is_written;
  keeps = keeps s (take e.done (stream_of read).commands) (h.responses ++ h.untold) t h.answered;
}
