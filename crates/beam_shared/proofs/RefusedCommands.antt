-- A command that the node refuses can be refused so, by its journal and the processes that are checked out.
use Rattle.std.proofs.Common.{◌≡◌, ℕ, true, [], ◌∷◌, ◌++◌, length, take, Err, sym, ap, subst, ◌∙◌, arith}
use Rattle.std.specs.List.{list_any}
use Rattle.std.proofs.Math.Seq.{take-length}
use Rattle.beam_model.specs.Prelude.{Listing}
use Rattle.beam_machine.specs.declared.debug.DebugEvent.{DebugEvent}
use Rattle.beam_machine.specs.declared.event.Refused.TheVariants.{NoMemory}
use Rattle.beam_machine.specs.Prelude.{debug_next, replay}
use Rattle.beam_journal.specs.Entering.{in_memory}
use Rattle.beam_laws.specs.Prelude.{is_busy}
use Rattle.beam_receipts.specs.declared.refusal.Refusal.{Refusal}
use Rattle.beam_receipts.specs.declared.refusal.Refusal.TheVariants.{Node as OfNode, Busy, JournalFull}
use Rattle.beam_receipts.specs.Receipts.{History, SeatHistory, after_moves, of_seat}
use Rattle.beam_receipts.specs.Refused.{CanRefuse, IsDrainedAt, IsFullAt, WasRefused}
use Rattle.beam_shared.specs.Prelude.{Node, RefusesCommand, must_wait, refused_now, with_refused}

module _ (n : Node) (known : History) (event : DebugEvent Listing) (journal : known.journal ≡ n.journal) (drained : ℕ) (left : drained ≡ n.drained) where
  can_refuse : (refusal : Refusal) → replay known.journal ≡ n.state
      → (must_wait n.checked_out event ≡ true → list_any (λ (pid : ℕ). is_busy pid event) (after_moves [] known.moves) ≡ true)
      → RefusesCommand n event refusal → CanRefuse known.journal known.moves event refusal
  can_refuse JournalFull replays out h = tt
  can_refuse Busy replays out h = out h.1
  can_refuse (OfNode NoMemory) replays out h = tt
  can_refuse (OfNode refused) replays out h = subst (λ d. (debug_next d event).answer ≡ Err refused) (sym replays) h.2

  pub was_refused : (s : SeatHistory) (refusal : Refusal) → replay known.journal ≡ n.state → s.kept ≡ of_seat s.number known.journal → IsDrainedAt known.drains (length known.journal) drained
      → (must_wait n.checked_out event ≡ true → list_any (λ (pid : ℕ). is_busy pid event) (after_moves [] known.moves) ≡ true)
      → RefusesCommand n event refusal → WasRefused known.journal known.moves known.drains s.number (refused_now known drained s event refusal)
  was_refused s refusal replays kept at out h =
      let all = take-length known.journal in
      let all_moves = take-length known.moves in
      record {
        entered = omega arith;
        moved = omega arith;
        accepted = ap (λ es. length (of_seat s.number es)) all ∙ sym (ap length kept);
        why = subst (λ es. CanRefuse es (take (length known.moves) known.moves) event refusal) (sym all)
            (subst (λ moves. CanRefuse known.journal moves event refusal) (sym all_moves) (can_refuse refusal replays out h));
        drained = at;
      }

  full_by : (refusal : Refusal) → RefusesCommand n event refusal → IsFullAt n.limit (in_memory n.journal n.drained) refusal
  full_by JournalFull h = h
  full_by Busy h = h.0
  full_by (OfNode NoMemory) h = h.0
  full_by (OfNode refused) h = h.0

  pub is_full_at : (limit : ℕ) (refusal : Refusal) → n.limit ≡ limit → RefusesCommand n event refusal → IsFullAt limit (in_memory known.journal drained) refusal
  is_full_at limit refusal same h =
      subst (λ es. IsFullAt limit (in_memory es drained) refusal) (sym journal)
      (subst (λ m. IsFullAt limit (in_memory n.journal m) refusal) (sym left) (subst (λ l. IsFullAt l (in_memory n.journal n.drained) refusal) same (full_by refusal h)))

-- what a seat notes after all that is known of the node is what it notes of the node
pub noted_is : (n : Node) (known : History) (drained : ℕ) (s t : SeatHistory) (event : DebugEvent Listing) (refusal : Refusal) → known.journal ≡ n.journal → known.moves ≡ n.moves
    → drained ≡ n.drained → t ≡ s → record t { refused = t.refused ++ refused_now known drained t event refusal ∷ [] } ≡ with_refused n event refusal s
noted_is n known drained s t event refusal journal moves left same =
    ap (λ (x : SeatHistory). record x { refused = x.refused ++ refused_now known drained x event refusal ∷ [] }) same
    ∙ (λ i. record s {
      refused = s.refused ++ record {
        event = event;
        refusal = refusal;
        entered = length (journal i);
        accepted = length s.kept;
        moves = length (moves i);
        drained = left i;
      } ∷ [];
    })
