use Rattle.std.proofs.Common.{◌≡◌, ◌<◌, ℕ, Some, sym, ap, ◌∙◌, subst}
use Rattle.beam_receipts.specs.Receipts.{History, SeatHistory}
use Rattle.beam_receipts.specs.Refused.{WasRefused}
use Rattle.beam_receipts.specs.Rule.{SeatClaim, history_of, seat_claim, kept_by, refused_by, taken_in}
use Rattle.beam_receipts.proofs.Moves.{first, with_seat_history, takes_in_as, notes_as}
use Rattle.beam_receipts.proofs.keeper.Keeper.note_refused.Goals as goal

pub join_seat-requires : goal.join_seat-requires
join_seat-requires g c =
    let i = c.self.invariant in
    let p = c.self.inside.pass in
    let q = c.into_seat in
    let table = q.ensures.0 ∙ ap (λ b. b.table_id) c.replace-pass.ensures.value ∙ c.seat.invariant.0 ∙ sym i.0 in
    (i.1 ∙ sym i.0, table, q.ensures.3, subst (λ t. 0 < t.words) (sym i.0) i.2, λ s h at apart there. takes_in_as p.id p.me.0 (history_of p.me.0) q.result.id q.result.me.0 i.3 s.views h at apart there)

pub split_seat-pass-requires : goal.split_seat-pass-requires
split_seat-pass-requires g c =
    let i = c.self.invariant in
    let p = c.self.inside.pass in
    let w = c.into_seat.result.me.0 in
    let seat_history : SeatClaim = record { number = c.seat.inside.number; kept = kept_by c.seat.inside.pass.views; refused = refused_by c.seat.inside.pass.views } in
    let views : c.replace-pass.result.views ≡ c.seat.inside.pass.views = ap (λ b. b.views) c.replace-pass.ensures.value in
    let has : w ≡ seat_claim seat_history = ap first (sym c.into_seat.ensures.2 ∙ views ∙ c.seat.invariant.1) in
    let x = c.join_seat.new.seat in
    let joined : x.me.0 ≡ taken_in p.me.0 w = ap (λ m. m.0) c.join_seat.ensures.2 in
    let is = with_seat_history p.me.0 w x.me.0 (history_of p.me.0) seat_history joined i.3 has in
    let table = c.join_seat.ensures.0 ∙ i.1 ∙ sym i.0 in
    let words = subst (λ t. 0 < t.words) (sym i.0) i.2 in
    let k = history_of p.me.0 in
    let refused : WasRefused k.journal k.moves k.drains seat_history.number g.F.GhostRefusedCommand.refused
    = subst (λ (n : ℕ). WasRefused k.journal k.moves k.drains n g.F.GhostRefusedCommand.refused) (sym (ap (λ (s : SeatHistory). s.number) c.seat.view_is))
    (subst (λ (h : History). WasRefused h.journal h.moves h.drains c.args.seat.now.number g.F.GhostRefusedCommand.refused) (sym c.self.view_is) c.requires.refused) in
    (table, words, λ s h at. notes_as x.id x.me.0 (history_of p.me.0) seat_history g.F.GhostRefusedCommand.refused is refused s.views h at)
