-- What holds of the node after an answer, if each step of the definition preserves it.
use Rattle.std.proofs.Common.{◌≡◌, ℕ, Bool, false, List, [], sym, ap, subst, ◌∙◌, Option, Some, None, Result, Ok, Err}
use Rattle.beam_model.specs.Prelude.{Listing, Place}
use Rattle.beam_machine.specs.declared.event.Event.TheVariants.{Steps}
use Rattle.beam_machine.specs.declared.event.Refused.{Refused}
use Rattle.beam_machine.specs.declared.event.Then.{Then}
use Rattle.beam_machine.specs.declared.event.Event.{Event}
use Rattle.beam_machine.specs.Prelude.{AreHome, Halting, halting, State, Answer, Rows, next, Answers, effective_rows}
use Rattle.beam_laws.proofs.Homes.{next_home}
use Rattle.beam_laws.proofs.Numbering.{Ordered, ordered_next}
use Rattle.beam_laws.proofs.Sending.{steps_state}
use Rattle.beam_laws.proofs.Debugging.{halting_rows}
use Rattle.beam_shape_laws.specs.Shaped.{IsFramedNode}
use Rattle.beam_shape_laws.proofs.Nodes.{next_framed}
use Rattle.beam_state.proofs.Kept.{answers_keep}
use Rattle.beam_core.specs.Halt.{HaltsAt, ShortHaltsAt, rows_done}

pub stays_home : (s t : State) (e : Event Listing) (a : Answer) → Answers s e a t → AreHome s.code s.processes → AreHome t.code t.processes
stays_home = answers_keep (λ s. AreHome s.code s.processes) next_home

pub stays_ordered : (s t : State) (e : Event Listing) (a : Answer) → Answers s e a t → Ordered s.code s.instances → Ordered t.code t.instances
stays_ordered = answers_keep (λ s. Ordered s.code s.instances) ordered_next

-- ---- rows that stop before break spots

-- rows that stop before break spots preserve what every `Steps` preserves
halting_keeps : (P : State → Type 0) → ((s : State) (pid n : ℕ) → P s → P (next s (Steps pid n)).state)
    → (spots : List Place) (passes : Bool) (pid n : ℕ) (s : State) → P s → P (halting spots passes s pid n).rows.state
halting_keeps P keeps spots passes pid n s p =
    let count : ℕ = (halting spots passes s pid n).rows.count in
    subst P (steps_state s pid count ∙ ap (λ (r : Rows). r.state) (halting_rows n spots passes s pid)) (keeps s pid count p)

rows_keep : (P : State → Type 0) → ((s : State) (pid n : ℕ) → P s → P (next s (Steps pid n)).state)
    → (spots : List Place) (passes : Bool) (pid n : ℕ) (s : State) (result : Result (ℕ × Option Then) Refused) (t : State) → HaltsAt spots passes pid n s result t → P s → P t
rows_keep P keeps spots passes pid n s (Ok (count, Some after)) t h p =
    subst P (ap (λ (h : Halting). h.rows.state) h.0) (halting_keeps P keeps spots passes pid (effective_rows n count after) s p)
rows_keep P keeps spots passes pid n s (Ok (count, None)) t h p =
    subst P (ap (λ (h : Halting). h.rows.state) h.0) (halting_keeps P keeps spots passes pid n s p)
rows_keep P keeps spots passes pid n s (Err refusal) t h p = subst P (sym h.1) p

pub rows_stay_home : (spots : List Place) (passes : Bool) (pid n : ℕ) (s : State) (result : Result (ℕ × Option Then) Refused) (t : State) → HaltsAt spots passes pid n s result t
    → AreHome s.code s.processes → AreHome t.code t.processes
rows_stay_home = rows_keep (λ s. AreHome s.code s.processes) (λ s pid n. next_home s (Steps pid n))

pub rows_stay_ordered : (spots : List Place) (passes : Bool) (pid n : ℕ) (s : State) (result : Result (ℕ × Option Then) Refused) (t : State) → HaltsAt spots passes pid n s result t
    → Ordered s.code s.instances → Ordered t.code t.instances
rows_stay_ordered = rows_keep (λ s. Ordered s.code s.instances) (λ s pid n. ordered_next s (Steps pid n))

pub rows_stay_framed : (spots : List Place) (passes : Bool) (pid n : ℕ) (s : State) (result : Result (ℕ × Option Then) Refused) (t : State) → HaltsAt spots passes pid n s result t
    → IsFramedNode s → IsFramedNode t
rows_stay_framed = rows_keep IsFramedNode (λ s pid n. next_framed s (Steps pid n) tt)

-- the rows of one turn keep the node framed too
pub turn_stays_framed : (spots : List Place) (passes : Bool) (pid n : ℕ) (s t : State) → halting spots passes s pid n ≡ rows_done n t → IsFramedNode s → IsFramedNode t
turn_stays_framed spots passes pid n s t is framed =
    subst IsFramedNode (ap (λ (h : Halting). h.rows.state) is) (halting_keeps IsFramedNode (λ s pid n. next_framed s (Steps pid n) tt) spots passes pid n s framed)

-- ---- rows of a short turn

short_keep : (P : State → Type 0) → ((s : State) (pid n : ℕ) → P s → P (next s (Steps pid n)).state)
    → (pid : ℕ) (s : State) (result : Result (Option (ℕ × Then)) Refused) (t : State) → ShortHaltsAt pid s result t → P s → P t
short_keep P keeps pid s (Ok (Some (count, after))) t h p = subst P (ap (λ (h : Halting). h.rows.state) h.0) (halting_keeps P keeps [] false pid count s p)
short_keep P keeps pid s (Ok None) t h p = subst P (sym h) p
short_keep P keeps pid s (Err refusal) t h p = subst P (sym h.1) p

pub short_stays_home : (pid : ℕ) (s : State) (result : Result (Option (ℕ × Then)) Refused) (t : State) → ShortHaltsAt pid s result t → AreHome s.code s.processes → AreHome t.code t.processes
short_stays_home = short_keep (λ s. AreHome s.code s.processes) (λ s pid n. next_home s (Steps pid n))

pub short_stays_ordered : (pid : ℕ) (s : State) (result : Result (Option (ℕ × Then)) Refused) (t : State) → ShortHaltsAt pid s result t → Ordered s.code s.instances → Ordered t.code t.instances
short_stays_ordered = short_keep (λ s. Ordered s.code s.instances) (λ s pid n. ordered_next s (Steps pid n))

pub short_stays_framed : (pid : ℕ) (s : State) (result : Result (Option (ℕ × Then)) Refused) (t : State) → ShortHaltsAt pid s result t → IsFramedNode s → IsFramedNode t
short_stays_framed = short_keep IsFramedNode (λ s pid n. next_framed s (Steps pid n) tt)
