-- Each step of a pass keeps the rule.
use Rattle.std.proofs.Common.{◌≡◌, ◌≢◌, ◌⊎◌, inl, inr, ℕ, zero, suc, ◌+◌, ◌<◌, List, [], ◌∷◌, ◌++◌, length, set, true, false, cond, eqb, eq-eqb, ne_eqb, refl, sym, ap, ◌∙◌, subst, ⊎_elim, arith, slice_get, slice_index_or, Option, Some, None, option_map, IfSome, append-nil, append_assoc, All, take, length-append, Bool, ◌||◌, ◌==◌, ◌≤◌}
use Rattle.std.proofs.lemmas.List.{take-append-le}
use Rattle.std.proofs.lemmas.List.Elements.{filter-append, All-nil, All-cons, All-head, All-tail, All-append}
use Rattle.std.specs.List.{list_any}
use mathlib.Core.Option.{some, some-injective, some-ne-none}
use lib.ListN.{get_elem?}
use Rattle.atomic_table.proofs.Lists.{at_set, set_again, set_else}
use Rattle.beam_machine.specs.Prelude.{Entry}
use Rattle.beam_laws.specs.Prelude.{Origin}
use Rattle.beam_receipts.specs.Receipts.{History, empty_history, Checkout, Move, RefusedCommand, is_number, is_of, moved_in, moved_out, of_seat, AreOfGiven}
use Rattle.beam_receipts.specs.Refused.{WereRefused, CanRefuse, WasRefused}
use Rattle.beam_receipts.specs.Rule.{Claim, SeatClaim, keeper_claim, seat_claim, ticket_claim, drain_claim, no_claim, IsSeatClaim, IsCheckout, IsBeginning, Fits, ClaimsAgree, with_seat, with_entry, with_origin, new_seat_claim, new_ticket_claim, with_seat_entry, with_checked_in, with_drain, with_refused, taken_in, alone, given_back, given_back_refused, alone_with, given_back_with, new_drain_claim, drained_claim, alone_drained, Compares}

-- ---- lists and options

at_end : {A : Type 0} (l : List A) (a b : A) (j : ℕ) → get_elem? (l ++ a ∷ []) j ≡ some b → (get_elem? l j ≡ some b) ⊎ ((j ≡ length l) × (a ≡ b))
at_end [] a b zero e = inr (refl, some-injective a b e)
at_end [] a b (suc j) e = absurd (some-ne-none b (sym e))
at_end (x ∷ xs) a b zero e = inl e
at_end (x ∷ xs) a b (suc j) e = ⊎_elim (λ was. inl was) (λ t. inr (ap suc t.0, t.1)) (at_end xs a b j e)

length_set : {A : Type 0} (l : List A) (i : ℕ) (a : A) → length (set l i a) ≡ length l
length_set [] i a = refl
length_set (x ∷ xs) zero a = refl
length_set (x ∷ xs) (suc i) a = ap suc (length_set xs i a)

pub slice_get_front : {A : Type 0} (xs ys : List A) (k : ℕ) (p : A) → slice_get xs k ≡ Some p → slice_get (xs ++ ys) k ≡ Some p
slice_get_front [] ys k p e = absurd (cc)
slice_get_front (x ∷ xs) ys zero p e = e
slice_get_front (x ∷ xs) ys (suc k) p e = slice_get_front xs ys k p e

pub slice_get_end : {A : Type 0} (xs : List A) (p : A) → slice_get (xs ++ p ∷ []) (length xs) ≡ Some p
slice_get_end [] p = refl
slice_get_end (x ∷ xs) p = slice_get_end xs p

if_some : {A : Type 0} (o : Option A) (P Q : A → Type 0) → ((a : A) → P a → Q a) → IfSome o P → IfSome o Q
if_some None P Q f h = h
if_some (Some a) P Q f h = f a h

-- ---- which pass has a seat's history

abbrev placed : (ℕ → ℕ) → Option SeatClaim → ℕ → ℕ → ℕ
placed owner None at m = owner m
placed owner (Some s) at m = cond (eqb m s.number) at (owner m)

placed_here : (owner : ℕ → ℕ) (s : SeatClaim) (at : ℕ) → placed owner (Some s) at s.number ≡ at
placed_here owner s at = ap (λ b. cond b at (owner s.number)) (eq-eqb s.number s.number refl)

placed_else : (owner : ℕ → ℕ) (s : SeatClaim) (at m : ℕ) → m ≢ s.number → placed owner (Some s) at m ≡ owner m
placed_else owner s at m apart = ap (λ b. cond b at (owner m)) (ne_eqb m s.number apart)

-- a seat's history is in the pass where it was, if this pass didn't have it
elsewhere : (owner : ℕ → ℕ) (o : Option SeatClaim) (by at j m : ℕ) → IfSome o (λ s. by ≡ owner s.number) → j ≢ by → j ≡ owner m → j ≡ placed owner o at m
elsewhere owner None by at j m had apart e = e
elsewhere owner (Some s) by at j m had apart e = e ∙ sym (placed_else owner s at m (λ same. apart (e ∙ ap owner same ∙ sym had)))

-- ---- entries of one seat

of_seat_more : (n : ℕ) (entries : List Entry) (e : Entry) → is_of n e ≡ true → of_seat n (entries ++ e ∷ []) ≡ of_seat n entries ++ e ∷ []
of_seat_more n entries e is = filter-append (is_of n) entries (e ∷ []) ∙ ap (λ b. of_seat n entries ++ cond b (e ∷ []) []) is

of_seat_same : (n : ℕ) (entries : List Entry) (e : Entry) → is_of n e ≡ false → of_seat n (entries ++ e ∷ []) ≡ of_seat n entries
of_seat_same n entries e is = filter-append (is_of n) entries (e ∷ []) ∙ ap (λ b. of_seat n entries ++ cond b (e ∷ []) []) is ∙ append-nil (of_seat n entries)

is_this : (n : ℕ) (o : Option ℕ) → o ≡ Some n → is_number n o ≡ true
is_this n o e = ap (is_number n) e ∙ eq-eqb n n refl

is_other : (n m : ℕ) (o : Option ℕ) → o ≡ Some m → n ≢ m → is_number n o ≡ false
is_other n m o e apart = ap (is_number n) e ∙ ne_eqb m n (λ same. apart (sym same))

-- a seat that is still to be given has no entries
pub unused : (given : ℕ) (entries : List Entry) → AreOfGiven given entries → of_seat given entries ≡ []
unused given [] below = refl
unused given (e ∷ rest) below =
    ap (λ b. cond b (e ∷ of_seat given rest) (of_seat given rest)) (not_given e.seat (All-head (λ (x : Entry). IfSome x.seat (λ n. n < given)) e rest below))
    ∙ unused given rest (All-tail (λ (x : Entry). IfSome x.seat (λ n. n < given)) e rest below)
  where
    not_given : (o : Option ℕ) → IfSome o (λ n. n < given) → is_number given o ≡ false
    not_given None lt = refl
    not_given (Some m) lt = ne_eqb m given (λ (same : m ≡ given). omega arith)

given_later : (given : ℕ) (entries : List Entry) → AreOfGiven given entries → AreOfGiven (given + 1) entries
given_later given entries below = λ k d lt. if_some (slice_index_or entries k d).seat (λ n. n < given) (λ n. n < given + 1) (λ n less. omega arith) (below k d lt)

-- an entry of the seat whose history a pass had, or of no seat, isn't of a seat whose history another pass has
not_theirs : (owner : ℕ → ℕ) (o : Option SeatClaim) (seat : Option ℕ) (by j n : ℕ) → option_map (λ s. s.number) o ≡ seat → IfSome o (λ s. by ≡ owner s.number) → j ≢ by → j ≡ owner n → is_number n seat ≡ false
not_theirs owner None seat by j n is had apart e = ap (is_number n) (sym is)
not_theirs owner (Some s) seat by j n is had apart e = is_other n s.number seat (sym is) (λ same. apart (e ∙ ap owner same ∙ sym had))

-- ---- refused commands

-- what holds of a refused command holds of it after one more entry
refused_after_entry : (journal : List Entry) (moves : List Move) (drains : List ℕ) (n : ℕ) (e : Entry) (r : RefusedCommand)
    → WasRefused journal moves drains n r → WasRefused (journal ++ e ∷ []) moves drains n r
refused_after_entry journal moves drains n e r h =
    let longer : length (journal ++ e ∷ []) ≡ length journal + 1 = length-append journal (e ∷ []) in
    let front = sym (take-append-le r.entered journal (e ∷ []) h.entered) in
    record {
      entered = omega (arith, longer, h.entered);
      moved = h.moved;
      accepted = subst (λ es. length (of_seat n es) ≡ r.accepted) front h.accepted;
      why = subst (λ es. CanRefuse es (take r.moves moves) r.event r.refusal) front h.why;
      drained = h.drained;
    }

-- and after one more process was checked out or in
refused_after_move : (journal : List Entry) (moves : List Move) (drains : List ℕ) (n : ℕ) (m : Move) (r : RefusedCommand)
    → WasRefused journal moves drains n r → WasRefused journal (moves ++ m ∷ []) drains n r
refused_after_move journal moves drains n m r h =
    let longer : length (moves ++ m ∷ []) ≡ length moves + 1 = length-append moves (m ∷ []) in
    record {
      entered = h.entered;
      moved = omega (arith, longer, h.moved);
      accepted = h.accepted;
      why = subst (λ ms. CanRefuse (take r.entered journal) ms r.event r.refusal) (sym (take-append-le r.moves moves (m ∷ []) h.moved)) h.why;
      drained = h.drained;
    }

or_between : (a b c : Bool) → (a || c) ≡ true → (a || (b || c)) ≡ true
or_between true b c e = refl
or_between false true c e = refl
or_between false false c e = e

-- and after all entries left memory
refused_after_drain : (journal : List Entry) (moves : List Move) (drains : List ℕ) (n : ℕ) (r : RefusedCommand)
    → WasRefused journal moves drains n r → WasRefused journal moves (length journal ∷ drains) n r
refused_after_drain journal moves drains n r h = record {
  entered = h.entered;
  moved = h.moved;
  accepted = h.accepted;
  why = h.why;
  drained = record {
    few = h.drained.few;
    was = or_between (0 == r.drained) (length journal == r.drained) (list_any (λ k. k == r.drained) drains) h.drained.was;
    last = All-cons (λ k. (k ≤ r.drained) ⊎ (r.entered ≤ k)) (length journal) drains (inr h.entered) h.drained.last;
  };
}

all_after_entry : (journal : List Entry) (moves : List Move) (drains : List ℕ) (n : ℕ) (e : Entry) (refused : List RefusedCommand)
    → WereRefused journal moves drains n refused → WereRefused (journal ++ e ∷ []) moves drains n refused
all_after_entry journal moves drains n e refused h = λ k d less. refused_after_entry journal moves drains n e (slice_index_or refused k d) (h k d less)

all_after_move : (journal : List Entry) (moves : List Move) (drains : List ℕ) (n : ℕ) (m : Move) (refused : List RefusedCommand)
    → WereRefused journal moves drains n refused → WereRefused journal (moves ++ m ∷ []) drains n refused
all_after_move journal moves drains n m refused h = λ k d less. refused_after_move journal moves drains n m (slice_index_or refused k d) (h k d less)

all_after_drain : (journal : List Entry) (moves : List Move) (drains : List ℕ) (n : ℕ) (refused : List RefusedCommand)
    → WereRefused journal moves drains n refused → WereRefused journal moves (length journal ∷ drains) n refused
all_after_drain journal moves drains n refused h = λ k d less. refused_after_drain journal moves drains n (slice_index_or refused k d) (h k d less)

pub and_one_more : {A : Type 0} (P : A → Type 0) (xs : List A) (x : A) → All P xs → P x → All P (xs ++ x ∷ [])
and_one_more {A = A} P xs x h one = All-append P xs (x ∷ []) h only
  where
    only : (k : ℕ) (d : A) → k < 1 → P (slice_index_or (x ∷ []) k d)
    only zero d lt = one
    only (suc k) d lt = absurd (omega arith)

-- ---- the rule after a step

-- the claim of another pass holds after a step of the keeper's pass
others : (all now : History) (knower : ℕ) (owner next : ℕ → ℕ) (by j : ℕ) (c : Claim) → by ≡ knower → j ≢ by
    → ((s : SeatClaim) → (j ≡ owner s.number) × IsSeatClaim all s → (j ≡ next s.number) × IsSeatClaim now s)
    → ((t : Checkout) → IsCheckout all t → IsCheckout now t)
    → ((first : List Entry) → IsBeginning all first → IsBeginning now first)
    → Fits all knower owner j c → Fits now knower next j c
others all now knower owner next by j c knows apart shares checkouts beginnings fits = (
  if_some c.history (λ k. (j ≡ knower) × (k ≡ all)) (λ k. (j ≡ knower) × (k ≡ now)) (λ k h. absurd (apart (h.0 ∙ sym knows))) fits.0,
  if_some c.seat_history (λ s. (j ≡ owner s.number) × IsSeatClaim all s) (λ s. (j ≡ next s.number) × IsSeatClaim now s) shares fits.1,
  if_some c.checkout (IsCheckout all) (IsCheckout now) checkouts fits.2,
  if_some c.beginning (IsBeginning all) (IsBeginning now) beginnings fits.3,
)

fits_set : (now : History) (knower : ℕ) (next : ℕ → ℕ) (claims : List Claim) (by : ℕ) (w : Claim)
    → ((j : ℕ) (c : Claim) → j ≢ by → get_elem? claims j ≡ some c → Fits now knower next j c)
    → Fits now knower next by w
    → (j : ℕ) (c : Claim) → get_elem? (set claims by w) j ≡ some c → Fits now knower next j c
fits_set now knower next claims by w rest mine j c e =
    ⊎_elim
    (λ (x : (j ≡ by) × (w ≡ c)). subst (λ (y : ℕ × Claim). Fits now knower next y.0 y.1) (λ i. (sym x.0 i, x.1 i)) mine)
    (λ (x : (j ≢ by) × (get_elem? claims j ≡ some c)). rest j c x.0 x.1)
    (at_set claims by j w c e)

fits_cut : (now : History) (knower : ℕ) (next : ℕ → ℕ) (claims : List Claim) (by : ℕ) (left right : Claim)
    → ((j : ℕ) (c : Claim) → j ≢ by → get_elem? claims j ≡ some c → Fits now knower next j c)
    → Fits now knower next by left → Fits now knower next (length claims) right
    → (j : ℕ) (c : Claim) → get_elem? (set claims by left ++ right ∷ []) j ≡ some c → Fits now knower next j c
fits_cut now knower next claims by left right rest mine new j c e =
    ⊎_elim
    (λ (x : get_elem? (set claims by left) j ≡ some c). fits_set now knower next claims by left rest mine j c x)
    (λ (x : (j ≡ length (set claims by left)) × (right ≡ c)). subst (λ (y : ℕ × Claim). Fits now knower next y.0 y.1) (λ i. (sym (x.0 ∙ length_set claims by left) i, x.1 i)) new)
    (at_end (set claims by left) right c j e)

-- ---- steps

-- a pass's claim is split in two, and a new pass has the second part
abbrev pub Cuts : ℕ → Claim → Claim → Claim → Type 0
Cuts by v left right = (claims : List Claim) → ClaimsAgree claims → get_elem? claims by ≡ some v → ClaimsAgree (set claims by left ++ right ∷ [])

-- a pass takes in another's claim, and the other's is spent
abbrev pub Glues : ℕ → Claim → ℕ → Claim → Claim → Claim → Type 0
Glues by v other w both spent =
    (claims : List Claim) → ClaimsAgree claims → get_elem? claims by ≡ some v → ¬ (other ≡ by) → get_elem? (set claims by both) other ≡ some w → ClaimsAgree (set (set claims by both) other spent)

pub begins : ClaimsAgree (keeper_claim empty_history ∷ [])
begins = (empty_history, 0, (λ _. 0), All-nil (λ (e : Entry). IfSome e.seat (λ n. n < 0)), one)
  where
    one : (by : ℕ) (c : Claim) → get_elem? (keeper_claim empty_history ∷ []) by ≡ some c → Fits empty_history 0 (λ _. 0) by c
    one zero c e = subst (Fits empty_history 0 (λ _. 0) 0) (some-injective _ _ e) ((refl, refl), tt, tt, tt)
    one (suc by) c e = absurd (some-ne-none c (sym e))

-- the claim of the keeper's pass, with the seat history, the checkout or the journal's beginning that it has taken in
abbrev pub full : History → Option SeatClaim → Option Checkout → Option (List Entry) → Claim
full k seat_history checkout beginning = record { history = Some k; seat_history = seat_history; checkout = checkout; beginning = beginning }

gives_seat : (by : ℕ) (k : History) → Cuts by (keeper_claim k) (keeper_claim (with_seat k)) (new_seat_claim (keeper_claim k))
gives_seat by k claims h at =
    let all = h.0 in
    let knower = h.1 in
    let owner = h.2 in
    let mine = (h.4 by (keeper_claim k) at).0 in
    let s : SeatClaim = record { number = k.given; kept = []; refused = [] } in
    let next = placed owner (Some s) (length claims) in (
      with_seat all,
      knower,
      next,
      given_later all.given all.journal h.3,
      fits_cut (with_seat all) knower next claims by (keeper_claim (with_seat k)) (seat_claim s)
          (λ j c apart e. others all (with_seat all) knower owner next by j c mine.0 apart
          (λ t f. (f.0 ∙ sym (placed_else owner s (length claims) t.number (λ same. let less : t.number < all.given = f.1.0 in let is : t.number ≡ k.given = same in let history : k.given ≡ all.given = ap (λ x. x.given) mine.1 in omega arith)), ((let less : t.number < all.given = f.1.0 in omega arith), f.1.1, f.1.2)))
          (λ t f. f)
          (λ first f. f)
          (h.4 j c e))
          ((mine.0, ap with_seat mine.1), tt, tt, tt)
          (tt, (sym (placed_here owner s (length claims)), ((let history : k.given ≡ all.given = ap (λ x. x.given) mine.1 in omega arith), sym (ap (λ (x : History). of_seat x.given all.journal) mine.1 ∙ unused all.given all.journal h.3), All-nil (WasRefused all.journal all.moves all.drains k.given))), tt, tt),
    )

checks_out : (by : ℕ) (k : History) (o : Origin) → Cuts by (keeper_claim k) (keeper_claim (with_origin o k)) (new_ticket_claim o (keeper_claim k))
checks_out by k o claims h at =
    let all = h.0 in
    let knower = h.1 in
    let owner = h.2 in
    let mine = (h.4 by (keeper_claim k) at).0 in
    let t : Checkout = record { serial = length k.checkouts; origin = o } in (
      with_origin o all,
      knower,
      owner,
      h.3,
      fits_cut (with_origin o all) knower owner claims by (keeper_claim (with_origin o k)) (ticket_claim t)
          (λ j c apart e. others all (with_origin o all) knower owner owner by j c mine.0 apart
          (λ s f. (f.0, (f.1.0, f.1.1, all_after_move all.journal all.moves all.drains s.number (moved_out o.pid) s.refused f.1.2)))
          (λ u f. slice_get_front all.checkouts (o ∷ []) u.serial u.origin f)
          (λ first f. f)
          (h.4 j c e))
          ((mine.0, ap (with_origin o) mine.1), tt, tt, tt)
          (tt, tt, subst (λ (x : History). slice_get (x.checkouts ++ o ∷ []) (length k.checkouts) ≡ Some o) mine.1 (slice_get_end k.checkouts o), tt),
    )

checks_in : (by : ℕ) (k : History) (pid : ℕ) → Cuts by (keeper_claim k) (keeper_claim (with_checked_in pid k)) no_claim
checks_in by k pid claims h at =
    let all = h.0 in
    let knower = h.1 in
    let owner = h.2 in
    let mine = (h.4 by (keeper_claim k) at).0 in (
      with_checked_in pid all,
      knower,
      owner,
      h.3,
      fits_cut (with_checked_in pid all) knower owner claims by (keeper_claim (with_checked_in pid k)) no_claim
          (λ j c apart e. others all (with_checked_in pid all) knower owner owner by j c mine.0 apart
          (λ s f. (f.0, (f.1.0, f.1.1, all_after_move all.journal all.moves all.drains s.number (moved_in pid) s.refused f.1.2)))
          (λ t f. f)
          (λ first f. f)
          (h.4 j c e))
          ((mine.0, ap (with_checked_in pid) mine.1), tt, tt, tt)
          (tt, tt, tt, tt),
    )

-- a pass that had a seat's history owned it
had : (all : History) (owner : ℕ → ℕ) (by : ℕ) (o : Option SeatClaim) → IfSome o (λ s. (by ≡ owner s.number) × IsSeatClaim all s) → IfSome o (λ s. by ≡ owner s.number)
had all owner by o f = if_some o (λ s. (by ≡ owner s.number) × IsSeatClaim all s) (λ s. by ≡ owner s.number) (λ s h. h.0) f

-- the pass that now has the seat's history
has : (all : History) (owner : ℕ → ℕ) (by at : ℕ) (o : Option SeatClaim) → IfSome o (λ s. (by ≡ owner s.number) × IsSeatClaim all s) → IfSome o (λ s. (at ≡ placed owner o at s.number) × IsSeatClaim all s)
has all owner by at None f = tt
has all owner by at (Some s) f = (sym (placed_here owner s at), f.1)

takes_in : (by : ℕ) (k : History) (other : ℕ) (w : Claim) → Glues by (keeper_claim k) other w (taken_in (keeper_claim k) w) no_claim
takes_in by k other w claims h at apart there =
    let all = h.0 in
    let knower = h.1 in
    let owner = h.2 in
    let mine = (h.4 by (keeper_claim k) at).0 in
    let both = taken_in (keeper_claim k) w in
    let stood : get_elem? claims other ≡ some w = sym (set_else claims by other both apart) ∙ there in
    let theirs = h.4 other w stood in
    let next = placed owner w.seat_history by in
    let untouched : (j : ℕ) (c : Claim) → j ≢ other → get_elem? (set claims by both) j ≡ some c → Fits all knower next j c =
    λ j c off e. ⊎_elim
    (λ (x : (j ≡ by) × (both ≡ c)). subst (λ (y : ℕ × Claim). Fits all knower next y.0 y.1) (λ i. (sym x.0 i, x.1 i)) (mine, has all owner other by w.seat_history theirs.1, theirs.2, theirs.3))
    (λ (x : (j ≢ by) × (get_elem? claims j ≡ some c)). others all all knower owner next by j c mine.0 x.0
    (λ s f. (elsewhere owner w.seat_history other by j s.number (had all owner other w.seat_history theirs.1) off f.0, f.1))
    (λ t f. f)
    (λ first f. f)
    (h.4 j c x.1))
    (at_set claims by j both c e) in
    (all, knower, next, h.3, fits_set all knower next (set claims by both) other no_claim untouched (tt, tt, tt, tt))

gives_back : (by : ℕ) (k : History) (seat_history : Option SeatClaim) (checkout : Option Checkout) (beginning : Option (List Entry))
    → Cuts by (full k seat_history checkout beginning) (alone (full k seat_history checkout beginning)) (given_back (full k seat_history checkout beginning))
gives_back by k seat_history checkout beginning claims h at =
    let all = h.0 in
    let knower = h.1 in
    let owner = h.2 in
    let was = h.4 by (full k seat_history checkout beginning) at in
    let next = placed owner seat_history (length claims) in (
      all,
      knower,
      next,
      h.3,
      fits_cut all knower next claims by (alone (full k seat_history checkout beginning)) (given_back (full k seat_history checkout beginning))
          (λ j c apart e. others all all knower owner next by j c was.0.0 apart
          (λ s f. (elsewhere owner seat_history by (length claims) j s.number (had all owner by seat_history was.1) apart f.0, f.1))
          (λ t f. f)
          (λ first f. f)
          (h.4 j c e))
          (was.0, tt, tt, tt)
          (tt, has all owner by (length claims) seat_history was.1, was.2, was.3),
    )

-- the pass that has the seat's history with the entry
has_more : (all : History) (owner : ℕ → ℕ) (by at : ℕ) (e : Entry) (o : Option SeatClaim) → option_map (λ s. s.number) o ≡ e.seat → IfSome o (λ s. (by ≡ owner s.number) × IsSeatClaim all s)
    → IfSome (option_map (with_seat_entry e) o) (λ s. (at ≡ placed owner o at s.number) × IsSeatClaim (with_entry e all) s)
has_more all owner by at e None is f = tt
has_more all owner by at e (Some s) is f = (sym (placed_here owner s at), (f.1.0, ap (λ l. l ++ e ∷ []) f.1.1 ∙ sym (of_seat_more s.number all.journal e (is_this s.number e.seat (sym is))), all_after_entry all.journal all.moves all.drains s.number e s.refused f.1.2))

-- an entry of the seat whose history a pass had is of a seat that was given
given_more : (all : History) (owner : ℕ → ℕ) (by : ℕ) (e : Entry) (o : Option SeatClaim) → option_map (λ s. s.number) o ≡ e.seat → IfSome o (λ s. (by ≡ owner s.number) × IsSeatClaim all s)
    → AreOfGiven all.given all.journal → AreOfGiven all.given (all.journal ++ e ∷ [])
given_more all owner by e o is f was = All-append (λ (x : Entry). IfSome x.seat (λ n. n < all.given)) all.journal (e ∷ []) was only
  where
    number_of : (p : Option SeatClaim) → IfSome p (λ s. (by ≡ owner s.number) × IsSeatClaim all s) → IfSome (option_map (λ s. s.number) p) (λ n. n < all.given)
    number_of None g = tt
    number_of (Some s) g = g.1.0

    only : (k : ℕ) (d : Entry) → k < 1 → IfSome (slice_index_or (e ∷ []) k d).seat (λ n. n < all.given)
    only zero d lt = subst (λ s. IfSome s (λ n. n < all.given)) is (number_of o f)
    only (suc k) d lt = absurd (omega arith)

enters : (by : ℕ) (k : History) (seat_history : Option SeatClaim) (e : Entry) → option_map (λ s. s.number) seat_history ≡ e.seat
    → Cuts by (full k seat_history None None) (alone_with e (full k seat_history None None)) (given_back_with e (full k seat_history None None))
enters by k seat_history e is claims h at =
    let all = h.0 in
    let knower = h.1 in
    let owner = h.2 in
    let was = h.4 by (full k seat_history None None) at in
    let next = placed owner seat_history (length claims) in (
      with_entry e all,
      knower,
      next,
      given_more all owner by e seat_history is was.1 h.3,
      fits_cut (with_entry e all) knower next claims by (alone_with e (full k seat_history None None)) (given_back_with e (full k seat_history None None))
          (λ j c apart there. others all (with_entry e all) knower owner next by j c was.0.0 apart
          (λ s f. (
            elsewhere owner seat_history by (length claims) j s.number (had all owner by seat_history was.1) apart f.0,
            (f.1.0, f.1.1 ∙ sym (of_seat_same s.number all.journal e (not_theirs owner seat_history e.seat by j s.number is (had all owner by seat_history was.1) apart f.0)), all_after_entry all.journal all.moves all.drains s.number e s.refused f.1.2),
          ))
          (λ t f. f)
          (λ first f. (f.0 ++ e ∷ [], ap (λ l. l ++ e ∷ []) f.1 ∙ append_assoc first f.0 (e ∷ [])))
          (h.4 j c there))
          ((was.0.0, ap (with_entry e) was.0.1), tt, tt, tt)
          (tt, has_more all owner by (length claims) e seat_history is was.1, tt, tt),
    )

-- a command of the seat whose claim was taken in is refused
notes : (by : ℕ) (k : History) (s : SeatClaim) (r : RefusedCommand) → WasRefused k.journal k.moves k.drains s.number r
    → Cuts by (full k (Some s) None None) (alone (full k (Some s) None None)) (given_back_refused r (full k (Some s) None None))
notes by k s r is claims h at =
    let all = h.0 in
    let knower = h.1 in
    let owner = h.2 in
    let was = h.4 by (full k (Some s) None None) at in
    let next = placed owner (Some s) (length claims) in
    let here : WasRefused all.journal all.moves all.drains s.number r = subst (λ (x : History). WasRefused x.journal x.moves x.drains s.number r) was.0.1 is in (
      all,
      knower,
      next,
      h.3,
      fits_cut all knower next claims by (alone (full k (Some s) None None)) (given_back_refused r (full k (Some s) None None))
          (λ j c apart e. others all all knower owner next by j c was.0.0 apart
          (λ t f. (elsewhere owner (Some s) by (length claims) j t.number (had all owner by (Some s) was.1) apart f.0, f.1))
          (λ t f. f)
          (λ first f. f)
          (h.4 j c e))
          (was.0, tt, tt, tt)
          (tt, (sym (placed_here owner s (length claims)), (was.1.1.0, was.1.1.1, and_one_more (WasRefused all.journal all.moves all.drains s.number) s.refused r was.1.1.2 here)), tt, tt),
    )

-- a drain receipt is given, which claims no entries
gives_drain_receipt : (by : ℕ) (k : History) → Cuts by (keeper_claim k) (keeper_claim k) (drain_claim [])
gives_drain_receipt by k claims h at =
    let all = h.0 in
    let knower = h.1 in
    let owner = h.2 in
    let was = h.4 by (keeper_claim k) at in (
      all,
      knower,
      owner,
      h.3,
      fits_cut all knower owner claims by (keeper_claim k) (drain_claim [])
          (λ j c apart e. others all all knower owner owner by j c was.0.0 apart
          (λ s f. f)
          (λ t f. f)
          (λ first f. f)
          (h.4 j c e))
          (was.0, tt, tt, tt)
          (tt, tt, tt, (all.journal, refl)),
    )

-- all entries leave memory
notes_drain : (by : ℕ) (k : History) (beginning : Option (List Entry))
    → Cuts by (full k None None beginning) (alone_drained (full k None None beginning)) (drained_claim (full k None None beginning))
notes_drain by k beginning claims h at =
    let all = h.0 in
    let knower = h.1 in
    let owner = h.2 in
    let was = h.4 by (full k None None beginning) at in (
      with_drain all,
      knower,
      owner,
      h.3,
      fits_cut (with_drain all) knower owner claims by (keeper_claim (with_drain k)) (drain_claim k.journal)
          (λ j c apart e. others all (with_drain all) knower owner owner by j c was.0.0 apart
          (λ s f. (f.0, (f.1.0, f.1.1, all_after_drain all.journal all.moves all.drains s.number s.refused f.1.2)))
          (λ t f. f)
          (λ first f. f)
          (h.4 j c e))
          ((was.0.0, ap with_drain was.0.1), tt, tt, tt)
          (tt, tt, tt, subst (λ (x : History). IsBeginning x k.journal) was.0.1 ([], sym (append-nil k.journal))),
    )

compares : (claims : List Claim) (by : ℕ) (k : History) (seat_history : Option SeatClaim) (checkout : Option Checkout) (beginning : Option (List Entry))
    → ClaimsAgree claims → get_elem? claims by ≡ some (full k seat_history checkout beginning) → Compares (full k seat_history checkout beginning)
compares claims by k seat_history checkout beginning h at =
    let all = h.0 in
    let owner = h.2 in
    let was = h.4 by (full k seat_history checkout beginning) at in
    subst (λ (x : History). AreOfGiven x.given x.journal × IfSome seat_history (IsSeatClaim x) × IfSome checkout (IsCheckout x) × IfSome beginning (IsBeginning x)) (sym was.0.1)
    (h.3, if_some seat_history (λ s. (by ≡ owner s.number) × IsSeatClaim all s) (IsSeatClaim all) (λ s f. f.1) was.1, was.2, was.3)

-- ---- the steps, at a claim that is known

pub gives_seat_as : (by : ℕ) (v : Claim) (k : History) → v ≡ keeper_claim k → Cuts by v (record v { history = option_map with_seat v.history }) (new_seat_claim v)
gives_seat_as by v k is = subst (λ (u : Claim). Cuts by u (record u { history = option_map with_seat u.history }) (new_seat_claim u)) (sym is) (gives_seat by k)

pub checks_out_as : (by : ℕ) (v : Claim) (k : History) (o : Origin) → v ≡ keeper_claim k → Cuts by v (record v { history = option_map (with_origin o) v.history }) (new_ticket_claim o v)
checks_out_as by v k o is = subst (λ (u : Claim). Cuts by u (record u { history = option_map (with_origin o) u.history }) (new_ticket_claim o u)) (sym is) (checks_out by k o)

pub checks_in_as : (by : ℕ) (v : Claim) (k : History) (pid : ℕ) → v ≡ keeper_claim k → Cuts by v (record v { history = option_map (with_checked_in pid) v.history }) no_claim
checks_in_as by v k pid is = subst (λ (u : Claim). Cuts by u (record u { history = option_map (with_checked_in pid) u.history }) no_claim) (sym is) (checks_in by k pid)

pub takes_in_as : (by : ℕ) (v : Claim) (k : History) (other : ℕ) (w : Claim) → v ≡ keeper_claim k → Glues by v other w (taken_in v w) no_claim
takes_in_as by v k other w is = subst (λ (u : Claim). Glues by u other w (taken_in u w) no_claim) (sym is) (takes_in by k other w)

pub gives_back_as : (by : ℕ) (v : Claim) (k : History) (seat_history : Option SeatClaim) (checkout : Option Checkout) (beginning : Option (List Entry))
    → v ≡ full k seat_history checkout beginning → Cuts by v (alone v) (given_back v)
gives_back_as by v k seat_history checkout beginning is = subst (λ (u : Claim). Cuts by u (alone u) (given_back u)) (sym is) (gives_back by k seat_history checkout beginning)

pub enters_as : (by : ℕ) (v : Claim) (k : History) (seat_history : Option SeatClaim) (e : Entry) → v ≡ full k seat_history None None → option_map (λ s. s.number) seat_history ≡ e.seat → Cuts by v (alone_with e v) (given_back_with e v)
enters_as by v k seat_history e is own = subst (λ (u : Claim). Cuts by u (alone_with e u) (given_back_with e u)) (sym is) (enters by k seat_history e own)

pub notes_as : (by : ℕ) (v : Claim) (k : History) (s : SeatClaim) (r : RefusedCommand) → v ≡ full k (Some s) None None → WasRefused k.journal k.moves k.drains s.number r → Cuts by v (alone v) (given_back_refused r v)
notes_as by v k s r is refused = subst (λ (u : Claim). Cuts by u (alone u) (given_back_refused r u)) (sym is) (notes by k s r refused)

pub gives_drain_receipt_as : (by : ℕ) (v : Claim) (k : History) → v ≡ keeper_claim k → Cuts by v (alone v) (new_drain_claim v)
gives_drain_receipt_as by v k is = subst (λ (u : Claim). Cuts by u (alone u) (new_drain_claim u)) (sym is) (gives_drain_receipt by k)

pub notes_drain_as : (by : ℕ) (v : Claim) (k : History) (beginning : Option (List Entry)) → v ≡ full k None None beginning → Cuts by v (alone_drained v) (drained_claim v)
notes_drain_as by v k beginning is = subst (λ (u : Claim). Cuts by u (alone_drained u) (drained_claim u)) (sym is) (notes_drain by k beginning)

-- a load leaves the claim as it is, and compares it
pub compares_as : (claims : List Claim) (by : ℕ) (v : Claim) (k : History) (seat_history : Option SeatClaim) (checkout : Option Checkout) (beginning : Option (List Entry))
    → v ≡ full k seat_history checkout beginning → ClaimsAgree claims → get_elem? claims by ≡ some v → ClaimsAgree (set claims by v) × Compares v
compares_as claims by v k seat_history checkout beginning is h at = (
  subst ClaimsAgree (sym (set_again claims by v at)) h,
  subst Compares (sym is) (compares claims by k seat_history checkout beginning h (subst (λ (u : Claim). get_elem? claims by ≡ some u) is at)),
)

-- ---- a claim that was taken in

abbrev pub first : List Claim → Claim
first [] = no_claim
first (c ∷ rest) = c

pub with_seat_history : (v w x : Claim) (k : History) (s : SeatClaim) → x ≡ taken_in v w → v ≡ keeper_claim k → w ≡ seat_claim s → x ≡ full k (Some s) None None
with_seat_history v w x k s e knows has = e ∙ (λ i. taken_in (knows i) (has i))

pub with_checkout : (v w x : Claim) (k : History) (t : Checkout) → x ≡ taken_in v w → v ≡ keeper_claim k → w ≡ ticket_claim t → x ≡ full k None (Some t) None
with_checkout v w x k t e knows has = e ∙ (λ i. taken_in (knows i) (has i))

pub with_beginning : (v w x : Claim) (k : History) (first : List Entry) → x ≡ taken_in v w → v ≡ keeper_claim k → w ≡ drain_claim first → x ≡ full k None None (Some first)
with_beginning v w x k first e knows has = e ∙ (λ i. taken_in (knows i) (has i))
