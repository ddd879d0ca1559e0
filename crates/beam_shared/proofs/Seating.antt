-- Seats whose numbers are noted one after another.
use Rattle.std.proofs.Common.{◌≡◌, ℕ, zero, suc, ◌+◌, ◌≤◌, ◌<◌, nat_lt, Bool, true, false, List, length, Some, refl, sym, ap, subst, ◌∙◌, arith, get_or-set_other, ◌⊎◌, inl, inr, true≢false, slice_get, replicate, slice_index_or as get_or, slice_set as set, length-set}
use Rattle.std.proofs.lemmas.Grind.{get_or-set_at}
use Rattle.std.proofs.lemmas.Option.{slice_get_within, slice_get_read, same_Some}
use Rattle.std.proofs.lemmas.Bool.Decides.{nat_tests}
use Rattle.std.proofs.lemmas.List.{length-replicate, set-get_or}
use Rattle.beam_machine.specs.Prelude.{Entry}
use Rattle.beam_receipts.specs.Receipts.{SeatHistory, of_seat}
use Rattle.beam_shared.specs.Prelude.{Agree, AreBelow, AreDistinct}

-- the numbers of the first seats are noted; each is there once, was given, and its seat keeps exactly the journal's entries of that number
pub record AreNoted (given : ℕ) (journal : List Entry) (seats : List SeatHistory) (seen : List Bool) (at : ℕ) : Type 0 where
  pub size : length seen ≡ 4096
  pub noted : (i : ℕ) (s : SeatHistory) → i < at → slice_get seats i ≡ Some s → get_or seen s.number false ≡ true
  pub known : (n : ℕ) → get_or seen n false ≡ true → (i : ℕ) × (s : SeatHistory) × (i < at) × (slice_get seats i ≡ Some s) × (s.number ≡ n)
  pub distinct : (i j : ℕ) (s t : SeatHistory) → i < at → j < at → slice_get seats i ≡ Some s → slice_get seats j ≡ Some t → s.number ≡ t.number → i ≡ j
  pub agree : (i : ℕ) (s : SeatHistory) → i < at → slice_get seats i ≡ Some s → s.kept ≡ of_seat s.number journal
  pub below : (i : ℕ) (s : SeatHistory) → i < at → slice_get seats i ≡ Some s → s.number < given

last_or : (i at : ℕ) → i < at + 1 → (i < at) ⊎ (i ≡ at)
last_or i at l = by (nat_lt i at) refl
  where
    by : (b : Bool) → nat_lt i at ≡ b → (i < at) ⊎ (i ≡ at)
    by true e = inl (grind (arith, nat_tests, e))
    by false e = inr (grind (arith, nat_tests, e, l))

-- ---- numbers and their notes

data Compared (m n : ℕ) : Type 0 where
  same : m ≡ n → Compared m n
  other : (m ≡ n → ⊥) → Compared m n

compared : (m n : ℕ) → Compared m n
compared m n = by (nat_lt m n) (nat_lt n m) refl refl
  where
    by : (b c : Bool) → nat_lt m n ≡ b → nat_lt n m ≡ c → Compared m n
    by true c e f = other (grind (arith, nat_tests, e))
    by false true e f = other (grind (arith, nat_tests, f))
    by false false e f = same (grind (arith, nat_tests, e, f))

-- ---- one more seat

module _ (given : ℕ) (journal : List Entry) (seats : List SeatHistory) (seen : List Bool) (at : ℕ) (s : SeatHistory) (h : AreNoted given journal seats seen at) (here : slice_get seats at ≡ Some s)
    (few : s.number < 4096) (free : get_or seen s.number false ≡ false) where
  is_one : (t : SeatHistory) (i : ℕ) → i ≡ at → slice_get seats i ≡ Some t → t ≡ s
  is_one t i e found = same_Some t s (sym found ∙ (ap (slice_get seats) e ∙ here))

  own_noted : (n : ℕ) → n ≡ s.number → get_or (set seen s.number true) n false ≡ true
  own_noted n one =
      let within : s.number < length seen = omega (arith, h.size, few) in
      get_or-set_at seen s.number n true false one within

  still_noted : (n : ℕ) → Compared n s.number → get_or seen n false ≡ true → get_or (set seen s.number true) n false ≡ true
  still_noted n (same one) was = own_noted n one
  still_noted n (other apart) was = get_or-set_other seen s.number n true false apart ∙ was

  noted_by : (i : ℕ) (t : SeatHistory) → (i < at) ⊎ (i ≡ at) → slice_get seats i ≡ Some t → get_or (set seen s.number true) t.number false ≡ true
  noted_by i t (inl l) found = still_noted t.number (compared t.number s.number) (h.noted i t l found)
  noted_by i t (inr e) found = own_noted t.number (ap (λ (x : SeatHistory). x.number) (is_one t i e found))

  known_by : (n : ℕ) → Compared n s.number → get_or (set seen s.number true) n false ≡ true
      → (i : ℕ) × (t : SeatHistory) × (i < at + 1) × (slice_get seats i ≡ Some t) × (t.number ≡ n)
  known_by n (same one) e = (at, s, omega arith, here, sym one)
  known_by n (other apart) e =
      let old = h.known n (sym (get_or-set_other seen s.number n true false apart) ∙ e) in
      (old.0, old.1, omega (arith, old.2), old.3, old.4)

  not_before : (i : ℕ) (t : SeatHistory) → i < at → slice_get seats i ≡ Some t → t.number ≡ s.number → ⊥
  not_before i t l found one = true≢false (sym (h.noted i t l found) ∙ (ap (λ n. get_or seen n false) one ∙ free))

  distinct_by : (i j : ℕ) (t u : SeatHistory) → (i < at) ⊎ (i ≡ at) → (j < at) ⊎ (j ≡ at) → slice_get seats i ≡ Some t → slice_get seats j ≡ Some u → t.number ≡ u.number → i ≡ j
  distinct_by i j t u (inl l) (inl m) x y e = h.distinct i j t u l m x y e
  distinct_by i j t u (inl l) (inr m) x y e = absurd (not_before i t l x (e ∙ ap (λ (x : SeatHistory). x.number) (is_one u j m y)))
  distinct_by i j t u (inr l) (inl m) x y e = absurd (not_before j u m y (sym e ∙ ap (λ (x : SeatHistory). x.number) (is_one t i l x)))
  distinct_by i j t u (inr l) (inr m) x y e = l ∙ sym m

  agree_by : (i : ℕ) (t : SeatHistory) → s.kept ≡ of_seat s.number journal → (i < at) ⊎ (i ≡ at) → slice_get seats i ≡ Some t → t.kept ≡ of_seat t.number journal
  agree_by i t kept (inl l) found = h.agree i t l found
  agree_by i t kept (inr e) found = subst (λ (x : SeatHistory). x.kept ≡ of_seat x.number journal) (sym (is_one t i e found)) kept

  below_by : (i : ℕ) (t : SeatHistory) → s.number < given → (i < at) ⊎ (i ≡ at) → slice_get seats i ≡ Some t → t.number < given
  below_by i t less (inl l) found = h.below i t l found
  below_by i t less (inr e) found = subst (λ (x : SeatHistory). x.number < given) (sym (is_one t i e found)) less

  pub one_more : s.kept ≡ of_seat s.number journal → s.number < given → AreNoted given journal seats (set seen s.number true) (at + 1)
  one_more kept less = record {
    size = length-set seen s.number true ∙ h.size;
    noted = λ i t l found. noted_by i t (last_or i at l) found;
    known = λ n e. known_by n (compared n s.number) e;
    distinct = λ i j t u l m x y e. distinct_by i j t u (last_or i at l) (last_or j at m) x y e;
    agree = λ i t l found. agree_by i t kept (last_or i at l) found;
    below = λ i t l found. below_by i t less (last_or i at l) found;
  }

-- what holds of the seats up to one, and of that one
pub each_more : (P : SeatHistory → Type 0) (seats : List SeatHistory) (at : ℕ) (s : SeatHistory) → slice_get seats at ≡ Some s → P s
    → ((i : ℕ) (t : SeatHistory) → i < at → slice_get seats i ≡ Some t → P t)
    → (i : ℕ) (t : SeatHistory) → i < at + 1 → slice_get seats i ≡ Some t → P t
each_more P seats at s here holds before i t less found = by (last_or i at less)
  where
    by : (i < at) ⊎ (i ≡ at) → P t
    by (inl l) = before i t l found
    by (inr e) = subst P (sym (same_Some t s (sym found ∙ (ap (slice_get seats) e ∙ here)))) holds

-- ---- before the first seat, at a number that was noted, and after the last seat

none_is : (n m : ℕ) → get_or (replicate n false) m false ≡ false
none_is zero m = refl
none_is (suc n) zero = refl
none_is (suc n) (suc m) = none_is n m

pub none_noted : (given : ℕ) (journal : List Entry) (seats : List SeatHistory) → AreNoted given journal seats (replicate 4096 false) 0
none_noted given journal seats = record {
  size = length-replicate 4096 false;
  noted = λ i s l found. absurd (omega (arith, l));
  known = λ n e. absurd (true≢false (sym e ∙ none_is 4096 n));
  distinct = λ i j s t l m x y e. absurd (omega (arith, l));
  agree = λ i s l found. absurd (omega (arith, l));
  below = λ i s l found. absurd (omega (arith, l));
}

pub noted_twice : (given : ℕ) (journal : List Entry) (seats : List SeatHistory) (seen : List Bool) (at : ℕ) (s : SeatHistory) → AreNoted given journal seats seen at → slice_get seats at ≡ Some s
    → get_or seen s.number false ≡ true → AreDistinct seats → ⊥
noted_twice given journal seats seen at s h here e distinct =
    let old = h.known s.number e in
    let same : old.0 ≡ at = distinct old.0 at old.1 s old.3 here old.4 in
    omega (arith, old.2, same)

pub all_distinct : (given : ℕ) (journal : List Entry) (seats : List SeatHistory) (seen : List Bool) (at : ℕ) → AreNoted given journal seats seen at → length seats ≤ at → AreDistinct seats
all_distinct given journal seats seen at h all i j s t x y e =
    let l = slice_get_within seats i s x in
    let m = slice_get_within seats j t y in
    h.distinct i j s t (omega (arith, l, all)) (omega (arith, m, all)) x y e

pub all_agree : (given : ℕ) (journal : List Entry) (seats : List SeatHistory) (seen : List Bool) (at : ℕ) → AreNoted given journal seats seen at → length seats ≤ at → Agree journal seats
all_agree given journal seats seen at h all i s x =
    let l = slice_get_within seats i s x in
    h.agree i s (omega (arith, l, all)) x

pub all_below : (given : ℕ) (journal : List Entry) (seats : List SeatHistory) (seen : List Bool) (at : ℕ) → AreNoted given journal seats seen at → length seats ≤ at → AreBelow given seats
all_below given journal seats seen at h all i s x =
    let l = slice_get_within seats i s x in
    h.below i s (omega (arith, l, all)) x

-- ---- a seat that is read from the list, compared, written back and read again

module _ (seats : List SeatHistory) (at : ℕ) (old new read : SeatHistory) (within : at < length seats) (value : old ≡ get_or seats at old) (same : new ≡ old)
    (again : read ≡ get_or (set seats at new) at read) where
  pub written_back : set seats at new ≡ seats
  written_back = ap (set seats at) (same ∙ value) ∙ set-get_or seats at old

  pub read_is : read ≡ old
  read_is = again ∙ (get_or-set_at seats at at new read refl within ∙ same)

  pub seat_at : slice_get seats at ≡ Some old
  seat_at = slice_get_read seats (length seats) at old refl within value
