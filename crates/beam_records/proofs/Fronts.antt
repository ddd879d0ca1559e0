-- What stands at the front of bytes is one opening, and one body of its kind.
use Rattle.std.proofs.Common.{◌≡◌, ℕ, ◌+◌, ◌^◌, ◌<◌, ◌≤◌, Bool, true, false, ◌==◌, ◌||◌, if◌then◌else◌, List, ◌∷◌, ◌++◌, length, take, drop, Option, Some, None, MatchOption, IfSome, Result, Ok, Err, IfOk, refl, sym, ap, subst, ◌∙◌, arith, length-append, append_assoc, take_at, drop_at}
use Rattle.byteorder.specs.Endian.{big_number, big_bytes}
use Rattle.byteorder.specs.Numbers.{big_number-reads_back, length-bytes_high_first}
use Rattle.beam_records.specs.JournalFile.{IsSeat, opening, sized_by, width_of}
use Rattle.beam_records.specs.Pieces.{OpensWith, Sized, HasBody}

-- ---- bytes that are cut in two ways

pub same_front : (a b r s : List ℕ) → length a ≡ length b → a ++ r ≡ b ++ s → (a ≡ b) × (r ≡ s)
same_front a b r s long e = (
  sym (take_at a r (length b) long) ∙ ap (take (length b)) e ∙ take_at b s (length b) refl,
  sym (drop_at a r (length b) long) ∙ ap (drop (length b)) e ∙ drop_at b s (length b) refl,
)

pub same_number : (count n m : ℕ) (r s : List ℕ) → n < 256 ^ count → m < 256 ^ count → big_bytes count n ++ r ≡ big_bytes count m ++ s → (n ≡ m) × (r ≡ s)
same_number count n m r s nlt mlt e =
    let long : length (big_bytes count n) ≡ length (big_bytes count m) = length-bytes_high_first count n ∙ sym (length-bytes_high_first count m) in
    let value : n ≡ m = sym (big_number-reads_back count n r nlt) ∙ ap (big_number count) e ∙ big_number-reads_back count m s mlt in
    (value, (same_front (big_bytes count n) (big_bytes count m) r s long e).1)

-- ---- openings

heads : (a b : ℕ) (r s : List ℕ) → a ∷ r ≡ b ∷ s → (a ≡ b) × (r ≡ s)
heads a b r s e = (cc, cc)

abbrev SameOpening : Option ℕ → ℕ → List ℕ → Option ℕ → ℕ → List ℕ → Type 0
SameOpening s k r t l q = (s ≡ t) × (k ≡ l) × (r ≡ q)

same_opened : (s t : Option ℕ) (k l : ℕ) (r q : List ℕ) → IsSeat s → IsSeat t → k < 128 → l < 128 → opening s k ++ r ≡ opening t l ++ q → SameOpening s k r t l q
same_opened None None k l r q _ _ kl ll e = let h = heads k l r q e in (refl, h.0, h.1)
same_opened None (Some n) k l r q _ _ kl ll e =
    let h = heads k (l + 128) r (big_bytes 2 n ++ q) e in
    absurd (omega (arith, h.0, kl))
same_opened (Some n) None k l r q _ _ kl ll e =
    let h = heads (k + 128) l (big_bytes 2 n ++ r) q e in
    absurd (omega (arith, h.0, ll))
same_opened (Some n) (Some m) k l r q nlt mlt kl ll e =
    let h = heads (k + 128) (l + 128) (big_bytes 2 n ++ r) (big_bytes 2 m ++ q) e in
    let v = same_number 2 n m r q (omega (arith, nlt)) (omega (arith, mlt)) h.1 in
    (ap Some v.0, omega (arith, h.0), v.1)

pub same_opening : (bytes : List ℕ) (s t : Option ℕ) (k l : ℕ) (r q : List ℕ) → OpensWith bytes s k r → OpensWith bytes t l q → SameOpening s k r t l q
same_opening bytes s t k l r q a b = same_opened s t k l r q a.is_seat b.is_seat a.is_kind b.is_kind (sym a.stands ∙ b.stands)

-- ---- bodies

same_sized : (width : Option ℕ) (a b r s : List ℕ) → IfSome width (λ n. length a ≡ n) → IfSome width (λ n. length b ≡ n) → length a < 2 ^ 32 → length b < 2 ^ 32
    → sized_by width a ++ r ≡ sized_by width b ++ s → (a ≡ b) × (r ≡ s)
same_sized (Some n) a b r s wa wb sa sb e = same_front a b r s (wa ∙ sym wb) e
same_sized None a b r s wa wb sa sb e =
    let f : big_bytes 4 (length a) ++ (a ++ r) ≡ big_bytes 4 (length b) ++ (b ++ s) =
    sym (append_assoc (big_bytes 4 (length a)) a r) ∙ e ∙ append_assoc (big_bytes 4 (length b)) b s in
    let v = same_number 4 (length a) (length b) (a ++ r) (b ++ s) (omega (arith, sa)) (omega (arith, sb)) f in
    same_front a b r s v.0 v.1

pub same_body : (bytes : List ℕ) (k : ℕ) (a b r s : List ℕ) → HasBody bytes k a r → HasBody bytes k b s → (a ≡ b) × (r ≡ s)
same_body bytes k a b r s x y =
    same_sized (width_of k) a b r s x.has_width.width y.has_width.width x.has_width.short y.has_width.short (sym x.stands ∙ y.stands)

-- ---- a body that is looked for

width_small_by : (a b c : Bool) (n : ℕ) → (if a then Some 8 else (if b then Some 4 else (if c then Some 2 else None))) ≡ Some n → n ≤ 8
width_small_by true b c n e = let h : 8 ≡ n = cc in omega (arith, h)
width_small_by false true c n e = let h : 4 ≡ n = cc in omega (arith, h)
width_small_by false false true n e = let h : 2 ≡ n = cc in omega (arith, h)
width_small_by false false false n e = absurd cc

width_small : (k n : ℕ) → width_of k ≡ Some n → n ≤ 8
unfolding width_of
width_small k n e =
    width_small_by (k == 8 || k == 10) (k == 9 || k == 11 || k == 14 || k == 15 || k == 16 || k == 32) (k == 33) n e

pub at_width : (bytes : List ℕ) (k n : ℕ) (a r : List ℕ) → width_of k ≡ Some n → bytes ≡ a ++ r → length a ≡ n → HasBody bytes k a r
at_width bytes k n a r w e long =
    let small = width_small k n w in
    record {
      stands = subst (λ (o : Option ℕ). bytes ≡ sized_by o a ++ r) (sym w) e;
      has_width = record { width = subst (λ (o : Option ℕ). IfSome o (λ m. length a ≡ m)) (sym w) long; short = omega (arith, small, long) };
    }

pub below_width : (bytes : List ℕ) (k n : ℕ) → width_of k ≡ Some n → length bytes < n → (a r : List ℕ) → HasBody bytes k a r → ⊥
below_width bytes k n w few a r h =
    let stands : bytes ≡ a ++ r = subst (λ (o : Option ℕ). bytes ≡ sized_by o a ++ r) w h.stands in
    let long : length a ≡ n = subst (λ (o : Option ℕ). IfSome o (λ m. length a ≡ m)) w h.has_width.width in
    omega (arith, few, long, ap length stands, length-append a r)

pub at_size : (bytes : List ℕ) (k : ℕ) (a r : List ℕ) → width_of k ≡ None → Sized bytes a r → HasBody bytes k a r
at_size bytes k a r w h = record {
  stands = subst (λ (o : Option ℕ). bytes ≡ sized_by o a ++ r) (sym w) (h.0 ∙ sym (append_assoc (big_bytes 4 (length a)) a r));
  has_width = record { width = subst (λ (o : Option ℕ). IfSome o (λ m. length a ≡ m)) (sym w) tt; short = h.1 };
}

pub size_of : (bytes : List ℕ) (k : ℕ) (a r : List ℕ) → width_of k ≡ None → HasBody bytes k a r → Sized bytes a r
size_of bytes k a r w h =
    let stands : bytes ≡ (big_bytes 4 (length a) ++ a) ++ r = subst (λ (o : Option ℕ). bytes ≡ sized_by o a ++ r) w h.stands in
    (stands ∙ append_assoc (big_bytes 4 (length a)) a r, h.has_width.short)

-- bytes that are too few for a size, or for as many as it says
pub no_size : (bytes a r : List ℕ) → length bytes < 4 → Sized bytes a r → ⊥
no_size bytes a r few h =
    omega (arith, few, ap length h.0, length-append (big_bytes 4 (length a)) (a ++ r), length-bytes_high_first 4 (length a))

pub below_size : (bytes : List ℕ) (n : ℕ) (after a r : List ℕ) → n < 2 ^ 32 → bytes ≡ big_bytes 4 n ++ after → length after < n → Sized bytes a r → ⊥
below_size bytes n after a r nlt e few h =
    let v = same_number 4 n (length a) after (a ++ r) (omega (arith, nlt)) (omega (arith, h.1)) (sym e ∙ h.0) in
    omega (arith, few, v.0, ap length v.1, length-append a r)

pub sized_at : (bytes : List ℕ) (n : ℕ) (after a r : List ℕ) → n < 2 ^ 32 → bytes ≡ big_bytes 4 n ++ after → after ≡ a ++ r → length a ≡ n → Sized bytes a r
sized_at bytes n after a r nlt e f long = (e ∙ (λ i. big_bytes 4 (sym long i) ++ f i), omega (arith, nlt, long))

-- ---- from one clause of an option to another

pub found_or_none : {A : Type 0} (o : Option A) {P P' : Type 0} {Q Q' : A → Type 0} → (P → P') → ((x : A) → Q x → Q' x) → MatchOption o P Q → MatchOption o P' Q'
found_or_none None f g h = f h
found_or_none (Some x) f g h = g x h

pub at_some : {A : Type 0} (o : Option A) (x : A) (P : Type 0) (Q : A → Type 0) → o ≡ Some x → MatchOption o P Q → Q x
at_some None x P Q e h = absurd cc
at_some (Some y) x P Q e h = let same : y ≡ x = cc in subst Q same h

pub at_none : {A : Type 0} (o : Option A) (P : Type 0) (Q : A → Type 0) → o ≡ None → MatchOption o P Q → P
at_none None P Q e h = h
at_none (Some y) P Q e h = absurd cc

pub ok_then : {A E : Type 0} (r : Result A E) {P Q : A → Type 0} → ((x : A) → P x → Q x) → IfOk r P → IfOk r Q
ok_then (Ok x) f h = f x h
ok_then (Err e) f h = tt
