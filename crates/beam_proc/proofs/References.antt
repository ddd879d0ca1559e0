-- References of this node are told apart by their numbers.
use Rattle.std.proofs.Common.{◌≡◌, ℕ, Bool, true, false, not, ◌==◌, ◌&&◌, if◌then◌else◌, List, [], ◌∷◌, filter, Option, Some, None, codes, refl, ap, ◌∙◌, sym, arith, true≢false}
use Rattle.std.proofs.lemmas.Bool.Decides.{nat_tests}
use Rattle.std.proofs.lemmas.Option.{none-some, same_Some}
use Rattle.std.proofs.lemmas.Slice.Eq.{bytes_eq-Decides}
use Rattle.beam_lemmas.proofs.Tests.{itself}
use Rattle.beam_machine.specs.declared.process.Monitor.{Monitor}
use Rattle.beam_machine.specs.Prelude.{Process, own_reference, demonitored}
use Rattle.beam_model.specs.Prelude.{is_equal, same_text}
use Rattle.beam_term.specs.Prelude.{TermValue, int_term, atom_term, reference_term, pid_term, tuple_term, nil_term, pair_term, term_eq_decides}
use Rattle.beam_proc.specs.Prelude.{number_of_words, reference_number, left_without}

-- ---- the reference of a number

words_are : (ws : List ℕ) (k : ℕ) → number_of_words ws ≡ Some k → ws ≡ k ∷ 0 ∷ 0 ∷ []
words_are [] k e = absurd (none-some k e)
words_are (n ∷ []) k e = absurd (none-some k e)
words_are (n ∷ a ∷ []) k e = absurd (none-some k e)
words_are (n ∷ a ∷ b ∷ []) k e = go (a == 0) (b == 0) refl refl e
  where
    go : (x y : Bool) → (a == 0) ≡ x → (b == 0) ≡ y → (if x && y then Some n else None) ≡ Some k → n ∷ a ∷ b ∷ [] ≡ k ∷ 0 ∷ 0 ∷ []
    go false y i j e = absurd (none-some k e)
    go true false i j e = absurd (none-some k e)
    go true true i j e =
        let no_second : a ≡ 0 = grind (arith, nat_tests) in
        let no_third : b ≡ 0 = grind (arith, nat_tests) in
        λ z. same_Some n k e z ∷ no_second z ∷ no_third z ∷ []
words_are (n ∷ a ∷ b ∷ c ∷ ws) k e = absurd (none-some k e)

is_own : (t : TermValue) (k : ℕ) → reference_number t ≡ Some k → t ≡ own_reference k
is_own (reference_term host creation words) k e = go (same_text host (codes "nonode@nohost")) (creation == 0) refl refl e
  where
    go : (x y : Bool) → same_text host (codes "nonode@nohost") ≡ x → (creation == 0) ≡ y → (if x && y then number_of_words words else None) ≡ Some k
        → reference_term host creation words ≡ own_reference k
    go false y i j e = absurd (none-some k e)
    go true false i j e = absurd (none-some k e)
    go true true i j e =
        let first : creation ≡ 0 = grind (arith, nat_tests) in
        λ z. reference_term ((bytes_eq-Decides host (codes "nonode@nohost")).0 i z) (first z) (words_are words k e z)
is_own (int_term n) k e = absurd (none-some k e)
is_own (atom_term text) k e = absurd (none-some k e)
is_own (pid_term a b c d) k e = absurd (none-some k e)
is_own (tuple_term ts) k e = absurd (none-some k e)
is_own nil_term k e = absurd (none-some k e)
is_own (pair_term a b) k e = absurd (none-some k e)

-- ---- a term is the reference of a number exactly if that is its number

abbrev is_number : ℕ → Option ℕ → Bool
is_number n (Some k) = n == k
is_number n None = false

apart : (n k : ℕ) (t : TermValue) → t ≡ own_reference k → is_equal (own_reference n) t ≡ false → false ≡ (n == k)
apart n k t own denied = go (n == k) refl
  where
    go : (b : Bool) → (n == k) ≡ b → false ≡ b
    go false i = refl
    go true i =
        let same : n ≡ k = grind (arith, nat_tests) in
        absurd (true≢false (sym ((term_eq_decides (own_reference n) t).1 (ap own_reference same ∙ sym own)) ∙ denied))

other : (n : ℕ) (t : TermValue) (o : Option ℕ) → reference_number t ≡ o → is_equal (own_reference n) t ≡ false → false ≡ is_number n o
other n t None e denied = refl
other n t (Some k) e denied = apart n k t (is_own t k e) denied

equal_is_number : (n : ℕ) (t : TermValue) → is_equal (own_reference n) t ≡ is_number n (reference_number t)
equal_is_number n t = go (is_equal (own_reference n) t) refl
  where
    go : (b : Bool) → is_equal (own_reference n) t ≡ b → b ≡ is_number n (reference_number t)
    go false denied = other n t (reference_number t) refl denied
    go true held = sym (itself n) ∙ ap (λ s. is_number n (reference_number s)) ((term_eq_decides (own_reference n) t).0 held)

-- ---- monitors

all_stay : (ms : List Monitor) → filter (λ m. true) ms ≡ ms
all_stay [] = refl
all_stay (m ∷ ms) = ap (λ l. m ∷ l) (all_stay ms)

left : (o : Option ℕ) (ms : List Monitor) → filter (λ m. not (is_number m.reference o)) ms ≡ left_without o ms
left None ms = all_stay ms
left (Some n) ms = refl

pub demonitored_is : (p : Process) (t : TermValue) → demonitored p t ≡ record p { monitors = left_without (reference_number t) p.monitors }
demonitored_is p t =
    ap (λ ms. record p { monitors = ms })
    ((λ z. filter (λ m. not (equal_is_number m.reference t z)) p.monitors) ∙ left (reference_number t) p.monitors)
