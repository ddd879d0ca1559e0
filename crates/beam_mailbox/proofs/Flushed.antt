-- The first message of a reference.
use Rattle.std.proofs.Common.{◌≡◌, ◌≢◌, ℕ, zero, suc, ◌+◌, ◌==◌, ◌&&◌, ◌≤◌, ◌<◌, Bool, true, false, cond, List, [], ◌∷◌, ◌++◌, length, take, drop, nat_lt, get_or, refl, sym, ap, ◌∙◌, arith, slice_get, remove, Option, Some, None}
use Rattle.std.proofs.lemmas.Bool.Decides.{nat_tests}
use Rattle.std.proofs.lemmas.Option.{slice_get_within, slice_get-get_or}
use Rattle.beam_machine.specs.Prelude.{is_this_term, is_of_reference}
use Rattle.beam_model.specs.Prelude.{Mailbox, message_at, with_next, with_removed, without_first}
use Rattle.beam_term.specs.Prelude.{TermValue, int_term, atom_term, reference_term, pid_term, nil_term, pair_term, tuple_term, tuple_of, rank_of, elements_of-terms_of, count_of-terms_of}
use Rattle.beam_mailbox.specs.Messages.{is_one_of_reference}

pub of_tuple : (reference : TermValue) (xs : List TermValue) → is_of_reference reference (tuple_of xs) ≡ (length xs == 5 && is_this_term reference (slice_get xs 1))
of_tuple reference xs = rw (count_of-terms_of, elements_of-terms_of) refl

pub of_five : (reference : TermValue) (xs : List TermValue) → length xs ≡ 5 → is_of_reference reference (tuple_of xs) ≡ is_this_term reference (slice_get xs 1)
of_five reference xs five = of_tuple reference xs ∙ ap (λ n. n == 5 && is_this_term reference (slice_get xs 1)) five

pub of_none : (reference t : TermValue) → rank_of t ≢ 4 → is_of_reference reference t ≡ false
of_none reference (tuple_term items) h = absurd (h refl)
of_none reference (int_term n) h = refl
of_none reference (atom_term text) h = refl
of_none reference (reference_term node creation words) h = refl
of_none reference (pid_term node id serial creation) h = refl
of_none reference nil_term h = refl
of_none reference (pair_term head tail) h = refl

-- the messages without the first one that passes a test, where none before a place passes it
abbrev pub from : (TermValue → Bool) → ℕ → List TermValue → List TermValue
from test at ts = take at ts ++ without_first test (drop at ts)

pub at_start : (test : TermValue → Bool) (ts : List TermValue) → from test 0 ts ≡ without_first test ts
at_start test [] = refl
at_start test (t ∷ ts) = refl

pub passes_on : (test : TermValue → Bool) (at : ℕ) (ts : List TermValue) (t : TermValue) → slice_get ts at ≡ Some t → test t ≡ false → from test (suc at) ts ≡ from test at ts
passes_on test at [] t e f = cc
passes_on test zero (x ∷ ts) t e f =
    let same : x ≡ t = cc in
    ap (λ rest. x ∷ rest) (at_start test ts) ∙ sym (ap (λ b. cond b ts (x ∷ without_first test ts)) (ap test same ∙ f))
passes_on test (suc at) (x ∷ ts) t e f = ap (λ rest. x ∷ rest) (passes_on test at ts t e f)

pub taken : (test : TermValue → Bool) (at : ℕ) (ts : List TermValue) (t : TermValue) → slice_get ts at ≡ Some t → test t ≡ true → remove ts at ≡ from test at ts
taken test at [] t e f = cc
taken test zero (x ∷ ts) t e f =
    let same : x ≡ t = cc in
    sym (ap (λ b. cond b ts (x ∷ without_first test ts)) (ap test same ∙ f))
taken test (suc at) (x ∷ ts) t e f = ap (λ rest. x ∷ rest) (taken test at ts t e f)

pub at_end : (test : TermValue → Bool) (at : ℕ) (ts : List TermValue) → length ts ≤ at → from test at ts ≡ ts
at_end test at [] h = none at
  where
    none : (at : ℕ) → from test at [] ≡ []
    none zero = refl
    none (suc at) = refl
at_end test zero (x ∷ ts) h = absurd (omega (arith, h))
at_end test (suc at) (x ∷ ts) h =
    let rest : length ts ≤ at = omega (arith, h) in
    ap (λ rest. x ∷ rest) (at_end test at ts rest)

-- ---- by the save pointer

taken_or : (test : TermValue → Bool) (m : Mailbox) (b : Bool) → nat_lt m.position (length m.messages) ≡ b → (t : TermValue) → slice_get m.messages m.position ≡ Some t → test t ≡ true
    → (cond {A = Mailbox} b (record m { messages = remove m.messages m.position; position = 0 }) m).messages ≡ from test m.position m.messages
taken_or test m true e t at is = taken test m.position m.messages t at is
taken_or test m false e t at is =
    let within : m.position < length m.messages = slice_get_within m.messages m.position t at in
    absurd (grind (arith, nat_tests))

pub taken_one : (reference : TermValue) (m : Mailbox) → is_one_of_reference reference (message_at m) ≡ true → (with_removed m).messages ≡ from (is_of_reference reference) m.position m.messages
taken_one reference m = go (slice_get m.messages m.position) refl
  where
    go : (o : Option TermValue) → slice_get m.messages m.position ≡ o → is_one_of_reference reference o ≡ true → (with_removed m).messages ≡ from (is_of_reference reference) m.position m.messages
    go None at is = cc
    go (Some t) at is = taken_or (is_of_reference reference) m (nat_lt m.position (length m.messages)) refl t at is

pub passed_one : (reference : TermValue) (m : Mailbox) → m.position < length m.messages → is_one_of_reference reference (message_at m) ≡ false
    → from (is_of_reference reference) (with_next m).position (with_next m).messages ≡ from (is_of_reference reference) m.position m.messages
passed_one reference m within is =
    let more : nat_lt m.position (length m.messages) ≡ true = grind (arith, nat_tests) in
    let one : m.position + 1 ≡ suc m.position = omega arith in
    let t : TermValue = get_or m.messages m.position nil_term in
    let at : slice_get m.messages m.position ≡ Some t = slice_get-get_or m.messages m.position nil_term within in
    let other : is_of_reference reference t ≡ false = ap (is_one_of_reference reference) (sym at) ∙ is in
    ap (λ b. let n : Mailbox = cond b (record m { position = m.position + 1 }) m in from (is_of_reference reference) n.position n.messages) more
    ∙ (ap (λ n. from (is_of_reference reference) n m.messages) one ∙ passes_on (is_of_reference reference) m.position m.messages t at other)
