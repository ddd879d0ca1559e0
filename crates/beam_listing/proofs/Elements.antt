-- Texts between brackets, with commas between them, are taken apart again.
use Rattle.std.proofs.Common.{◌≡◌, ℕ, zero, suc, ◌+◌, ◌<◌, false, inl, List, [], ◌∷◌, ◌++◌, length, Some, refl, sym, ap, ◌∙◌, append_assoc, arith, Option, ◌==◌, length-append}
use Rattle.std.proofs.Math.Seq.{take-append_seam, drop-append_seam}
use Rattle.beam_model.specs.declared.lex_state.LexState.TheVariants as inside
use Rattle.beam_model.specs.Prelude.{after_blanks, stop_from, stop_in, elements_after, element_by, elements_from, elements_within, bracketed_elements}
use Rattle.beam_erltext.proofs.Texts.{differ}
use Rattle.beam_erltext.proofs.TermRoundTrip.{Begins, no_blanks}
use Rattle.beam_listing.proofs.Traces.{Brackets, square, brace, left, right, Safe, stop_behind}

-- a text that can stand between commas
pub record IsPart (text : List ℕ) : Type 0 where
  pub safe : Safe text
  pub begins : Begins text

abbrev pub AreParts : List (List ℕ) → Type 0
AreParts [] = Unit {0}
AreParts (p ∷ ps) = IsPart p × AreParts ps

-- parts up to their closing bracket: a text before the first, and commas between them
abbrev pub closed : Brackets → List ℕ → List (List ℕ) → List ℕ
closed b before [] = right b ∷ []
closed b before (p ∷ ps) = before ++ p ++ closed b (44 ∷ []) ps

abbrev pub others : Brackets → List (List ℕ) → List ℕ
others b ps = closed b (44 ∷ []) ps

-- the search for a comma stops after a part
at_others : (b : Brackets) (ps : List (List ℕ)) (n : ℕ) → stop_from 44 inside.Nothing [] n (others b ps) ≡ Some n
unfolding stop_from
at_others square [] n = refl
at_others brace [] n = refl
at_others b (p ∷ ps) n = refl

stops_behind : (b : Brackets) (p : List ℕ) (ps : List (List ℕ)) → IsPart p → stop_in 44 (p ++ others b ps) ≡ Some (length p)
stops_behind b p ps is =
    stop_behind 44 inside.Nothing [] p inside.Nothing [] 0 (others b ps) (is.safe 44 (inl refl) []) ∙ at_others b ps (0 + length p) ∙ ap (λ (n : ℕ). Some n) (omega arith)

-- a part isn't empty
some_size : (p : List ℕ) → Begins p → (length p == 0) ≡ false
some_size p begins =
    let long : length p ≡ suc (length begins.others) = ap length begins.parts in
    differ (length p) 0 (λ e. omega (arith, e, long))

-- one part, and then the elements that `more` reads from the text after it
element_again : (more : List (List ℕ) → List ℕ → Option (List (List ℕ))) (b : Brackets) (done : List (List ℕ)) (p : List ℕ) (ps : List (List ℕ)) → IsPart p
    → element_by more (right b) done (p ++ others b ps) ≡ elements_after (more (done ++ p ∷ [])) (right b) (done ++ p ∷ []) (others b ps)
element_again more b done p ps is =
    rw (stops_behind b p ps is, some_size p is.begins, take-append_seam p (others b ps), drop-append_seam p (others b ps)) refl

close_end : (more : List ℕ → Option (List (List ℕ))) (b : Brackets) (found : List (List ℕ)) → elements_after more (right b) found (right b ∷ []) ≡ Some found
unfolding after_blanks
close_end more square found = refl
close_end more brace found = refl

elements_again : (n : ℕ) (b : Brackets) (done : List (List ℕ)) (p : List ℕ) (ps : List (List ℕ)) → IsPart p → AreParts ps → length ps < n
    → elements_from n (right b) done (p ++ others b ps) ≡ Some (done ++ p ∷ ps)
unfolding elements_from
elements_again zero b done p ps is are h = absurd (omega arith)
elements_again (suc n) b done p [] is are h =
    element_again (elements_from n (right b)) b done p [] is ∙ close_end (elements_from n (right b) (done ++ p ∷ [])) b (done ++ p ∷ [])
elements_again (suc n) b done p (q ∷ qs) is are h =
    element_again (elements_from n (right b)) b done p (q ∷ qs) is
    ∙ ap (elements_from n (right b) (done ++ p ∷ [])) (no_blanks q (others b qs) are.0.begins)
    ∙ elements_again n b (done ++ p ∷ []) q qs are.0 are.1 (omega arith)
    ∙ ap (λ (ts : List (List ℕ)). Some ts) (append_assoc done (p ∷ []) (q ∷ qs))

-- each part has its comma
parts_long : (b : Brackets) (ps : List (List ℕ)) → length ps < length (others b ps)
parts_long b [] = omega arith
parts_long b (p ∷ ps) = omega (arith, length-append (44 ∷ p) (others b ps), parts_long b ps)

not_close : (b : Brackets) (p : List ℕ) (begins : Begins p) → (begins.first == right b) ≡ false
not_close square p begins = differ begins.first 93 begins.square
not_close brace p begins = differ begins.first 125 begins.brace

opened : (b : Brackets) (text : List ℕ) → bracketed_elements (left b) (right b) (left b ∷ text) ≡ elements_within (right b) (after_blanks text)
unfolding bracketed_elements
opened square text = refl
opened brace text = refl

within : (close c : ℕ) (cs : List ℕ) → (c == close) ≡ false → elements_within close (c ∷ cs) ≡ elements_from (length (c ∷ cs)) close [] (c ∷ cs)
unfolding elements_within
within close c cs e = rw e refl

none_within : (b : Brackets) → elements_within (right b) (after_blanks (right b ∷ [])) ≡ Some []
unfolding elements_within after_blanks
none_within square = refl
none_within brace = refl

-- the parts between brackets
pub parts_again : (b : Brackets) (ps : List (List ℕ)) → AreParts ps → bracketed_elements (left b) (right b) (left b ∷ closed b [] ps) ≡ Some ps
parts_again b [] are = opened b (right b ∷ []) ∙ none_within b
parts_again b (p ∷ ps) are =
    let begins = are.0.begins in
    let text : List ℕ = p ++ others b ps in
    let parts : text ≡ begins.first ∷ (begins.others ++ others b ps) = ap (λ (t : List ℕ). t ++ others b ps) begins.parts in
    let long : length ps < length text = omega (arith, length-append p (others b ps), parts_long b ps) in
    let read : elements_from (length text) (right b) [] text ≡ Some (p ∷ ps) = elements_again (length text) b [] p ps are.0 are.1 long in
    opened b text ∙ ap (elements_within (right b)) (no_blanks p (others b ps) begins ∙ parts)
    ∙ within (right b) begins.first (begins.others ++ others b ps) (not_close b p begins)
    ∙ ap (λ (t : List ℕ). elements_from (length t) (right b) [] t) (sym parts) ∙ read
