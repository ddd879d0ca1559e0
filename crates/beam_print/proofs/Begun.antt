-- Texts that are written piece by piece.
use Rattle.std.proofs.Common.{◌≡◌, ◌∙◌, ◌+◌, ◌<◌, sym, ap, subst, refl, ℕ, List, [], ◌∷◌, ◌++◌, append_assoc, append-nil, drop, get_or, length, Option, Result, Ok, Err, OnErr, OnOk}
use Rattle.std.specs.Io.KnownBytes.{Appends}
use Rattle.std.proofs.KnownBytes.{Appends-nil, Appends-trans}
use Rattle.std.proofs.lemmas.List.{drop_more}
use Rattle.beam_lemmas.proofs.AnyError.{on_err}
use Rattle.beam_print.specs.Begun.{IsBegun, IsWrittenUpTo}

-- after an Ok a weaker statement holds too
pub ok_more : {T E : Type 0} (r : Result T E) (P Q : Type 0) → (P → Q) → OnOk r P → OnOk r Q
ok_more (Ok x) P Q more h = more h
ok_more (Err e) P Q more h = tt

pub err_more : {T E : Type 0} (r : Result T E) (P Q : Type 0) → (P → Q) → OnErr r P → OnErr r Q
err_more (Ok x) P Q more h = tt
err_more (Err e) P Q more h = more h

-- where nothing was written, the whole text remains
pub unwritten : (a : Option (List ℕ)) (text : List ℕ) → IsWrittenUpTo a a text text
unwritten a text = record { front = []; whole = refl; appended = Appends-nil a }

pub not_begun : {T E : Type 0} (r : Result T E) (a : Option (List ℕ)) (text : List ℕ) → OnErr r (IsBegun a a text)
not_begun r a text = on_err r (IsBegun a a text) (record { rest = text; written = unwritten a text })

-- more text is put after the rest
pub closed : (a b : Option (List ℕ)) (text rest more whole left : List ℕ) → IsWrittenUpTo a b text rest → whole ≡ text ++ more → left ≡ rest ++ more
    → IsWrittenUpTo a b whole left
closed a b text rest more whole left h is waits = record {
  front = h.front;
  whole = is ∙ ap (λ (t : List ℕ). t ++ more) h.whole ∙ append_assoc h.front rest more ∙ ap (λ (t : List ℕ). h.front ++ t) (sym waits);
  appended = h.appended;
}

-- writing stops: a beginning of the longer text was written
pub stopped : (a b : Option (List ℕ)) (text rest more whole : List ℕ) → IsWrittenUpTo a b text rest → whole ≡ text ++ more → IsBegun a b whole
stopped a b text rest more whole h is = record { rest = rest ++ more; written = closed a b text rest more whole (rest ++ more) h is refl }

pub begun_longer : (a b : Option (List ℕ)) (text more whole : List ℕ) → IsBegun a b text → whole ≡ text ++ more → IsBegun a b whole
begun_longer a b text more whole h is = stopped a b text h.rest more whole h.written is

-- two stretches of writing, one after the other: the second writes the rest of the first
pub go_on : (a b c : Option (List ℕ)) (text waiting left : List ℕ) → IsWrittenUpTo a b text waiting → IsWrittenUpTo b c waiting left → IsWrittenUpTo a c text left
go_on a b c text waiting left first second = record {
  front = first.front ++ second.front;
  whole = first.whole ∙ ap (λ (t : List ℕ). first.front ++ t) second.whole ∙ sym (append_assoc first.front second.front left);
  appended = Appends-trans a b c first.front second.front first.appended second.appended;
}

pub begun_on : (a b c : Option (List ℕ)) (text waiting : List ℕ) → IsWrittenUpTo a b text waiting → IsBegun b c waiting → IsBegun a c text
begun_on a b c text waiting first second = record { rest = second.rest; written = go_on a b c text waiting second.rest first second.written }

-- ---- the pieces of a list, one after another

-- one piece more is put to the waiting text, where the rest begins with the piece
pub step : (a b c : Option (List ℕ)) (whole waiting left piece others new : List ℕ) → IsWrittenUpTo a b whole (waiting ++ left) → left ≡ piece ++ others
    → IsWrittenUpTo b c (waiting ++ piece) new → IsWrittenUpTo a c whole (new ++ others)
step a b c whole waiting left piece others new before is written =
    go_on a b c whole (waiting ++ left) (new ++ others) before (closed b c (waiting ++ piece) new others (waiting ++ left) (new ++ others) written
    (ap (λ (t : List ℕ). waiting ++ t) is ∙ sym (append_assoc waiting piece others)) refl)

pub step_begun : (a b c : Option (List ℕ)) (whole waiting left piece others : List ℕ) → IsWrittenUpTo a b whole (waiting ++ left) → left ≡ piece ++ others
    → IsBegun b c (waiting ++ piece) → IsBegun a c whole
step_begun a b c whole waiting left piece others before is begun =
    begun_on a b c whole (waiting ++ left) before (begun_longer b c (waiting ++ piece) others (waiting ++ left) begun
    (ap (λ (t : List ℕ). waiting ++ t) is ∙ sym (append_assoc waiting piece others)))

-- the item at an index stands in front of those after it
pub at_item : {X : Type 0} (xs : List X) (i : ℕ) (x : X) → i < length xs → x ≡ get_or xs i x → drop i xs ≡ x ∷ drop (i + 1) xs
at_item xs i x within is = drop_more xs i x within ∙ ap (λ y. y ∷ drop (i + 1) xs) (sym is)

-- ---- texts, put together

-- a text between two others
pub between : (old start before middle after : List ℕ) → start ≡ old ++ before → old ++ (before ++ middle ++ after) ≡ (start ++ middle) ++ after
between old start before middle after is =
    let regrouped : old ++ (before ++ middle ++ after) ≡ ((old ++ before) ++ middle) ++ after = simp append_assoc in
    regrouped ∙ ap (λ (t : List ℕ). (t ++ middle) ++ after) (sym is)
