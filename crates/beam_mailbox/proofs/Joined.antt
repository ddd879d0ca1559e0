-- Lists that are joined: their elements, and the list without one of them.
use Rattle.std.proofs.Common.{◌≡◌, ◌<◌, ◌≤◌, ℕ, zero, suc, ◌+◌, ◌-◌, List, [], ◌∷◌, ◌++◌, length, remove, take, set, slice_get, slice_index_or, sym, ap, ◌∙◌, refl, zero-add, append_assoc, arith, length-append}
use Rattle.std.proofs.lemmas.List.{nil_from_length}
use Rattle.std.proofs.lemmas.List.Edits.{remove-append_left, remove-append_right, length-remove}
use Rattle.beam_term.specs.Prelude.{TermValue}
use Rattle.beam_mailbox.specs.Chunks.{joined, piece}

slice_get_left : (xs ys : List TermValue) (i : ℕ) → i < length xs → slice_get (xs ++ ys) i ≡ slice_get xs i
slice_get_left [] ys i h = absurd (omega arith)
slice_get_left (x ∷ xs) ys zero h = refl
slice_get_left (x ∷ xs) ys (suc i) h = slice_get_left xs ys i (omega arith)

slice_get_right : (xs ys : List TermValue) (i : ℕ) → slice_get (xs ++ ys) (length xs + i) ≡ slice_get ys i
slice_get_right [] ys i = ap (λ n. slice_get ys n) (zero-add i)
slice_get_right (x ∷ xs) ys i =
    let e : suc (length xs) + i ≡ suc (length xs + i) = omega arith in
    ap (λ n. slice_get (x ∷ xs ++ ys) n) e ∙ slice_get_right xs ys i

remove_right : (xs ys : List TermValue) (i : ℕ) → remove (xs ++ ys) (length xs + i) ≡ xs ++ remove ys i
remove_right xs ys i =
    let e : length xs + i - length xs ≡ i = omega arith in
    remove-append_right xs ys (length xs) (length xs + i) refl (omega arith) ∙ ap (λ n. xs ++ remove ys n) e

-- the place of an element of a later list
further : (c : List TermValue) (cs : List (List TermValue)) (k place : ℕ) → length (joined (take (suc k) (c ∷ cs))) + place ≡ length c + (length (joined (take k cs)) + place)
further c cs k place = omega (arith, length-append c (joined (take k cs)))

-- the message at the save pointer
pub slice_get_joined : (cs : List (List TermValue)) (last : List TermValue) (k place : ℕ) → k ≤ length cs → (k < length cs → place < length (piece cs last k)) → slice_get (joined cs ++ last) (length (joined (take k cs)) + place) ≡ slice_get (piece cs last k) place
slice_get_joined [] last zero place w b = ap (λ n. slice_get last n) (zero-add place)
slice_get_joined [] last (suc k) place w b = absurd (omega arith)
slice_get_joined (c ∷ cs) last zero place w b =
    ap (λ n. slice_get ((c ++ joined cs) ++ last) n) (zero-add place)
    ∙ ap (λ l. slice_get l place) (append_assoc c (joined cs) last)
    ∙ slice_get_left c (joined cs ++ last) place (b (omega arith))
slice_get_joined (c ∷ cs) last (suc k) place w b =
    ap (λ n. slice_get ((c ++ joined cs) ++ last) n) (further c cs k place)
    ∙ ap (λ l. slice_get l (length c + (length (joined (take k cs)) + place))) (append_assoc c (joined cs) last)
    ∙ slice_get_right c (joined cs ++ last) (length (joined (take k cs)) + place)
    ∙ slice_get_joined cs last k place (omega arith) (λ h. b (omega arith))

-- a message is taken out of its chunk
pub remove_joined : (cs : List (List TermValue)) (last : List TermValue) (k place : ℕ) → k < length cs → place < length (piece cs last k) → joined (set cs k (remove (piece cs last k) place)) ++ last ≡ remove (joined cs ++ last) (length (joined (take k cs)) + place)
remove_joined [] last k place w b = absurd (omega arith)
remove_joined (c ∷ cs) last zero place w b =
    append_assoc (remove c place) (joined cs) last
    ∙ sym (remove-append_left c (joined cs ++ last) place b)
    ∙ sym (ap (λ l. remove l place) (append_assoc c (joined cs) last))
    ∙ sym (ap (λ n. remove ((c ++ joined cs) ++ last) n) (zero-add place))
remove_joined (c ∷ cs) last (suc k) place w b =
    append_assoc c (joined (set cs k (remove (piece cs last k) place))) last
    ∙ ap (λ l. c ++ l) (remove_joined cs last k place (omega arith) b)
    ∙ sym (remove_right c (joined cs ++ last) (length (joined (take k cs)) + place))
    ∙ sym (ap (λ l. remove l (length c + (length (joined (take k cs)) + place))) (append_assoc c (joined cs) last))
    ∙ sym (ap (λ n. remove ((c ++ joined cs) ++ last) n) (further c cs k place))

-- an empty list adds nothing
joined_dropped : (cs : List (List TermValue)) (k : ℕ) → k < length cs → joined (remove cs k) ≡ joined (set cs k [])
joined_dropped [] k w = absurd (omega arith)
joined_dropped (c ∷ cs) zero w = refl
joined_dropped (c ∷ cs) (suc k) w = ap (λ l. c ++ l) (joined_dropped cs k (omega arith))

-- a chunk's only message is taken out: the chunk goes
pub joined_without : (cs : List (List TermValue)) (d : List TermValue) (k place : ℕ) → k < length cs → place < length (piece cs d k) → length (piece cs d k) ≡ 1 → joined (remove cs k) ≡ joined (set cs k (remove (piece cs d k) place))
joined_without cs d k place w b one =
    let none : remove (piece cs d k) place ≡ [] = nil_from_length (remove (piece cs d k) place) (omega (arith, length-remove (piece cs d k) place b)) in
    joined_dropped cs k w ∙ ap (λ l. joined (set cs k l)) (sym none)

-- a message that stands after all chunks is taken out
pub remove_last : (cs : List (List TermValue)) (last : List TermValue) (place : ℕ) → joined cs ++ remove last place ≡ remove (joined cs ++ last) (length (joined cs) + place)
remove_last cs last place = sym (remove_right (joined cs) last place)

pub joined_append : (bs cs : List (List TermValue)) → joined (bs ++ cs) ≡ joined bs ++ joined cs
joined_append [] cs = refl
joined_append (b ∷ bs) cs = ap (λ l. b ++ l) (joined_append bs cs) ∙ sym (append_assoc b (joined bs) (joined cs))

-- one chunk more
pub joined_more : (cs : List (List TermValue)) (k : ℕ) (d : List TermValue) → k < length cs → length (joined (take (k + 1) cs)) ≡ length (joined (take k cs)) + length (slice_index_or cs k d)
joined_more [] k d w = absurd (omega arith)
joined_more (c ∷ cs) zero d w = omega (arith, length-append c [])
joined_more (c ∷ cs) (suc k) d w =
    let e : suc k + 1 ≡ suc (k + 1) = omega arith in
    ap (λ n. length (joined (take n (c ∷ cs)))) e
    ∙ omega (arith, length-append c (joined (take (k + 1) cs)), length-append c (joined (take k cs)), joined_more cs k d (omega arith))
