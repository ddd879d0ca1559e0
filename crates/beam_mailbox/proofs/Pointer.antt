-- The position of the save pointer.
use Rattle.std.proofs.Common.{◌≡◌, ◌<◌, ◌≤◌, ℕ, zero, suc, ◌+◌, ◌-◌, List, [], ◌∷◌, ◌++◌, length, take, sym, ap, ◌∙◌, ◌≢◌, ◌⊎◌, inl, inr, refl, subst, set, remove, slice_get, slice_index_or, append_assoc, append-nil, is_some, true, arith, length-append, take_all}
use Rattle.std.proofs.lemmas.List.{take-append-le, get_or_default, get_or_past, length_push}
use Rattle.beam_term.specs.Prelude.{TermValue}
use Rattle.beam_mailbox.specs.Chunks.{joined, piece, AreFilled, IsAt}
use Rattle.std.proofs.lemmas.Bool.{cases_lt, cases_eq}
use Rattle.beam_mailbox.proofs.Joined.{joined_append, joined_more, slice_get_joined, remove_joined, remove_last}

filled_at : (cs : List (List TermValue)) (d : List TermValue) (k : ℕ) → AreFilled cs → k < length cs → 0 < length (piece cs d k)
filled_at cs d k f w = f k d w

-- the pointer is at the start
pub at_start : (cs : List (List TermValue)) (last : List TermValue) → AreFilled cs → IsAt cs last 0 0 0
at_start cs last f = record {
  within = omega arith;
  counted = refl;
  in_chunk = λ w. filled_at cs last 0 f w;
  in_piece = omega arith;
}

longer_piece : (cs : List (List TermValue)) (last more : List TermValue) (k place : ℕ) → place ≤ length (piece cs last k) → place ≤ length (piece cs (last ++ more) k)
longer_piece [] last more k place h = omega (arith, length-append last more)
longer_piece (c ∷ cs) last more zero place h = h
longer_piece (c ∷ cs) last more (suc k) place h = longer_piece cs last more k place h

-- one message more stands last
pub at_longer : (cs : List (List TermValue)) (last more : List TermValue) (k place position : ℕ) → IsAt cs last k place position → IsAt cs (last ++ more) k place position
at_longer cs last more k place position a =
    let same : k < length cs → piece cs (last ++ more) k ≡ piece cs last k = λ w. get_or_default cs k (last ++ more) last w in
    record {
      within = a.within;
      counted = a.counted;
      in_chunk = λ w. subst (λ (c : List TermValue). place < length c) (sym (same w)) (a.in_chunk w);
      in_piece = longer_piece cs last more k place a.in_piece;
    }

-- the pointer moves to the next message of the same chunk
pub at_next : (cs : List (List TermValue)) (last : List TermValue) (k place position : ℕ) → (k < length cs → place + 1 < length (piece cs last k)) → place + 1 ≤ length (piece cs last k) → IsAt cs last k place position → IsAt cs last k (place + 1) (position + 1)
at_next cs last k place position inside most a = record {
  within = a.within;
  counted = omega (arith, a.counted);
  in_chunk = inside;
  in_piece = most;
}

-- the pointer moves from the last message of a chunk to the next chunk
pub at_next_chunk : (cs : List (List TermValue)) (last : List TermValue) (k place position : ℕ) → AreFilled cs → k < length cs → place + 1 ≡ length (piece cs last k) → IsAt cs last k place position → IsAt cs last (k + 1) 0 (position + 1)
at_next_chunk cs last k place position f w e a = record {
  within = omega arith;
  counted = omega (arith, a.counted, joined_more cs k last w);
  in_chunk = λ v. filled_at cs last (k + 1) f v;
  in_piece = omega arith;
}

-- past the chunks the pointer is among the last messages
pub past_chunks : (cs : List (List TermValue)) (last : List TermValue) (k place position : ℕ) → length cs ≤ k → IsAt cs last k place position → (position ≡ length (joined cs) + place) × (piece cs last k ≡ last)
past_chunks cs last k place position past a =
    (a.counted ∙ ap (λ l. length (joined l) + place) (take_all k cs past), get_or_past cs k last past)

-- the pointer moves to the next of the last messages
pub at_next_last : (cs : List (List TermValue)) (last : List TermValue) (k place position : ℕ) → length cs ≤ k → position < length (joined cs ++ last) → IsAt cs last k place position → IsAt cs last k (place + 1) (position + 1)
at_next_last cs last k place position past more a =
    let p = past_chunks cs last k place position past a in
    let n : length (piece cs last k) ≡ length last = ap length p.1 in
    at_next cs last k place position (λ w. absurd (omega arith)) (omega (arith, p.0, n, length-append (joined cs) last)) a

in_more : (cs : List (List TermValue)) (c last rest : List TermValue) (k place : ℕ) → k ≤ length cs → (k < length cs → place < length (piece cs last k)) → (length cs ≤ k → place < length c) → place < length (piece (cs ++ c ∷ []) rest k)
in_more [] c last rest zero place w b h = h (omega arith)
in_more [] c last rest (suc k) place w b h = absurd (omega arith)
in_more (d ∷ cs) c last rest zero place w b h = b (omega arith)
in_more (d ∷ cs) c last rest (suc k) place w b h = in_more cs c last rest k place (omega arith) (λ v. b (omega arith)) (λ v. h (omega arith))

-- the first of the last messages stand in a chunk now, and the pointer is before its end
pub at_sealed : (cs : List (List TermValue)) (c last rest : List TermValue) (k place position : ℕ) → (length cs ≤ k → place < length c) → IsAt cs last k place position → IsAt (cs ++ c ∷ []) rest k place position
at_sealed cs c last rest k place position h a =
    let inside : place < length (piece (cs ++ c ∷ []) rest k) = in_more cs c last rest k place a.within a.in_chunk h in
    record {
      within = omega (arith, length_push cs c, a.within);
      counted = a.counted ∙ ap (λ l. length (joined l) + place) (sym (take-append-le k cs (c ∷ []) a.within));
      in_chunk = λ w. inside;
      in_piece = omega (arith, inside);
    }

length_joined_push : (cs : List (List TermValue)) (c : List TermValue) → length (joined (cs ++ c ∷ [])) ≡ length (joined cs) + length c
length_joined_push cs c = omega (arith, ap length (joined_append cs (c ∷ [])), length-append (joined cs) (c ++ []), length-append c [])

-- the pointer is past the end of the new chunk
pub at_sealed_past : (cs : List (List TermValue)) (c last rest : List TermValue) (k place position : ℕ) → c ++ rest ≡ last → length cs ≤ k → length c ≤ place → IsAt cs last k place position → IsAt (cs ++ c ∷ []) rest (k + 1) (place - length c) position
at_sealed_past cs c last rest k place position whole past after a =
    let p = past_chunks cs last k place position past a in
    let n : length (piece cs last k) ≡ length last = ap length p.1 in
    let m : length c + length rest ≡ length last = sym (length-append c rest) ∙ ap length whole in
    let all : length (cs ++ c ∷ []) ≤ k + 1 = omega (arith, length_push cs c, a.within) in
    let t : length (joined (take (k + 1) (cs ++ c ∷ []))) ≡ length (joined cs) + length c = ap (λ l. length (joined l)) (take_all (k + 1) (cs ++ c ∷ []) all) ∙ length_joined_push cs c in
    let e : piece (cs ++ c ∷ []) rest (k + 1) ≡ rest = get_or_past (cs ++ c ∷ []) (k + 1) rest all in
    record {
      within = omega (arith, length_push cs c, a.within);
      counted = omega (arith, p.0, t, after);
      in_chunk = λ w. absurd (omega (arith, all, w));
      in_piece = omega (arith, ap length e, n, m, a.in_piece);
    }

same_pointer : (cs : List (List TermValue)) (last : List TermValue) (k place k' place' position : ℕ) → k' ≡ k → place' ≡ place → IsAt cs last k place position → IsAt cs last k' place' position
same_pointer cs last k place k' place' position e f a = rw (e, f) a

-- the pointer moves past its message
pub at_following : (cs : List (List TermValue)) (last : List TermValue) (k place position k' place' : ℕ) → AreFilled cs → position < length (joined cs ++ last) → (k < length cs → place + 1 ≡ length (slice_index_or cs k []) → (k' ≡ k + 1) × (place' ≡ 0)) → ((length cs ≤ k) ⊎ (place + 1 ≢ length (slice_index_or cs k [])) → (k' ≡ k) × (place' ≡ place + 1)) → IsAt cs last k place position → IsAt cs last k' place' (position + 1)
at_following cs last k place position k' place' f more over inside a =
    elim (cases_lt k (length cs)) [
      | inl w ↦ (
          let same : length (slice_index_or cs k []) ≡ length (piece cs last k) = ap length (get_or_default cs k [] last w) in
          elim (cases_eq (place + 1) (length (slice_index_or cs k []))) [
            | inl e ↦ (let m = over w e in same_pointer cs last (k + 1) 0 k' place' (position + 1) m.0 m.1 (at_next_chunk cs last k place position f w (e ∙ same) a))
            | inr n ↦ (
                let m = inside (inr n) in
                let before : place < length (piece cs last k) = a.in_chunk w in
                let next : place + 1 < length (piece cs last k) = omega (arith, n, same, before) in
                same_pointer cs last k (place + 1) k' place' (position + 1) m.0 m.1 (at_next cs last k place position (λ v. next) (omega (arith, next)) a))
          ])
      | inr p ↦ (let m = inside (inl p) in same_pointer cs last k (place + 1) k' place' (position + 1) m.0 m.1 (at_next_last cs last k place position p more a))
    ]

-- the pointer after one more chunk is made of the first of the last messages
pub at_moved : (cs : List (List TermValue)) (c last rest : List TermValue) (chunks k place position k' place' : ℕ) → chunks ≡ length cs → length c ≡ 256 → c ++ rest ≡ last → (k ≡ chunks → 256 ≤ place → (k' ≡ k + 1) × (place' ≡ place - 256)) → ((k ≢ chunks) ⊎ (place < 256) → (k' ≡ k) × (place' ≡ place)) → IsAt cs last k place position → IsAt (cs ++ c ∷ []) rest k' place' position
at_moved cs c last rest chunks k place position k' place' many n whole into stays a =
    elim (cases_lt place 256) [
      | inl s ↦ (let m = stays (inr s) in same_pointer (cs ++ c ∷ []) rest k place k' place' position m.0 m.1 (at_sealed cs c last rest k place position (λ p. omega (arith, s, n)) a))
      | inr g ↦ (elim (cases_eq k chunks) [
        | inl e ↦ (let m = into e g in same_pointer (cs ++ c ∷ []) rest (k + 1) (place - length c) k' place' position m.0 (omega (arith, m.1, n)) (at_sealed_past cs c last rest k place position whole (omega (arith, e, many)) (omega (arith, n, g)) a))
        | inr d ↦ (let m = stays (inl d) in same_pointer (cs ++ c ∷ []) rest k place k' place' position m.0 m.1 (at_sealed cs c last rest k place position (λ p. absurd (omega (arith, p, d, many, a.within))) a))
      ])
    ]

pub sealed_messages : (cs : List (List TermValue)) (c last rest : List TermValue) → c ++ rest ≡ last → joined (cs ++ c ∷ []) ++ rest ≡ joined cs ++ last
sealed_messages cs c last rest whole =
    ap (λ l. l ++ rest) (joined_append cs (c ∷ []))
    ∙ append_assoc (joined cs) (c ++ []) rest
    ∙ ap (λ l. joined cs ++ l) (ap (λ l. l ++ rest) (append-nil c) ∙ whole)

-- the message at the save pointer
pub peek_chunk : (cs : List (List TermValue)) (last : List TermValue) (k place position : ℕ) (c : List TermValue) → c ≡ slice_index_or cs k c → k < length cs → IsAt cs last k place position → slice_get c place ≡ slice_get (joined cs ++ last) position
peek_chunk cs last k place position c read w a =
    ap (λ l. slice_get l place) (read ∙ get_or_default cs k c last w)
    ∙ sym (slice_get_joined cs last k place a.within a.in_chunk)
    ∙ sym (ap (λ n. slice_get (joined cs ++ last) n) a.counted)

pub peek_last : (cs : List (List TermValue)) (last : List TermValue) (k place position : ℕ) → length cs ≤ k → IsAt cs last k place position → slice_get last place ≡ slice_get (joined cs ++ last) position
peek_last cs last k place position past a =
    let p = past_chunks cs last k place position past a in
    ap (λ l. slice_get l place) (sym p.1)
    ∙ sym (slice_get_joined cs last k place a.within a.in_chunk)
    ∙ sym (ap (λ n. slice_get (joined cs ++ last) n) a.counted)

-- there is a message at the pointer
pub at_message : (cs : List (List TermValue)) (last : List TermValue) (k place position : ℕ) → position < length (joined cs ++ last) → IsAt cs last k place position → place < length (piece cs last k)
at_message cs last k place position more a =
    elim (cases_lt k (length cs)) [
      | inl w ↦ a.in_chunk w
      | inr p ↦ (
          let q = past_chunks cs last k place position p a in
          let n : length (piece cs last k) ≡ length last = ap length q.1 in
          omega (arith, q.0, n, length-append (joined cs) last, more))
    ]

pub is_some_at : (ts : List TermValue) (i : ℕ) → i < length ts → true ≡ is_some (slice_get ts i)
is_some_at [] i h = absurd (omega arith)
is_some_at (t ∷ ts) zero h = refl
is_some_at (t ∷ ts) (suc i) h = is_some_at ts i (omega arith)

-- the message at the pointer is taken out
pub taken_chunk : (cs cs' : List (List TermValue)) (last : List TermValue) (k place : ℕ) → k < length cs → place < length (piece cs last k) → joined cs' ≡ joined (set cs k (remove (slice_index_or cs k []) place)) → joined cs' ++ last ≡ remove (joined cs ++ last) (length (joined (take k cs)) + place)
taken_chunk cs cs' last k place w b e =
    ap (λ l. l ++ last) (e ∙ ap (λ c. joined (set cs k (remove c place))) (get_or_default cs k [] last w))
    ∙ remove_joined cs last k place w b

pub taken_last : (cs : List (List TermValue)) (last : List TermValue) (k place : ℕ) → length cs ≤ k → joined cs ++ remove last place ≡ remove (joined cs ++ last) (length (joined (take k cs)) + place)
taken_last cs last k place past =
    remove_last cs last place
    ∙ sym (ap (λ l. remove (joined cs ++ last) (length (joined l) + place)) (take_all k cs past))
