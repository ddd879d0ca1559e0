-- Frames at the front of bytes, where more bytes come.
use Rattle.std.proofs.Common.{◌≡◌, ◌<◌, ◌≤◌, ◌∙◌, inl, inr, ℕ, false, List, [], ◌∷◌, ◌++◌, Option, Some, None, refl, ap, sym, length, take, drop, arith, length-append, lt-ltb, le-ltb, ltb-true, ltb-false, take-append-drop, length-take-le, nat_lt, option_and_then}
use Rattle.std.proofs.lemmas.Bool.{cond-true, cond-false}
use Rattle.std.proofs.lemmas.List.{take-append-le, drop-append-le}
use Rattle.beam_lemmas.proofs.Tests.{chosen}
use Rattle.byteorder.specs.Endian.{big_number}
use Rattle.beam_machine.specs.declared.command.CommandKind.{CommandKind}
use Rattle.beam_machine.specs.Prelude.{Command, SpellsCommand, FirstFrame, no_frame, one_frame, command_or_fault, of_kind, command_in, kind_of, frame_content, after_length, frame_in, longest_frame}
use Rattle.beam_frame.proofs.Spelling.{read_is_spelled}
use Rattle.beam_remote.specs.Prelude.{IsFrame}

-- ---- a frame

spelled_rest : (o : Option Command) (r : List ℕ) (c : Command) (r' : List ℕ) → command_or_fault o r ≡ one_frame c r' → r' ≡ r
spelled_rest None r c r' e = cc
spelled_rest (Some d) r c r' e = cc

of_kind_rest : (o : Option CommandKind) (body r : List ℕ) (c : Command) (r' : List ℕ) → of_kind o body r ≡ one_frame c r' → r' ≡ r
of_kind_rest None body r c r' e = cc
of_kind_rest (Some k) body r c r' e = spelled_rest (command_in k body) r c r' e

framed_rest : (bytes r : List ℕ) (c : Command) (r' : List ℕ) → frame_content bytes r ≡ one_frame c r' → r' ≡ r
framed_rest [] r c r' e = cc
framed_rest (k ∷ body) r c r' e = of_kind_rest (kind_of k) body r c r' e

spelled_other : (o : Option Command) (r s : List ℕ) (c : Command) (r' : List ℕ) → command_or_fault o r ≡ one_frame c r' → command_or_fault o s ≡ one_frame c s
spelled_other None r s c r' e = cc
spelled_other (Some d) r s c r' e = let same : d ≡ c = cc in ap (λ (x : Command). one_frame x s) same

of_kind_other : (o : Option CommandKind) (body r s : List ℕ) (c : Command) (r' : List ℕ) → of_kind o body r ≡ one_frame c r' → of_kind o body s ≡ one_frame c s
of_kind_other None body r s c r' e = cc
of_kind_other (Some k) body r s c r' e = spelled_other (command_in k body) r s c r' e

-- the command doesn't depend on the bytes after the frame
framed_other : (bytes r s : List ℕ) (c : Command) (r' : List ℕ) → frame_content bytes r ≡ one_frame c r' → frame_content bytes s ≡ one_frame c s
framed_other [] r s c r' e = cc
framed_other (k ∷ body) r s c r' e = of_kind_other (kind_of k) body r s c r' e

spelled_some : (o : Option Command) (r : List ℕ) → command_or_fault o r ≡ no_frame → ⊥
spelled_some None r e = cc
spelled_some (Some d) r e = cc

of_kind_some : (o : Option CommandKind) (body r : List ℕ) → of_kind o body r ≡ no_frame → ⊥
of_kind_some None body r e = cc
of_kind_some (Some k) body r e = spelled_some (command_in k body) r e

framed_some : (bytes r : List ℕ) → frame_content bytes r ≡ no_frame → ⊥
framed_some [] r e = cc
framed_some (k ∷ body) r e = of_kind_some (kind_of k) body r e

-- ---- a length and the bytes after it

-- a frame is whole and isn't too long
pub record IsWhole (n : ℕ) (rest : List ℕ) (found : FirstFrame) : Type 0 where
  pub short : nat_lt longest_frame n ≡ false
  pub whole : nat_lt (length rest) n ≡ false
  pub is : frame_content (take n rest) (drop n rest) ≡ found

whole_if : (n : ℕ) (rest : List ℕ) (c : Command) (r : List ℕ) → after_length n rest ≡ one_frame c r → IsWhole n rest (one_frame c r)
unfolding after_length
whole_if n rest c r e =
    elim (chosen (nat_lt longest_frame n) _ _ _ e) [
      | inl p ↦ absurd (let q = p.1 in cc)
      | inr p ↦ elim (chosen (nat_lt (length rest) n) _ _ _ p.1) [
        | inl q ↦ absurd (let w = q.1 in cc)
        | inr q ↦ record { short = p.0; whole = q.0; is = q.1 }
      ]
    ]

whole_is : (n : ℕ) (rest : List ℕ) → nat_lt longest_frame n ≡ false → nat_lt (length rest) n ≡ false → after_length n rest ≡ frame_content (take n rest) (drop n rest)
unfolding after_length
whole_is n rest short whole = cond-false _ _ _ short ∙ cond-false _ _ _ whole

after_more : (n : ℕ) (rest more : List ℕ) (c : Command) (r : List ℕ) → after_length n rest ≡ one_frame c r → after_length n (rest ++ more) ≡ one_frame c (r ++ more)
after_more n rest more c r e =
    let w = whole_if n rest c r e in
    let fits : n ≤ length rest = ltb-false (length rest) n w.whole in
    let wider : n ≤ length (rest ++ more) = omega (arith, length-append rest more) in
    let is_rest : r ≡ drop n rest = framed_rest (take n rest) (drop n rest) c r w.is in
    let other : frame_content (take n rest) (drop n rest ++ more) ≡ one_frame c (drop n rest ++ more) = framed_other (take n rest) (drop n rest) (drop n rest ++ more) c r w.is in
    whole_is n (rest ++ more) w.short (le-ltb (length (rest ++ more)) n wider)
    ∙ ap (λ (t : List ℕ). frame_content t (drop n (rest ++ more))) (take-append-le n rest more fits)
    ∙ ap (λ (t : List ℕ). frame_content (take n rest) t) (drop-append-le n rest more fits)
    ∙ other ∙ ap (λ (t : List ℕ). one_frame c (t ++ more)) (sym is_rest)

after_none : (n : ℕ) (rest : List ℕ) → after_length n rest ≡ no_frame → length rest < longest_frame
unfolding after_length
after_none n rest e =
    elim (chosen (nat_lt longest_frame n) _ _ _ e) [
      | inl p ↦ absurd (let q = p.1 in cc)
      | inr p ↦ elim (chosen (nat_lt (length rest) n) _ _ _ p.1) [
        | inl q ↦ omega (arith, ltb-true (length rest) n q.0, ltb-false longest_frame n p.0)
        | inr q ↦ absurd (framed_some (take n rest) (drop n rest) q.1)
      ]
    ]

-- ---- the front of bytes

short_none : (bytes : List ℕ) → length bytes < 4 → frame_in bytes ≡ no_frame
unfolding frame_in
short_none bytes short = cond-true _ _ _ (lt-ltb (length bytes) 4 short)

after_four : (a b c d : ℕ) (rest : List ℕ) → frame_in (a ∷ b ∷ c ∷ d ∷ rest) ≡ after_length (big_number 4 (a ∷ b ∷ c ∷ d ∷ [])) rest
unfolding frame_in
after_four a b c d rest = cond-false _ _ _ (le-ltb (length (a ∷ b ∷ c ∷ d ∷ rest)) 4 (omega arith))

-- a frame that is found at the front of bytes is found there too when more bytes follow
pub more_after : (bytes more : List ℕ) (c : Command) (r : List ℕ) → frame_in bytes ≡ one_frame c r → frame_in (bytes ++ more) ≡ one_frame c (r ++ more)
more_after [] more c r e = absurd (let n = short_none [] (omega arith) in cc)
more_after (w ∷ []) more c r e = absurd (let n = short_none (w ∷ []) (omega arith) in cc)
more_after (w ∷ x ∷ []) more c r e = absurd (let n = short_none (w ∷ x ∷ []) (omega arith) in cc)
more_after (w ∷ x ∷ y ∷ []) more c r e = absurd (let n = short_none (w ∷ x ∷ y ∷ []) (omega arith) in cc)
more_after (w ∷ x ∷ y ∷ z ∷ rest) more c r e =
    let n : ℕ = big_number 4 (w ∷ x ∷ y ∷ z ∷ []) in
    after_four w x y z (rest ++ more) ∙ after_more n rest more c r (sym (after_four w x y z rest) ∙ e)

-- bytes without a whole frame at their front are few
pub none_is_short : (bytes : List ℕ) → frame_in bytes ≡ no_frame → length bytes < 8388612
none_is_short [] e = omega arith
none_is_short (w ∷ []) e = omega arith
none_is_short (w ∷ x ∷ []) e = omega arith
none_is_short (w ∷ x ∷ y ∷ []) e = omega arith
none_is_short (w ∷ x ∷ y ∷ z ∷ rest) e =
    let n : ℕ = big_number 4 (w ∷ x ∷ y ∷ z ∷ []) in
    let below : length rest < longest_frame = after_none n rest (sym (after_four w x y z rest) ∙ e) in
    omega arith

-- ---- the frame that is found

spelled_is : (o : Option Command) (r : List ℕ) (c : Command) (r' : List ℕ) → command_or_fault o r ≡ one_frame c r' → o ≡ Some c
spelled_is None r c r' e = cc
spelled_is (Some d) r c r' e = cc

of_kind_is : (o : Option CommandKind) (body r : List ℕ) (c : Command) (r' : List ℕ) → of_kind o body r ≡ one_frame c r'
    → option_and_then (λ k. command_in k body) o ≡ Some c
of_kind_is None body r c r' e = cc
of_kind_is (Some k) body r c r' e = spelled_is (command_in k body) r c r' e

-- the body of a frame spells its command
framed_spells : (bytes r : List ℕ) (c : Command) (r' : List ℕ) → frame_content bytes r ≡ one_frame c r'
    → (kind : ℕ) × (body : List ℕ) × (bytes ≡ kind ∷ body) × SpellsCommand kind body c
framed_spells [] r c r' e = cc
framed_spells (k ∷ body) r c r' e = (k, body, refl, read_is_spelled k body c (of_kind_is (kind_of k) body r c r' e))

-- a frame that is found is the front of the bytes
pub frame_found : (bytes : List ℕ) (c : Command) (r : List ℕ) → frame_in bytes ≡ one_frame c r → (frame : List ℕ) × (bytes ≡ frame ++ r) × IsFrame frame c
frame_found [] c r e = absurd (let n = short_none [] (omega arith) in cc)
frame_found (w ∷ []) c r e = absurd (let n = short_none (w ∷ []) (omega arith) in cc)
frame_found (w ∷ x ∷ []) c r e = absurd (let n = short_none (w ∷ x ∷ []) (omega arith) in cc)
frame_found (w ∷ x ∷ y ∷ []) c r e = absurd (let n = short_none (w ∷ x ∷ y ∷ []) (omega arith) in cc)
frame_found (w ∷ x ∷ y ∷ z ∷ rest) c r e =
    let size : List ℕ = w ∷ x ∷ y ∷ z ∷ [] in
    let n : ℕ = big_number 4 size in
    let is = whole_if n rest c r (sym (after_four w x y z rest) ∙ e) in
    let fits : n ≤ length rest = ltb-false (length rest) n is.whole in
    let is_rest : r ≡ drop n rest = framed_rest (take n rest) (drop n rest) c r is.is in
    let spells = framed_spells (take n rest) (drop n rest) c r is.is in
    let count : length (take n rest) ≡ length (spells.0 ∷ spells.1) = ap length spells.2 in
    let many : length (take n rest) ≡ n = length-take-le n rest fits in (
      size ++ take n rest,
      ap (λ (b : List ℕ). w ∷ x ∷ y ∷ z ∷ b) (sym (take-append-drop n rest) ∙ ap (λ (b : List ℕ). take n rest ++ b) (sym is_rest)),
      record {
        size = size;
        kind = spells.0;
        body = spells.1;
        stands = ap (λ (b : List ℕ). size ++ b) spells.2;
        counts = record { wide = refl; value = sym many ∙ count };
        short = omega (arith, count, many, ltb-false longest_frame n is.short);
        spells = spells.3;
      },
    )
