-- Each fault that is answered stands in the bytes.
use Rattle.std.proofs.Common.{◌≡◌, ◌≢◌, ℕ, zero, suc, ◌+◌, ◌*◌, ◌≤◌, ◌<◌, ◌&&◌, Bool, true, false, cond, eqb, ltb, List, [], ◌∷◌, ◌++◌, length, take, drop, Result, Ok, Err, refl, sym, ap, subst, ◌∙◌, append_assoc, arith, inl, inr, ◌⊎◌, ℤ, pos, nat_eq, ltb-true, ltb-false, eqb-true, eq-eqb, length-append}
use Rattle.std.specs.List.{starts_with}
use Rattle.std.specs.Int.{Width, byte_len, from_be_bytes, cast_signed, w16, w32}
use Rattle.std.specs.Cmp.Lexicographic.{bytes_decides}
use Rattle.std.specs.Str.{is_utf8, chars}
use Rattle.std.proofs.lemmas.Str.{is_utf8-from_IsUtf8}
use Rattle.std.proofs.lemmas.Int.{ints}
use Rattle.beam_model.specs.Prelude.{IsHalf, little, IsSigned, plus_sign, minus_sign, ExternalFault, bad_tag, out_of_profile, too_deep, bad_utf8, is_left_out, byte_of_integer, word_of_integer, count_of_string, count_of_list, count_of_small_tuple, count_of_large_tuple, count_of_big, sign_of_big, count_of_reference, TextFault, text_cut, text_bad, text_long, AtomFault, small_count_cut, small_text, count_cut, long_text, NodeFault, node_missing, node_left_out, node_no_atom, node_atom, HasFault, tag_missing, tag_unknown, tag_left_out, field_cut, sign_bad, digits_cut, integer_large, atom_fault, node_fault, pid_cut, reference_left_out, reference_node, reference_cut, string_deep, string_cut, list_deep, list_fault, small_tuple_deep, large_tuple_deep, small_tuple_fault, large_tuple_fault, ItemsFault, this_item, later_item, ListFault, this_element, later_element, no_depth_left, in_tail, HasExternalFault, version_missing, version_bad, after_version, form_of, bytes_at, big_endian_at, byte_at, text_at, signed, greatest, big_at, small_atom_at, long_atom_at, atom_of_form, external_atom_at, pid_at, words_at, reference_at, leaf_at, Inner, text_list, external_string_at, pair_at, external_list_at, items_at, external_tuple_at, term_of_form, empty_list, after_empty_lists, whole_at, read_at, external_at}
use Rattle.beam_term.specs.Prelude.{TermValue, int_term, atom_term, reference_term, pid_term, pair_term, tuple_of, IsSmall}
use Rattle.beam_model.specs.External.{IsWord}
use Rattle.beam_model.specs.ExternalFault.{truncated, integer_too_large}
use Rattle.beam_model.specs.declared.external.Form.{Form}
use Rattle.beam_model.specs.declared.external.Form.TheVariants as forms
use Rattle.beam_model.specs.ExternalReading.{◌>>=◌}
use Rattle.beam_etf.proofs.Empty.{no_empty}
use Rattle.beam_etf.proofs.ReadingSound.{Field, byte_takes, bytes_takes, number_takes, atom_takes, is_within, counted_at, Taken}
use Rattle.beam_etf.proofs.ReadingSoundParts.{term_takes}
use Rattle.beam_etf.proofs.Tags.{Tagged, tagged}

bind_err : {A B : Type 0} (r : Result A ExternalFault) (f : A → Result B ExternalFault) (e : ExternalFault) → (r >>= f) ≡ Err e → (r ≡ Err e) ⊎ ((x : A) × (r ≡ Ok x) × (f x ≡ Err e))
bind_err (Ok x) f e h = inr (x, refl, h)
bind_err (Err d) f e h = inl (cc)

guard_err : {A : Type 0} (b : Bool) (d e : ExternalFault) (r : Result A ExternalFault) → cond b (Err d) r ≡ Err e → ((b ≡ true) × (d ≡ e)) ⊎ ((b ≡ false) × (r ≡ Err e))
guard_err true d e r h = inl (refl, cc)
guard_err false d e r h = inr (refl, h)

-- ---- fields

byte_err : (bytes : List ℕ) (e : ExternalFault) → byte_at bytes ≡ Err e → (bytes ≡ []) × (truncated ≡ e)
unfolding byte_at
byte_err [] e h = (refl, cc)
byte_err (b ∷ bytes) e h = absurd cc

bytes_err : (n : ℕ) (bytes : List ℕ) (e : ExternalFault) → bytes_at n bytes ≡ Err e → (length bytes < n) × (truncated ≡ e)
unfolding bytes_at
bytes_err n bytes e h =
    elim (guard_err (ltb (length bytes) n) truncated e (Ok (take n bytes, drop n bytes)) h) [
      | inl k ↦ (ltb-true _ _ k.0, k.1)
      | inr k ↦ absurd (cc (k.1))
    ]

number_err : (w : Width) (bytes : List ℕ) (e : ExternalFault) → big_endian_at w bytes ≡ Err e → (length bytes < byte_len w) × (truncated ≡ e)
unfolding big_endian_at
number_err w bytes e h =
    elim (bind_err (bytes_at (byte_len w) bytes) (λ field. Ok (from_be_bytes w field.0, field.1)) e h) [
      | inl k ↦ bytes_err (byte_len w) bytes e k
      | inr k ↦ absurd (cc (k.2))
    ]

text_err : (n : ℕ) (bytes : List ℕ) (e : ExternalFault) → text_at n bytes ≡ Err e → TextFault n bytes e
unfolding text_at
text_err n bytes e h =
    elim (bind_err (bytes_at n bytes) (λ field. cond (is_utf8 field.0) (cond (ltb 255 (length (chars field.0))) (Err out_of_profile) (Ok field)) (Err bad_utf8)) e h) [
      | inl k ↦ let c = bytes_err n bytes e k in subst (λ (d : ExternalFault). TextFault n bytes d) c.1 (text_cut n bytes c.0)
      | inr k ↦ by k.0 (bytes_takes n bytes k.0.0 k.0.1 k.1) (is_utf8 k.0.0) refl (ltb 255 (length (chars k.0.0))) refl k.2
    ]
  where
    by : (field : List ℕ × List ℕ) → Field bytes field.0 field.1 n → (a : Bool) → is_utf8 field.0 ≡ a → (b : Bool) → ltb 255 (length (chars field.0)) ≡ b
        → cond a (cond b (Err out_of_profile) (Ok field)) (Err bad_utf8) ≡ Err e → TextFault n bytes e
    by field f true p true q h =
        let is : out_of_profile ≡ e = cc in
        let t : TextFault n bytes out_of_profile = rw (f.parts, ← f.wide) (text_long field.0 field.1 (ltb-true _ _ q)) in
        subst (λ (d : ExternalFault). TextFault n bytes d) is t
    by field f true p false q h = absurd cc
    by field f false p b q h =
        let is : bad_utf8 ≡ e = cc in
        let t : TextFault n bytes bad_utf8 = rw (f.parts, ← f.wide) (text_bad field.0 field.1 (λ u. let both = sym p ∙ is_utf8-from_IsUtf8 field.0 u in cc)) in
        subst (λ (d : ExternalFault). TextFault n bytes d) is t

-- ---- atoms

small_atom_err : (bytes : List ℕ) (e : ExternalFault) → small_atom_at bytes ≡ Err e → AtomFault (119 ∷ bytes) e
unfolding small_atom_at
small_atom_err bytes e h =
    elim (bind_err (byte_at bytes) (λ count. text_at count.0 count.1) e h) [
      | inl k ↦
          let c = byte_err bytes e k in
          subst (λ (d : ExternalFault). AtomFault (119 ∷ bytes) d) c.1 (subst (λ (r : List ℕ). AtomFault (119 ∷ r) truncated) (sym c.0) small_count_cut)
      | inr k ↦
          let one = byte_takes bytes k.0.0 k.0.1 k.1 in
          subst (λ (r : List ℕ). AtomFault (119 ∷ r) e) (sym one) (small_text k.0.0 k.0.1 e (text_err k.0.0 k.0.1 e k.2))
    ]

long_atom_err : (bytes : List ℕ) (e : ExternalFault) → long_atom_at bytes ≡ Err e → AtomFault (118 ∷ bytes) e
unfolding long_atom_at
long_atom_err bytes e h =
    elim (bind_err (big_endian_at w16 bytes) (λ count. text_at count.0 count.1) e h) [
      | inl k ↦ let c = number_err w16 bytes e k in subst (λ (d : ExternalFault). AtomFault (118 ∷ bytes) d) c.1 (count_cut bytes c.0)
      | inr k ↦
          let f = number_takes w16 bytes k.0.0 k.0.1 k.1 in
          subst (λ (r : List ℕ). AtomFault (118 ∷ r) e) (sym f.1.parts) (long_text f.0 k.0.1 k.0.0 e (record { wide = f.1.wide; value = f.2 }) (text_err k.0.0 k.0.1 e k.2))
    ]

-- ---- pids

-- a tag of the profile that is no atom's
other : (tag k : ℕ) (rest : List ℕ) → tag ≡ k → k ≢ 119 → k ≢ 118 → is_left_out k ≡ false → NodeFault (tag ∷ rest) bad_tag
other tag k rest is a b c = subst (λ (t : ℕ). NodeFault (t ∷ rest) bad_tag) (sym is) (node_no_atom k rest a b c)

atom_of_err : (form : Form) (tag : ℕ) (bytes : List ℕ) (e : ExternalFault) → Tagged form tag → atom_of_form form bytes ≡ Err e → NodeFault (tag ∷ bytes) e
unfolding atom_of_form
atom_of_err forms.SmallAtom tag bytes e t h = subst (λ (k : ℕ). NodeFault (k ∷ bytes) e) (sym t) (node_atom (119 ∷ bytes) e (small_atom_err bytes e h))
atom_of_err forms.LongAtom tag bytes e t h = subst (λ (k : ℕ). NodeFault (k ∷ bytes) e) (sym t) (node_atom (118 ∷ bytes) e (long_atom_err bytes e h))
atom_of_err forms.LeftOut tag bytes e t h = let is : out_of_profile ≡ e = cc in subst (λ (d : ExternalFault). NodeFault (tag ∷ bytes) d) is (node_left_out tag bytes t)
atom_of_err forms.Unknown tag bytes e t h = let is : bad_tag ≡ e = cc in subst (λ (d : ExternalFault). NodeFault (tag ∷ bytes) d) is (node_no_atom tag bytes t.small_atom t.atom t.left_out)
atom_of_err forms.SmallInteger tag bytes e t h = let is : bad_tag ≡ e = cc in subst (λ (d : ExternalFault). NodeFault (tag ∷ bytes) d) is (other tag 97 bytes t (λ q. omega arith) (λ q. omega arith) refl)
atom_of_err forms.Integer tag bytes e t h = let is : bad_tag ≡ e = cc in subst (λ (d : ExternalFault). NodeFault (tag ∷ bytes) d) is (other tag 98 bytes t (λ q. omega arith) (λ q. omega arith) refl)
atom_of_err forms.SmallBig tag bytes e t h = let is : bad_tag ≡ e = cc in subst (λ (d : ExternalFault). NodeFault (tag ∷ bytes) d) is (other tag 110 bytes t (λ q. omega arith) (λ q. omega arith) refl)
atom_of_err forms.Nil tag bytes e t h = let is : bad_tag ≡ e = cc in subst (λ (d : ExternalFault). NodeFault (tag ∷ bytes) d) is (other tag 106 bytes t (λ q. omega arith) (λ q. omega arith) refl)
atom_of_err forms.String tag bytes e t h = let is : bad_tag ≡ e = cc in subst (λ (d : ExternalFault). NodeFault (tag ∷ bytes) d) is (other tag 107 bytes t (λ q. omega arith) (λ q. omega arith) refl)
atom_of_err forms.List tag bytes e t h = let is : bad_tag ≡ e = cc in subst (λ (d : ExternalFault). NodeFault (tag ∷ bytes) d) is (other tag 108 bytes t (λ q. omega arith) (λ q. omega arith) refl)
atom_of_err forms.SmallTuple tag bytes e t h = let is : bad_tag ≡ e = cc in subst (λ (d : ExternalFault). NodeFault (tag ∷ bytes) d) is (other tag 104 bytes t (λ q. omega arith) (λ q. omega arith) refl)
atom_of_err forms.LargeTuple tag bytes e t h = let is : bad_tag ≡ e = cc in subst (λ (d : ExternalFault). NodeFault (tag ∷ bytes) d) is (other tag 105 bytes t (λ q. omega arith) (λ q. omega arith) refl)
atom_of_err forms.Pid tag bytes e t h = let is : bad_tag ≡ e = cc in subst (λ (d : ExternalFault). NodeFault (tag ∷ bytes) d) is (other tag 88 bytes t (λ q. omega arith) (λ q. omega arith) refl)
atom_of_err forms.Reference tag bytes e t h = let is : bad_tag ≡ e = cc in subst (λ (d : ExternalFault). NodeFault (tag ∷ bytes) d) is (other tag 90 bytes t (λ q. omega arith) (λ q. omega arith) refl)

atom_err : (bytes : List ℕ) (e : ExternalFault) → external_atom_at bytes ≡ Err e → NodeFault bytes e
unfolding external_atom_at
atom_err bytes e h =
    elim (bind_err (byte_at bytes) (λ tag. atom_of_form (form_of tag.0) tag.1) e h) [
      | inl k ↦
          let c = byte_err bytes e k in
          subst (λ (d : ExternalFault). NodeFault bytes d) c.1 (subst (λ (r : List ℕ). NodeFault r truncated) (sym c.0) node_missing)
      | inr k ↦
          subst (λ (r : List ℕ). NodeFault r e) (sym (byte_takes bytes k.0.0 k.0.1 k.1)) (atom_of_err (form_of k.0.0) k.0.0 k.0.1 e (tagged k.0.0) k.2)
    ]

-- the numbers after the node
abbrev numbers : List ℕ → List ℕ → Result (TermValue × List ℕ) ExternalFault
numbers node a = big_endian_at w32 a >>= λ id. big_endian_at w32 id.1 >>= λ serial. big_endian_at w32 serial.1 >>= λ creation. Ok (pid_term node id.0 serial.0 creation.0, creation.1)

numbers_err : (node : List ℕ) (a : List ℕ) (e : ExternalFault) → numbers node a ≡ Err e
    → (length a < 12) × (truncated ≡ e)
numbers_err node a e h =
    elim (bind_err (big_endian_at w32 a) (λ id. big_endian_at w32 id.1 >>= λ serial. big_endian_at w32 serial.1 >>= λ creation. Ok (pid_term node id.0 serial.0 creation.0, creation.1)) e h) [
      | inl k ↦ let c = number_err w32 a e k in (omega (arith, c.0), c.1)
      | inr k ↦
          let f = number_takes w32 a k.0.0 k.0.1 k.1 in
          elim (bind_err (big_endian_at w32 k.0.1) (λ serial. big_endian_at w32 serial.1 >>= λ creation. Ok (pid_term node k.0.0 serial.0 creation.0, creation.1)) e k.2) [
            | inl l ↦ let c = number_err w32 k.0.1 e l in (omega (arith, c.0, ap length f.1.parts, length-append f.0 k.0.1, f.1.wide), c.1)
            | inr l ↦
                let g = number_takes w32 k.0.1 l.0.0 l.0.1 l.1 in
                elim (bind_err (big_endian_at w32 l.0.1) (λ creation. Ok (pid_term node k.0.0 l.0.0 creation.0, creation.1)) e l.2) [
                  | inl m ↦
                      let c = number_err w32 l.0.1 e m in
                      (omega (arith, c.0, ap length f.1.parts, length-append f.0 k.0.1, f.1.wide, ap length g.1.parts, length-append g.0 l.0.1, g.1.wide), c.1)
                  | inr m ↦ absurd (cc (m.2))
                ]
          ]
    ]

pid_err : (depth_left : ℕ) (bytes : List ℕ) (e : ExternalFault) → pid_at bytes ≡ Err e → HasFault depth_left (88 ∷ bytes) e
unfolding pid_at
pid_err depth_left bytes e h =
    elim (bind_err (external_atom_at bytes) (λ node. big_endian_at w32 node.1 >>= λ id. big_endian_at w32 id.1 >>= λ serial. big_endian_at w32 serial.1 >>= λ creation. Ok (pid_term node.0 id.0 serial.0 creation.0, creation.1)) e h) [
      | inl k ↦ node_fault depth_left bytes e (atom_err bytes e k)
      | inr k ↦
          let node = atom_takes bytes k.0.0 k.0.1 k.1 in
          let c = numbers_err k.0.0 k.0.1 e k.2 in
          subst (λ (r : List ℕ). HasFault depth_left (88 ∷ r) e) (sym node.parts)
          (subst (λ (d : ExternalFault). HasFault depth_left (88 ∷ (node.front ++ k.0.1)) d) c.1 (pid_cut depth_left node.front k.0.0 k.0.1 node.spelled c.0))
    ]

-- ---- references

words_err : (n : ℕ) (bytes : List ℕ) (e : ExternalFault) → words_at n bytes ≡ Err e → (length bytes < 4 * n) × (truncated ≡ e)
unfolding words_at
words_err zero bytes e h = absurd cc
words_err (suc n) bytes e h =
    elim (bind_err (big_endian_at w32 bytes) (λ word. words_at n word.1 >>= λ others. Ok (word.0 ∷ others.0, others.1)) e h) [
      | inl k ↦ let c = number_err w32 bytes e k in (omega (arith, c.0), c.1)
      | inr k ↦
          let f = number_takes w32 bytes k.0.0 k.0.1 k.1 in
          elim (bind_err (words_at n k.0.1) (λ others. Ok (k.0.0 ∷ others.0, others.1)) e k.2) [
            | inl l ↦ let c = words_err n k.0.1 e l in (omega (arith, c.0, ap length f.1.parts, length-append f.0 k.0.1, f.1.wide), c.1)
            | inr l ↦ absurd (cc (l.2))
          ]
    ]

-- the creation and the words after the node
abbrev identity : ℕ → List ℕ → List ℕ → Result (TermValue × List ℕ) ExternalFault
identity count node a = big_endian_at w32 a >>= λ creation. words_at count creation.1 >>= λ words. Ok (reference_term node creation.0 words.0, words.1)

identity_err : (count : ℕ) (node a : List ℕ) (e : ExternalFault) → identity count node a ≡ Err e → (length a < 4 + 4 * count) × (truncated ≡ e)
identity_err count node a e h =
    elim (bind_err (big_endian_at w32 a) (λ creation. words_at count creation.1 >>= λ words. Ok (reference_term node creation.0 words.0, words.1)) e h) [
      | inl k ↦ let c = number_err w32 a e k in (omega (arith, c.0), c.1)
      | inr k ↦
          let f = number_takes w32 a k.0.0 k.0.1 k.1 in
          elim (bind_err (words_at count k.0.1) (λ words. Ok (reference_term node k.0.0 words.0, words.1)) e k.2) [
            | inl l ↦ let c = words_err count k.0.1 e l in (omega (arith, c.0, ap length f.1.parts, length-append f.0 k.0.1, f.1.wide), c.1)
            | inr l ↦ absurd (cc (l.2))
          ]
    ]

-- a count of words that isn't read
outside : (n : ℕ) → (ltb 0 n && ltb n 6) ≡ false → (n ≡ 0) ⊎ (5 < n)
outside n h = by (ltb 0 n) (ltb n 6) refl refl h
  where
    by : (a b : Bool) → ltb 0 n ≡ a → ltb n 6 ≡ b → (a && b) ≡ false → (n ≡ 0) ⊎ (5 < n)
    by true true p q k = absurd cc
    by true false p q k = inr (omega (arith, ltb-false _ _ q))
    by false b p q k = inl (omega (arith, ltb-false _ _ p))

counted_err : (depth_left n : ℕ) (field bytes : List ℕ) (e : ExternalFault) → IsHalf field n → (b : Bool) → (ltb 0 n && ltb n 6) ≡ b → cond b (counted_at n bytes) (Err out_of_profile) ≡ Err e
    → HasFault depth_left (90 ∷ (field ++ bytes)) e
counted_err depth_left n field bytes e half false test h =
    let is : out_of_profile ≡ e = cc in
    subst (λ (d : ExternalFault). HasFault depth_left (90 ∷ (field ++ bytes)) d) is (reference_left_out depth_left n field bytes half (outside n test))
counted_err depth_left n field bytes e half true test h =
    let within = is_within n test in
    elim (bind_err (external_atom_at bytes) (λ node. identity n node.0 node.1) e h) [
      | inl k ↦ reference_node depth_left n field bytes e half within.0 (omega (arith, within.1)) (atom_err bytes e k)
      | inr k ↦
          let node = atom_takes bytes k.0.0 k.0.1 k.1 in
          let c = identity_err n k.0.0 k.0.1 e k.2 in
          subst (λ (r : List ℕ). HasFault depth_left (90 ∷ (field ++ r)) e) (sym node.parts)
          (subst (λ (d : ExternalFault). HasFault depth_left (90 ∷ (field ++ (node.front ++ k.0.1))) d) c.1
          (subst (λ (r : List ℕ). HasFault depth_left (90 ∷ r) truncated) (append_assoc field node.front k.0.1)
          (reference_cut depth_left n field node.front k.0.0 k.0.1 half within.0 (omega (arith, within.1)) node.spelled c.0)))
    ]

reference_err : (depth_left : ℕ) (bytes : List ℕ) (e : ExternalFault) → reference_at bytes ≡ Err e → HasFault depth_left (90 ∷ bytes) e
unfolding reference_at
reference_err depth_left bytes e h =
    elim (bind_err (big_endian_at w16 bytes) (λ count. cond (ltb 0 count.0 && ltb count.0 6) (counted_at count.0 count.1) (Err out_of_profile)) e h) [
      | inl k ↦ let c = number_err w16 bytes e k in subst (λ (d : ExternalFault). HasFault depth_left (90 ∷ bytes) d) c.1 (field_cut depth_left 90 2 bytes count_of_reference c.0)
      | inr k ↦
          let f = number_takes w16 bytes k.0.0 k.0.1 k.1 in
          let half : IsHalf f.0 k.0.0 = record { wide = f.1.wide; value = f.2 } in
          subst (λ (r : List ℕ). HasFault depth_left (90 ∷ r) e) (sym f.1.parts) (counted_err depth_left k.0.0 f.0 k.0.1 e half (ltb 0 k.0.0 && ltb k.0.0 6) refl k.2)
    ]

-- ---- integers

not_small : (sign n : ℕ) → sign ≤ 1 → greatest sign < n → IsSigned sign n (signed sign n) × (¬ (IsSmall (signed sign n)))
not_small zero n h k = (plus_sign n, λ small. omega (arith, ints, small.0, small.1, k))
not_small (suc zero) n h k = (minus_sign n, λ small. omega (arith, ints, small.0, small.1, k))
not_small (suc (suc s)) n h k = absurd (omega arith)

-- the digits, after count and sign
abbrev digits_at : ℕ → ℕ → List ℕ → Result (ℤ × List ℕ) ExternalFault
digits_at count sign r = bytes_at count r >>= λ digits. cond (ltb (greatest sign) (little digits.0)) (Err integer_too_large) (Ok (signed sign (little digits.0), digits.1))

digits_err : (depth_left count sign : ℕ) (r : List ℕ) (e : ExternalFault) → sign ≤ 1 → digits_at count sign r ≡ Err e → HasFault depth_left (110 ∷ count ∷ sign ∷ r) e
digits_err depth_left count sign r e s h =
    elim (bind_err (bytes_at count r) (λ digits. cond (ltb (greatest sign) (little digits.0)) (Err integer_too_large) (Ok (signed sign (little digits.0), digits.1))) e h) [
      | inl k ↦ let c = bytes_err count r e k in subst (λ (d : ExternalFault). HasFault depth_left (110 ∷ count ∷ sign ∷ r) d) c.1 (digits_cut depth_left count sign r c.0)
      | inr k ↦
          let f = bytes_takes count r k.0.0 k.0.1 k.1 in
          elim (guard_err (ltb (greatest sign) (little k.0.0)) integer_too_large e (Ok (signed sign (little k.0.0), k.0.1)) k.2) [
            | inl l ↦
                let z = not_small sign (little k.0.0) s (ltb-true _ _ l.0) in
                let large : HasFault depth_left (110 ∷ length k.0.0 ∷ sign ∷ (k.0.0 ++ k.0.1)) integer_too_large = integer_large depth_left sign k.0.0 k.0.1 (signed sign (little k.0.0)) z.0 z.1 in
                subst (λ (d : ExternalFault). HasFault depth_left (110 ∷ count ∷ sign ∷ r) d) l.1
                (subst (λ (xs : List ℕ). HasFault depth_left (110 ∷ count ∷ sign ∷ xs) integer_too_large) (sym f.parts) (subst (λ (n : ℕ). HasFault depth_left (110 ∷ n ∷ sign ∷ (k.0.0 ++ k.0.1)) integer_too_large) f.wide large))
            | inr l ↦ absurd (cc (l.1))
          ]
    ]

sign_err : (depth_left count sign : ℕ) (r : List ℕ) (e : ExternalFault) → cond (ltb 1 sign) (Err bad_tag) (digits_at count sign r) ≡ Err e → HasFault depth_left (110 ∷ count ∷ sign ∷ r) e
sign_err depth_left count sign r e h =
    elim (guard_err (ltb 1 sign) bad_tag e (digits_at count sign r) h) [
      | inl k ↦ subst (λ (d : ExternalFault). HasFault depth_left (110 ∷ count ∷ sign ∷ r) d) k.1 (sign_bad depth_left count sign r (ltb-true _ _ k.0))
      | inr k ↦ digits_err depth_left count sign r e (ltb-false _ _ k.0) k.1
    ]

big_err : (depth_left : ℕ) (bytes : List ℕ) (e : ExternalFault) → big_at bytes ≡ Err e → HasFault depth_left (110 ∷ bytes) e
unfolding big_at
big_err depth_left bytes e h =
    elim (bind_err (byte_at bytes) (λ count. byte_at count.1 >>= λ sign. cond (ltb 1 sign.0) (Err bad_tag) (digits_at count.0 sign.0 sign.1)) e h) [
      | inl k ↦ let c = byte_err bytes e k in subst (λ (d : ExternalFault). HasFault depth_left (110 ∷ bytes) d) c.1 (field_cut depth_left 110 1 bytes count_of_big (omega (arith, ap length c.0)))
      | inr k ↦
          let one = byte_takes bytes k.0.0 k.0.1 k.1 in
          elim (bind_err (byte_at k.0.1) (λ sign. cond (ltb 1 sign.0) (Err bad_tag) (digits_at k.0.0 sign.0 sign.1)) e k.2) [
            | inl l ↦
                let c = byte_err k.0.1 e l in
                subst (λ (d : ExternalFault). HasFault depth_left (110 ∷ bytes) d) c.1 (field_cut depth_left 110 2 bytes sign_of_big (omega (arith, ap length one, ap length c.0)))
            | inr l ↦
                let two = byte_takes k.0.1 l.0.0 l.0.1 l.1 in
                let whole : bytes ≡ k.0.0 ∷ l.0.0 ∷ l.0.1 = one ∙ ap (λ (r : List ℕ). k.0.0 ∷ r) two in
                subst (λ (r : List ℕ). HasFault depth_left (110 ∷ r) e) (sym whole) (sign_err depth_left k.0.0 l.0.0 l.0.1 e l.2)
          ]
    ]

-- ---- terms without parts

-- the forms that have no parts
abbrev IsLeaf : Form → Type 0
IsLeaf forms.String = ⊥
IsLeaf forms.List = ⊥
IsLeaf forms.SmallTuple = ⊥
IsLeaf forms.LargeTuple = ⊥
IsLeaf form = Unit {0}

leaf_err : (depth_left : ℕ) (form : Form) (tag : ℕ) (bytes : List ℕ) (e : ExternalFault) → IsLeaf form → Tagged form tag → leaf_at form bytes ≡ Err e → HasFault depth_left (tag ∷ bytes) e
unfolding leaf_at
leaf_err depth_left forms.SmallInteger tag bytes e i t h =
    elim (bind_err (byte_at bytes) (λ n. Ok (int_term (pos n.0), n.1)) e h) [
      | inl k ↦
          let c = byte_err bytes e k in
          subst (λ (m : ℕ). HasFault depth_left (m ∷ bytes) e) (sym t) (subst (λ (d : ExternalFault). HasFault depth_left (97 ∷ bytes) d) c.1 (field_cut depth_left 97 1 bytes byte_of_integer (omega (arith, ap length c.0))))
      | inr k ↦ absurd (cc (k.2))
    ]
leaf_err depth_left forms.Integer tag bytes e i t h =
    elim (bind_err (big_endian_at w32 bytes) (λ n. Ok (int_term (cast_signed w32 n.0), n.1)) e h) [
      | inl k ↦
          let c = number_err w32 bytes e k in
          subst (λ (m : ℕ). HasFault depth_left (m ∷ bytes) e) (sym t) (subst (λ (d : ExternalFault). HasFault depth_left (98 ∷ bytes) d) c.1 (field_cut depth_left 98 4 bytes word_of_integer c.0))
      | inr k ↦ absurd (cc (k.2))
    ]
leaf_err depth_left forms.SmallBig tag bytes e i t h =
    elim (bind_err (big_at bytes) (λ n. Ok (int_term n.0, n.1)) e h) [
      | inl k ↦ subst (λ (m : ℕ). HasFault depth_left (m ∷ bytes) e) (sym t) (big_err depth_left bytes e k)
      | inr k ↦ absurd (cc (k.2))
    ]
leaf_err depth_left forms.Nil tag bytes e i t h = absurd cc
leaf_err depth_left forms.SmallAtom tag bytes e i t h =
    elim (bind_err (small_atom_at bytes) (λ text. Ok (atom_term text.0, text.1)) e h) [
      | inl k ↦ subst (λ (m : ℕ). HasFault depth_left (m ∷ bytes) e) (sym t) (atom_fault depth_left (119 ∷ bytes) e (small_atom_err bytes e k))
      | inr k ↦ absurd (cc (k.2))
    ]
leaf_err depth_left forms.LongAtom tag bytes e i t h =
    elim (bind_err (long_atom_at bytes) (λ text. Ok (atom_term text.0, text.1)) e h) [
      | inl k ↦ subst (λ (m : ℕ). HasFault depth_left (m ∷ bytes) e) (sym t) (atom_fault depth_left (118 ∷ bytes) e (long_atom_err bytes e k))
      | inr k ↦ absurd (cc (k.2))
    ]
leaf_err depth_left forms.Pid tag bytes e i t h = subst (λ (m : ℕ). HasFault depth_left (m ∷ bytes) e) (sym t) (pid_err depth_left bytes e h)
leaf_err depth_left forms.Reference tag bytes e i t h = subst (λ (m : ℕ). HasFault depth_left (m ∷ bytes) e) (sym t) (reference_err depth_left bytes e h)
leaf_err depth_left forms.LeftOut tag bytes e i t h = let is : out_of_profile ≡ e = cc in subst (λ (d : ExternalFault). HasFault depth_left (tag ∷ bytes) d) is (tag_left_out depth_left tag bytes t)
leaf_err depth_left forms.Unknown tag bytes e i t h = let is : bad_tag ≡ e = cc in subst (λ (d : ExternalFault). HasFault depth_left (tag ∷ bytes) d) is (tag_unknown depth_left tag bytes t)
leaf_err depth_left forms.String tag bytes e i t h = absurd i
leaf_err depth_left forms.List tag bytes e i t h = absurd i
leaf_err depth_left forms.SmallTuple tag bytes e i t h = absurd i
leaf_err depth_left forms.LargeTuple tag bytes e i t h = absurd i

-- ---- terms with parts

tail_fault : (depth_left n : ℕ) (bytes : List ℕ) (f : ExternalFault) → ListFault depth_left n bytes f → n ≡ 0 → HasFault depth_left bytes f
tail_fault _ _ _ _ (this_element depth_left n bytes f h) e = absurd (omega arith)
tail_fault _ _ _ _ (later_element depth_left n first rest x f s h) e = absurd (omega arith)
tail_fault _ _ _ _ (no_depth_left n bytes) e = absurd (omega arith)
tail_fault _ _ _ _ (in_tail depth_left bytes f h) e = h

-- what is known of the reading of the parts
record Inside (depth_left : ℕ) (inner : Inner) : Type 0 where
  faults : (n : ℕ) (bytes : List ℕ) (e : ExternalFault) → inner n bytes ≡ Err e → ListFault depth_left n bytes e
  terms : (bytes : List ℕ) (t : TermValue) (rest : List ℕ) → inner 0 bytes ≡ Ok (t, rest) → Taken depth_left bytes t rest

abbrev Deep : ℕ → Inner → Type 0
Deep depth_left inner = (part : ℕ) → depth_left ≡ suc part → Inside part inner

pair_err : (depth_left : ℕ) (inner : Inner) → Inside depth_left inner → (n : ℕ) (bytes : List ℕ) (e : ExternalFault) → pair_at inner n bytes ≡ Err e → ListFault (suc depth_left) (suc n) bytes e
unfolding pair_at
pair_err depth_left inner inside n bytes e h =
    elim (bind_err (inner 0 bytes) (λ head. inner n head.1 >>= λ last. Ok (pair_term head.0 last.0, last.1)) e h) [
      | inl k ↦ this_element depth_left n bytes e (tail_fault depth_left 0 bytes e (inside.faults 0 bytes e k) refl)
      | inr k ↦
          let x = inside.terms bytes k.0.0 k.0.1 k.1 in
          elim (bind_err (inner n k.0.1) (λ last. Ok (pair_term k.0.0 last.0, last.1)) e k.2) [
            | inl l ↦
                subst (λ (r : List ℕ). ListFault (suc depth_left) (suc n) r e) (sym x.parts)
                (later_element depth_left n x.front k.0.1 k.0.0 e x.spelled (inside.faults n k.0.1 e l))
            | inr l ↦ absurd (cc (l.2))
          ]
    ]

items_err : (depth_left : ℕ) (inner : Inner) → Inside depth_left inner → (n : ℕ) (bytes : List ℕ) (e : ExternalFault) → items_at (inner 0) n bytes ≡ Err e → ItemsFault depth_left n bytes e
unfolding items_at
items_err depth_left inner inside zero bytes e h = absurd cc
items_err depth_left inner inside (suc n) bytes e h =
    elim (bind_err (inner 0 bytes) (λ first. items_at (inner 0) n first.1 >>= λ others. Ok (first.0 ∷ others.0, others.1)) e h) [
      | inl k ↦ this_item depth_left n bytes e (tail_fault depth_left 0 bytes e (inside.faults 0 bytes e k) refl)
      | inr k ↦
          let x = inside.terms bytes k.0.0 k.0.1 k.1 in
          elim (bind_err (items_at (inner 0) n k.0.1) (λ others. Ok (k.0.0 ∷ others.0, others.1)) e k.2) [
            | inl l ↦
                subst (λ (r : List ℕ). ItemsFault depth_left (suc n) r e) (sym x.parts)
                (later_item depth_left n x.front k.0.1 k.0.0 e x.spelled (items_err depth_left inner inside n k.0.1 e l))
            | inr l ↦ absurd (cc (l.2))
          ]
    ]

string_err : (depth_left : ℕ) (bytes : List ℕ) (e : ExternalFault) → external_string_at depth_left bytes ≡ Err e → HasFault depth_left (107 ∷ bytes) e
unfolding external_string_at
string_err depth_left bytes e h =
    elim (bind_err (big_endian_at w16 bytes) (λ count. cond (ltb depth_left count.0) (Err too_deep) (bytes_at count.0 count.1 >>= λ text. Ok (text_list text.0, text.1))) e h) [
      | inl k ↦ let c = number_err w16 bytes e k in subst (λ (d : ExternalFault). HasFault depth_left (107 ∷ bytes) d) c.1 (field_cut depth_left 107 2 bytes count_of_string c.0)
      | inr k ↦
          let f = number_takes w16 bytes k.0.0 k.0.1 k.1 in
          let half : IsHalf f.0 k.0.0 = record { wide = f.1.wide; value = f.2 } in
          elim (guard_err (ltb depth_left k.0.0) too_deep e (bytes_at k.0.0 k.0.1 >>= λ text. Ok (text_list text.0, text.1)) k.2) [
            | inl l ↦
                subst (λ (d : ExternalFault). HasFault depth_left (107 ∷ bytes) d) l.1
                (subst (λ (r : List ℕ). HasFault depth_left (107 ∷ r) too_deep) (sym f.1.parts) (string_deep depth_left k.0.0 f.0 k.0.1 half (ltb-true _ _ l.0)))
            | inr l ↦
                elim (bind_err (bytes_at k.0.0 k.0.1) (λ text. Ok (text_list text.0, text.1)) e l.1) [
                  | inl m ↦
                      let c = bytes_err k.0.0 k.0.1 e m in
                      subst (λ (d : ExternalFault). HasFault depth_left (107 ∷ bytes) d) c.1
                      (subst (λ (r : List ℕ). HasFault depth_left (107 ∷ r) truncated) (sym f.1.parts) (string_cut depth_left k.0.0 f.0 k.0.1 half c.0))
                  | inr m ↦ absurd (cc (m.2))
                ]
          ]
    ]

list_err : (depth_left : ℕ) (inner : Inner) → Deep depth_left inner → (count : ℕ) (bytes : List ℕ) (e : ExternalFault) → 1 ≤ count → external_list_at inner depth_left count bytes ≡ Err e
    → ((depth_left < count) × (too_deep ≡ e)) ⊎ ListFault depth_left count bytes e
unfolding external_list_at
list_err depth_left inner deep zero bytes e some h = absurd (omega arith)
list_err zero inner deep (suc n) bytes e some h =
    elim (guard_err (ltb 0 (suc n)) too_deep e (pair_at inner n bytes) h) [
      | inl k ↦ inl (omega arith, k.1)
      | inr k ↦ let no : suc n ≤ 0 = ltb-false _ _ k.0 in absurd (omega arith)
    ]
list_err (suc depth_left) inner deep (suc n) bytes e some h =
    elim (guard_err (ltb (suc depth_left) (suc n)) too_deep e (pair_at inner n bytes) h) [
      | inl k ↦ inl (ltb-true _ _ k.0, k.1)
      | inr k ↦ inr (pair_err depth_left inner (deep depth_left refl) n bytes e k.1)
    ]

tuple_err : (depth_left : ℕ) (inner : Inner) → Deep depth_left inner → (count : ℕ) (bytes : List ℕ) (e : ExternalFault) → external_tuple_at inner depth_left count bytes ≡ Err e
    → ((depth_left ≡ 0) × (too_deep ≡ e)) ⊎ ((part : ℕ) × (depth_left ≡ suc part) × ItemsFault part count bytes e)
unfolding external_tuple_at
tuple_err zero inner deep count bytes e h = inl (refl, cc)
tuple_err (suc depth_left) inner deep count bytes e h =
    elim (guard_err (eqb (suc depth_left) 0) too_deep e (items_at (inner 0) count bytes >>= λ items. Ok (tuple_of items.0, items.1)) h) [
      | inl k ↦ let no : suc depth_left ≡ 0 = eqb-true _ _ k.0 in absurd (omega arith)
      | inr k ↦
          elim (bind_err (items_at (inner 0) count bytes) (λ items. Ok (tuple_of items.0, items.1)) e k.1) [
            | inl l ↦ inr (depth_left, refl, items_err depth_left inner (deep depth_left refl) count bytes e l)
            | inr l ↦ absurd (cc (l.2))
          ]
    ]

-- a list that is read has elements
abbrev NotEmpty : ℕ → List ℕ → Type 0
NotEmpty tag bytes = (n : ℕ) (after : List ℕ) → tag ≡ 108 → big_endian_at w32 bytes ≡ Ok (n, after) → 1 ≤ n

list_form_err : (depth_left : ℕ) (inner : Inner) → Deep depth_left inner → (bytes : List ℕ) (e : ExternalFault) → NotEmpty 108 bytes → term_of_form inner depth_left forms.List bytes ≡ Err e → HasFault depth_left (108 ∷ bytes) e
unfolding term_of_form
list_form_err depth_left inner deep bytes e some h =
    elim (bind_err (big_endian_at w32 bytes) (λ count. external_list_at inner depth_left count.0 count.1) e h) [
      | inl k ↦ let c = number_err w32 bytes e k in subst (λ (d : ExternalFault). HasFault depth_left (108 ∷ bytes) d) c.1 (field_cut depth_left 108 4 bytes count_of_list c.0)
      | inr k ↦
          let f = number_takes w32 bytes k.0.0 k.0.1 k.1 in
          let word : IsWord f.0 k.0.0 = record { wide = f.1.wide; value = f.2 } in
          subst (λ (r : List ℕ). HasFault depth_left (108 ∷ r) e) (sym f.1.parts)
          (elim (list_err depth_left inner deep k.0.0 k.0.1 e (some k.0.0 k.0.1 refl k.1) k.2) [
            | inl l ↦ subst (λ (d : ExternalFault). HasFault depth_left (108 ∷ (f.0 ++ k.0.1)) d) l.1 (list_deep depth_left k.0.0 f.0 k.0.1 word l.0)
            | inr l ↦ list_fault depth_left k.0.0 f.0 k.0.1 e word l
          ])
    ]

small_tuple_err : (depth_left : ℕ) (inner : Inner) → Deep depth_left inner → (bytes : List ℕ) (e : ExternalFault) → term_of_form inner depth_left forms.SmallTuple bytes ≡ Err e → HasFault depth_left (104 ∷ bytes) e
unfolding term_of_form
small_tuple_err depth_left inner deep bytes e h =
    elim (bind_err (byte_at bytes) (λ count. external_tuple_at inner depth_left count.0 count.1) e h) [
      | inl k ↦ let c = byte_err bytes e k in subst (λ (d : ExternalFault). HasFault depth_left (104 ∷ bytes) d) c.1 (field_cut depth_left 104 1 bytes count_of_small_tuple (omega (arith, ap length c.0)))
      | inr k ↦
          subst (λ (r : List ℕ). HasFault depth_left (104 ∷ r) e) (sym (byte_takes bytes k.0.0 k.0.1 k.1))
          (elim (tuple_err depth_left inner deep k.0.0 k.0.1 e k.2) [
            | inl l ↦
                subst (λ (d : ExternalFault). HasFault depth_left (104 ∷ k.0.0 ∷ k.0.1) d) l.1
                (subst (λ (m : ℕ). HasFault m (104 ∷ k.0.0 ∷ k.0.1) too_deep) (sym l.0) (small_tuple_deep k.0.0 k.0.1))
            | inr l ↦ subst (λ (m : ℕ). HasFault m (104 ∷ k.0.0 ∷ k.0.1) e) (sym l.1) (small_tuple_fault l.0 k.0.0 k.0.1 e l.2)
          ])
    ]

large_tuple_err : (depth_left : ℕ) (inner : Inner) → Deep depth_left inner → (bytes : List ℕ) (e : ExternalFault) → term_of_form inner depth_left forms.LargeTuple bytes ≡ Err e → HasFault depth_left (105 ∷ bytes) e
unfolding term_of_form
large_tuple_err depth_left inner deep bytes e h =
    elim (bind_err (big_endian_at w32 bytes) (λ count. external_tuple_at inner depth_left count.0 count.1) e h) [
      | inl k ↦ let c = number_err w32 bytes e k in subst (λ (d : ExternalFault). HasFault depth_left (105 ∷ bytes) d) c.1 (field_cut depth_left 105 4 bytes count_of_large_tuple c.0)
      | inr k ↦
          let f = number_takes w32 bytes k.0.0 k.0.1 k.1 in
          let word : IsWord f.0 k.0.0 = record { wide = f.1.wide; value = f.2 } in
          subst (λ (r : List ℕ). HasFault depth_left (105 ∷ r) e) (sym f.1.parts)
          (elim (tuple_err depth_left inner deep k.0.0 k.0.1 e k.2) [
            | inl l ↦
                subst (λ (d : ExternalFault). HasFault depth_left (105 ∷ (f.0 ++ k.0.1)) d) l.1
                (subst (λ (m : ℕ). HasFault m (105 ∷ (f.0 ++ k.0.1)) too_deep) (sym l.0) (large_tuple_deep k.0.0 f.0 k.0.1 word))
            | inr l ↦ subst (λ (m : ℕ). HasFault m (105 ∷ (f.0 ++ k.0.1)) e) (sym l.1) (large_tuple_fault l.0 k.0.0 f.0 k.0.1 e word l.2)
          ])
    ]

form_err : (depth_left : ℕ) (inner : Inner) → Deep depth_left inner → (form : Form) (tag : ℕ) (bytes : List ℕ) (e : ExternalFault) → Tagged form tag → NotEmpty tag bytes → term_of_form inner depth_left form bytes ≡ Err e → HasFault depth_left (tag ∷ bytes) e
unfolding term_of_form
form_err depth_left inner deep forms.String tag bytes e t some h = subst (λ (m : ℕ). HasFault depth_left (m ∷ bytes) e) (sym t) (string_err depth_left bytes e h)
form_err depth_left inner deep forms.List tag bytes e t some h =
    subst (λ (m : ℕ). HasFault depth_left (m ∷ bytes) e) (sym t) (list_form_err depth_left inner deep bytes e (λ n after q. some n after t) h)
form_err depth_left inner deep forms.SmallTuple tag bytes e t some h = subst (λ (m : ℕ). HasFault depth_left (m ∷ bytes) e) (sym t) (small_tuple_err depth_left inner deep bytes e h)
form_err depth_left inner deep forms.LargeTuple tag bytes e t some h = subst (λ (m : ℕ). HasFault depth_left (m ∷ bytes) e) (sym t) (large_tuple_err depth_left inner deep bytes e h)
form_err depth_left inner deep forms.SmallInteger tag bytes e t some h = leaf_err depth_left forms.SmallInteger tag bytes e tt t h
form_err depth_left inner deep forms.Integer tag bytes e t some h = leaf_err depth_left forms.Integer tag bytes e tt t h
form_err depth_left inner deep forms.SmallBig tag bytes e t some h = leaf_err depth_left forms.SmallBig tag bytes e tt t h
form_err depth_left inner deep forms.Nil tag bytes e t some h = leaf_err depth_left forms.Nil tag bytes e tt t h
form_err depth_left inner deep forms.SmallAtom tag bytes e t some h = leaf_err depth_left forms.SmallAtom tag bytes e tt t h
form_err depth_left inner deep forms.LongAtom tag bytes e t some h = leaf_err depth_left forms.LongAtom tag bytes e tt t h
form_err depth_left inner deep forms.Pid tag bytes e t some h = leaf_err depth_left forms.Pid tag bytes e tt t h
form_err depth_left inner deep forms.Reference tag bytes e t some h = leaf_err depth_left forms.Reference tag bytes e tt t h
form_err depth_left inner deep forms.LeftOut tag bytes e t some h = leaf_err depth_left forms.LeftOut tag bytes e tt t h
form_err depth_left inner deep forms.Unknown tag bytes e t some h = leaf_err depth_left forms.Unknown tag bytes e tt t h

-- lists of no elements before a fault
passed : (depth_left : ℕ) (bytes : List ℕ) (f : ExternalFault) → HasFault depth_left (after_empty_lists bytes) f → HasFault depth_left bytes f
unfolding after_empty_lists
passed depth_left [] f x = x
passed depth_left (a ∷ []) f x = x
passed depth_left (a ∷ b ∷ []) f x = x
passed depth_left (a ∷ b ∷ c ∷ []) f x = x
passed depth_left (a ∷ b ∷ c ∷ d ∷ []) f x = x
passed depth_left (a ∷ b ∷ c ∷ d ∷ e ∷ others) f x = by (passed depth_left others f) (starts_with nat_eq (a ∷ b ∷ c ∷ d ∷ e ∷ others) empty_list) refl x
  where
    by : (HasFault depth_left (after_empty_lists others) f → HasFault depth_left others f) → (test : Bool) → starts_with nat_eq (a ∷ b ∷ c ∷ d ∷ e ∷ others) empty_list ≡ test
        → HasFault depth_left (cond test (after_empty_lists others) (a ∷ b ∷ c ∷ d ∷ e ∷ others)) f → HasFault depth_left (a ∷ b ∷ c ∷ d ∷ e ∷ others) f
    by behind_it true h y =
        let same : empty_list ≡ a ∷ b ∷ c ∷ d ∷ e ∷ [] = (bytes_decides empty_list (a ∷ b ∷ c ∷ d ∷ e ∷ [])).0 h in
        subst (λ (front : List ℕ). HasFault depth_left (front ++ others) f) same
        (list_fault depth_left 0 (0 ∷ 0 ∷ 0 ∷ 0 ∷ []) others f (record { wide = refl; value = refl }) (in_tail depth_left others f (behind_it y)))
    by behind_it false h y = y

whole_err : (depth_left : ℕ) (inner : Inner) → Deep depth_left inner → (bytes : List ℕ) (e : ExternalFault) → whole_at inner depth_left bytes ≡ Err e → HasFault depth_left bytes e
unfolding whole_at
whole_err depth_left inner deep bytes e h =
    passed depth_left bytes e
    (elim (bind_err (byte_at (after_empty_lists bytes)) (λ tag. term_of_form inner depth_left (form_of tag.0) tag.1) e h) [
      | inl k ↦
          let c = byte_err (after_empty_lists bytes) e k in
          subst (λ (d : ExternalFault). HasFault depth_left (after_empty_lists bytes) d) c.1 (subst (λ (r : List ℕ). HasFault depth_left r truncated) (sym c.0) (tag_missing depth_left))
      | inr k ↦
          subst (λ (r : List ℕ). HasFault depth_left r e) (sym (byte_takes (after_empty_lists bytes) k.0.0 k.0.1 k.1))
          (form_err depth_left inner deep (form_of k.0.0) k.0.0 k.0.1 e (tagged k.0.0) (λ n after is read. no_empty bytes k.0.1 after k.0.0 n k.1 is read) k.2)
    ])

read_err : (depth_left n : ℕ) (bytes : List ℕ) (e : ExternalFault) → read_at depth_left n bytes ≡ Err e → ListFault depth_left n bytes e
unfolding read_at
read_err zero zero bytes e h = in_tail 0 bytes e (whole_err 0 (λ n rest. Err too_deep) (λ part k. absurd (omega arith)) bytes e h)
read_err zero (suc n) bytes e h = let is : too_deep ≡ e = cc in subst (λ (d : ExternalFault). ListFault 0 (suc n) bytes d) is (no_depth_left n bytes)
read_err (suc depth_left) zero bytes e h =
    in_tail (suc depth_left) bytes e
    (whole_err (suc depth_left) (read_at depth_left) (λ part k. let same : depth_left ≡ part = omega arith in subst (λ (p : ℕ). Inside p (read_at depth_left)) same (record { faults = read_err depth_left; terms = term_takes depth_left })) bytes e h)
read_err (suc depth_left) (suc n) bytes e h = pair_err depth_left (read_at depth_left) (record { faults = read_err depth_left; terms = term_takes depth_left }) n bytes e h

pub external_err : (bytes : List ℕ) (e : ExternalFault) → external_at bytes ≡ Err e → HasExternalFault bytes e
unfolding external_at
external_err bytes e h =
    elim (bind_err (byte_at bytes) (λ version. cond (eqb version.0 131) (read_at 4096 0 version.1) (Err bad_tag)) e h) [
      | inl k ↦
          let c = byte_err bytes e k in
          subst (λ (d : ExternalFault). HasExternalFault bytes d) c.1 (subst (λ (r : List ℕ). HasExternalFault r truncated) (sym c.0) version_missing)
      | inr k ↦
          subst (λ (r : List ℕ). HasExternalFault r e) (sym (byte_takes bytes k.0.0 k.0.1 k.1)) (by k.0.0 k.0.1 (eqb k.0.0 131) refl k.2)
    ]
  where
    by : (version : ℕ) (rest : List ℕ) (b : Bool) → eqb version 131 ≡ b → cond b (read_at 4096 0 rest) (Err bad_tag) ≡ Err e → HasExternalFault (version ∷ rest) e
    by version rest true v h =
        subst (λ (n : ℕ). HasExternalFault (n ∷ rest) e) (sym (eqb-true version 131 v))
        (after_version rest e (tail_fault 4096 0 rest e (read_err 4096 0 rest e h) refl))
    by version rest false v h =
        let is : bad_tag ≡ e = cc in
        subst (λ (d : ExternalFault). HasExternalFault (version ∷ rest) d) is (version_bad version rest (λ q. let both = sym v ∙ eq-eqb version 131 q in cc))
