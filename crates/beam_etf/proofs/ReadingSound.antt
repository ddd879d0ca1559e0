-- The bytes spell the term that is read, and the term is no deeper than its room.
use Rattle.std.proofs.Common.{◌≡◌, ℕ, zero, suc, ◌≤◌, Bool, true, false, cond, ltb, ◌&&◌, List, [], ◌∷◌, ◌++◌, length, take, drop, Result, Ok, Err, refl, sym, ap, subst, ◌∙◌, append_assoc, arith, ℤ, pos, ltb-true, ltb-false, take-append-drop, length-take}
use Rattle.std.specs.Int.{Width, byte_len, from_be_bytes, cast_signed, w16, w32}
use Rattle.std.specs.Str.{is_utf8, chars}
use Rattle.std.proofs.lemmas.Str.{IsUtf8-from_is_utf8}
use Rattle.std.proofs.lemmas.Int.{ints}
use Rattle.beam_lemmas.proofs.Steps.{bind_ok, guard_true, guard_false}
use Rattle.beam_model.specs.Prelude.{little, IsSigned, plus_sign, minus_sign, SpellsAtom, small_atom_utf8_ext, atom_utf8_ext, AreWords, no_words, one_word, SpellsTerm, small_integer_ext, integer_ext, small_big_ext, nil_ext, utf8_atom, new_pid_ext, newer_reference_ext, ExternalFault, bad_tag, out_of_profile, bad_utf8, form_of, bytes_at, big_endian_at, byte_at, text_at, signed, greatest, big_at, small_atom_at, long_atom_at, atom_of_form, external_atom_at, pid_at, words_at, reference_at, leaf_at}
use Rattle.beam_term.specs.Prelude.{IsAtomText, TermValue, int_term, atom_term, reference_term, pid_term, nil_term, depth_of, IsSmall}
use Rattle.beam_model.specs.ExternalFault.{truncated, integer_too_large}
use Rattle.beam_model.specs.declared.external.Form.{Form}
use Rattle.beam_model.specs.declared.external.Form.TheVariants as forms
use Rattle.beam_model.specs.ExternalReading.{◌>>=◌}
use Rattle.beam_etf.proofs.Tags.{Tagged, tagged}

abbrev done : {A : Type 0} → A → Result A ExternalFault
done x = Ok x

pub ok_is : {A : Type 0} (x y : A) → done x ≡ done y → x ≡ y
ok_is x y e = cc

-- ---- fields

pub record Field (bytes front rest : List ℕ) (n : ℕ) : Type 0 where
  pub parts : bytes ≡ front ++ rest
  pub wide : length front ≡ n

pub byte_takes : (bytes : List ℕ) (b : ℕ) (rest : List ℕ) → byte_at bytes ≡ Ok (b, rest) → bytes ≡ b ∷ rest
unfolding byte_at
byte_takes [] b rest e = absurd cc
byte_takes (c ∷ bytes) b rest e =
    let k = ok_is (c, bytes) (b, rest) e in
    λ i. (k i).0 ∷ (k i).1

pub bytes_takes : (n : ℕ) (bytes front rest : List ℕ) → bytes_at n bytes ≡ Ok (front, rest) → Field bytes front rest n
unfolding bytes_at
bytes_takes n bytes front rest e =
    let g = guard_false (ltb (length bytes) n) truncated (Ok (take n bytes, drop n bytes)) (front, rest) e in
    let k = ok_is (take n bytes, drop n bytes) (front, rest) g.1 in
    let long : n ≤ length bytes = ltb-false _ _ g.0 in
    let f : Field bytes (take n bytes) (drop n bytes) n = record { parts = sym (take-append-drop n bytes); wide = omega (arith, length-take n bytes) } in
    subst (λ (p : List ℕ × List ℕ). Field bytes p.0 p.1 n) k f

-- a number, with the bytes that it takes
pub number_takes : (w : Width) (bytes : List ℕ) (n : ℕ) (rest : List ℕ) → big_endian_at w bytes ≡ Ok (n, rest) → (field : List ℕ) × Field bytes field rest (byte_len w) × (from_be_bytes w field ≡ n)
unfolding big_endian_at
number_takes w bytes n rest e =
    let b = bind_ok (bytes_at (byte_len w) bytes) (λ field. Ok (from_be_bytes w field.0, field.1)) (n, rest) e in
    let k = ok_is (from_be_bytes w b.0.0, b.0.1) (n, rest) b.2 in
    let f = bytes_takes (byte_len w) bytes b.0.0 b.0.1 b.1 in
    (b.0.0, subst (λ (r : List ℕ). Field bytes b.0.0 r (byte_len w)) (ap (λ (p : ℕ × List ℕ). p.1) k) f, ap (λ (p : ℕ × List ℕ). p.0) k)

text_takes : (n : ℕ) (bytes text rest : List ℕ) → text_at n bytes ≡ Ok (text, rest) → Field bytes text rest n × IsAtomText text
unfolding text_at
text_takes n bytes text rest e =
    let b = bind_ok (bytes_at n bytes) (λ field. cond (is_utf8 field.0) (cond (ltb 255 (length (chars field.0))) (Err out_of_profile) (Ok field)) (Err bad_utf8)) (text, rest) e in
    let u = guard_true (is_utf8 b.0.0) bad_utf8 (cond (ltb 255 (length (chars b.0.0))) (Err out_of_profile) (Ok b.0)) (text, rest) b.2 in
    let g = guard_false (ltb 255 (length (chars b.0.0))) out_of_profile (Ok b.0) (text, rest) u.1 in
    let k = ok_is b.0 (text, rest) g.1 in
    let f = bytes_takes n bytes b.0.0 b.0.1 b.1 in
    let short : length (chars b.0.0) ≤ 255 = ltb-false _ _ g.0 in
    let a : IsAtomText b.0.0 = record { utf8 = IsUtf8-from_is_utf8 b.0.0 u.0; short = short } in
    subst (λ (p : List ℕ × List ℕ). Field bytes p.0 p.1 n × IsAtomText p.0) k (f, a)

-- ---- terms without parts

-- what was taken from the front: bytes that spell the text of an atom
pub record AtomTaken (bytes text rest : List ℕ) : Type 0 where
  pub front : List ℕ
  pub parts : bytes ≡ front ++ rest
  pub spelled : SpellsAtom front text

-- what was taken from the front: bytes that spell a term, for which there was room
pub record Taken (depth_left : ℕ) (bytes : List ℕ) (t : TermValue) (rest : List ℕ) : Type 0 where
  pub front : List ℕ
  pub parts : bytes ≡ front ++ rest
  pub spelled : SpellsTerm front t
  pub shallow : depth_of t ≤ depth_left

small_atom_takes : (tag : ℕ) → tag ≡ 119 → (bytes text rest : List ℕ) → small_atom_at bytes ≡ Ok (text, rest) → AtomTaken (tag ∷ bytes) text rest
unfolding small_atom_at
small_atom_takes tag is bytes text rest e =
    let b = bind_ok (byte_at bytes) (λ count. text_at count.0 count.1) (text, rest) e in
    let one = byte_takes bytes b.0.0 b.0.1 b.1 in
    let f = text_takes b.0.0 b.0.1 text rest b.2 in
    record {
      front = 119 ∷ length text ∷ text;
      parts = rw (is, one, f.0.wide, ← f.0.parts) refl;
      spelled = small_atom_utf8_ext text f.1;
    }

long_atom_takes : (tag : ℕ) → tag ≡ 118 → (bytes text rest : List ℕ) → long_atom_at bytes ≡ Ok (text, rest) → AtomTaken (tag ∷ bytes) text rest
unfolding long_atom_at
long_atom_takes tag is bytes text rest e =
    let b = bind_ok (big_endian_at w16 bytes) (λ count. text_at count.0 count.1) (text, rest) e in
    let n = number_takes w16 bytes b.0.0 b.0.1 b.1 in
    let f = text_takes b.0.0 b.0.1 text rest b.2 in
    record {
      front = 118 ∷ (n.0 ++ text);
      parts = λ i. is i ∷ (n.1.parts ∙ ap (λ (r : List ℕ). n.0 ++ r) f.0.parts ∙ sym (append_assoc n.0 text rest)) i;
      spelled = atom_utf8_ext n.0 text (record { wide = n.1.wide; value = n.2 ∙ sym f.0.wide }) f.1;
    }

atom_of_takes : (form : Form) (tag : ℕ) (bytes text rest : List ℕ) → Tagged form tag → atom_of_form form bytes ≡ Ok (text, rest) → AtomTaken (tag ∷ bytes) text rest
unfolding atom_of_form
atom_of_takes forms.SmallAtom tag bytes text rest t e = small_atom_takes tag t bytes text rest e
atom_of_takes forms.LongAtom tag bytes text rest t e = long_atom_takes tag t bytes text rest e
atom_of_takes forms.SmallInteger tag bytes text rest t e = absurd cc
atom_of_takes forms.Integer tag bytes text rest t e = absurd cc
atom_of_takes forms.SmallBig tag bytes text rest t e = absurd cc
atom_of_takes forms.Nil tag bytes text rest t e = absurd cc
atom_of_takes forms.String tag bytes text rest t e = absurd cc
atom_of_takes forms.List tag bytes text rest t e = absurd cc
atom_of_takes forms.SmallTuple tag bytes text rest t e = absurd cc
atom_of_takes forms.LargeTuple tag bytes text rest t e = absurd cc
atom_of_takes forms.Pid tag bytes text rest t e = absurd cc
atom_of_takes forms.Reference tag bytes text rest t e = absurd cc
atom_of_takes forms.LeftOut tag bytes text rest t e = absurd cc
atom_of_takes forms.Unknown tag bytes text rest t e = absurd cc

pub atom_takes : (bytes text rest : List ℕ) → external_atom_at bytes ≡ Ok (text, rest) → AtomTaken bytes text rest
unfolding external_atom_at
atom_takes bytes text rest e =
    let b = bind_ok (byte_at bytes) (λ tag. atom_of_form (form_of tag.0) tag.1) (text, rest) e in
    let one = byte_takes bytes b.0.0 b.0.1 b.1 in
    subst (λ (x : List ℕ). AtomTaken x text rest) (sym one) (atom_of_takes (form_of b.0.0) b.0.0 b.0.1 text rest (tagged b.0.0) b.2)

-- a field after the bytes that were taken
abbrev behind : (bytes front middle field rest : List ℕ) → bytes ≡ front ++ middle → middle ≡ field ++ rest → bytes ≡ (front ++ field) ++ rest
behind bytes front middle field rest e f = e ∙ ap (λ (r : List ℕ). front ++ r) f ∙ sym (append_assoc front field rest)

pid_takes : (depth_left : ℕ) (tag : ℕ) → tag ≡ 88 → (bytes : List ℕ) (t : TermValue) (rest : List ℕ) → pid_at bytes ≡ Ok (t, rest) → Taken depth_left (tag ∷ bytes) t rest
unfolding pid_at
pid_takes depth_left tag is bytes t rest e =
    let a = bind_ok (external_atom_at bytes) (λ node. big_endian_at w32 node.1 >>= λ id. big_endian_at w32 id.1 >>= λ serial. big_endian_at w32 serial.1 >>= λ creation. Ok (pid_term node.0 id.0 serial.0 creation.0, creation.1)) (t, rest) e in
    let b = bind_ok (big_endian_at w32 a.0.1) (λ id. big_endian_at w32 id.1 >>= λ serial. big_endian_at w32 serial.1 >>= λ creation. Ok (pid_term a.0.0 id.0 serial.0 creation.0, creation.1)) (t, rest) a.2 in
    let c = bind_ok (big_endian_at w32 b.0.1) (λ serial. big_endian_at w32 serial.1 >>= λ creation. Ok (pid_term a.0.0 b.0.0 serial.0 creation.0, creation.1)) (t, rest) b.2 in
    let d = bind_ok (big_endian_at w32 c.0.1) (λ creation. Ok (pid_term a.0.0 b.0.0 c.0.0 creation.0, creation.1)) (t, rest) c.2 in
    let k = ok_is (pid_term a.0.0 b.0.0 c.0.0 d.0.0, d.0.1) (t, rest) d.2 in
    let node = atom_takes bytes a.0.0 a.0.1 a.1 in
    let id = number_takes w32 a.0.1 b.0.0 b.0.1 b.1 in
    let serial = number_takes w32 b.0.1 c.0.0 c.0.1 c.1 in
    let creation = number_takes w32 c.0.1 d.0.0 d.0.1 d.1 in
    let p1 = behind bytes node.front a.0.1 id.0 b.0.1 node.parts id.1.parts in
    let p2 = behind bytes (node.front ++ id.0) b.0.1 serial.0 c.0.1 p1 serial.1.parts in
    let p3 = behind bytes ((node.front ++ id.0) ++ serial.0) c.0.1 creation.0 d.0.1 p2 creation.1.parts in
    let front = 88 ∷ (node.front ++ id.0 ++ serial.0 ++ creation.0) in
    let taken : Taken depth_left (tag ∷ bytes) (pid_term a.0.0 b.0.0 c.0.0 d.0.0) d.0.1 = record {
      front = front;
      parts = λ i. is i ∷ p3 i;
      spelled = new_pid_ext node.front a.0.0 id.0 serial.0 creation.0 b.0.0 c.0.0 d.0.0 node.spelled
          (record { wide = id.1.wide; value = id.2 }) (record { wide = serial.1.wide; value = serial.2 }) (record { wide = creation.1.wide; value = creation.2 });
      shallow = omega arith;
    } in
    subst (λ (x : TermValue × List ℕ). Taken depth_left (tag ∷ bytes) x.0 x.1) k taken

-- a count of words that is read
pub is_within : (n : ℕ) → (ltb 0 n && ltb n 6) ≡ true → (1 ≤ n) × (n ≤ 5)
is_within n h = by (ltb 0 n) (ltb n 6) refl refl h
  where
    by : (a b : Bool) → ltb 0 n ≡ a → ltb n 6 ≡ b → (a && b) ≡ true → (1 ≤ n) × (n ≤ 5)
    by true true p q k = (ltb-true _ _ p, omega (arith, ltb-true _ _ q))
    by true false p q k = absurd cc
    by false b p q k = absurd cc

-- what was taken from the front: n words
record WordsTaken (n : ℕ) (bytes words rest : List ℕ) : Type 0 where
  front : List ℕ
  parts : bytes ≡ front ++ rest
  spelled : AreWords front words
  count : length words ≡ n

words_take : (n : ℕ) (bytes words rest : List ℕ) → words_at n bytes ≡ Ok (words, rest) → WordsTaken n bytes words rest
unfolding words_at
words_take zero bytes words rest e =
    let k = ok_is ([], bytes) (words, rest) e in
    let taken : WordsTaken 0 bytes [] bytes = record { front = []; parts = refl; spelled = no_words; count = refl } in
    subst (λ (x : List ℕ × List ℕ). WordsTaken 0 bytes x.0 x.1) k taken
words_take (suc n) bytes words rest e =
    let a = bind_ok (big_endian_at w32 bytes) (λ word. words_at n word.1 >>= λ others. Ok (word.0 ∷ others.0, others.1)) (words, rest) e in
    let b = bind_ok (words_at n a.0.1) (λ others. Ok (a.0.0 ∷ others.0, others.1)) (words, rest) a.2 in
    let k = ok_is (a.0.0 ∷ b.0.0, b.0.1) (words, rest) b.2 in
    let first = number_takes w32 bytes a.0.0 a.0.1 a.1 in
    let others = words_take n a.0.1 b.0.0 b.0.1 b.1 in
    let taken : WordsTaken (suc n) bytes (a.0.0 ∷ b.0.0) b.0.1 = record {
      front = first.0 ++ others.front;
      parts = behind bytes first.0 a.0.1 others.front b.0.1 first.1.parts others.parts;
      spelled = one_word first.0 others.front a.0.0 b.0.0 (record { wide = first.1.wide; value = first.2 }) others.spelled;
      count = ap suc others.count;
    } in
    subst (λ (x : List ℕ × List ℕ). WordsTaken (suc n) bytes x.0 x.1) k taken

-- a reference after its count of words
abbrev pub counted_at : ℕ → List ℕ → Result (TermValue × List ℕ) ExternalFault
counted_at count bytes = external_atom_at bytes >>= λ node. big_endian_at w32 node.1 >>= λ creation. words_at count creation.1 >>= λ words. Ok (reference_term node.0 creation.0 words.0, words.1)

reference_takes : (depth_left tag : ℕ) → tag ≡ 90 → (bytes : List ℕ) (t : TermValue) (rest : List ℕ) → reference_at bytes ≡ Ok (t, rest) → Taken depth_left (tag ∷ bytes) t rest
unfolding reference_at
reference_takes depth_left tag is bytes t rest e =
    let a = bind_ok (big_endian_at w16 bytes) (λ count. cond (ltb 0 count.0 && ltb count.0 6) (counted_at count.0 count.1) (Err out_of_profile)) (t, rest) e in
    let g = guard_true (ltb 0 a.0.0 && ltb a.0.0 6) out_of_profile (counted_at a.0.0 a.0.1) (t, rest) a.2 in
    let b = bind_ok (external_atom_at a.0.1) (λ node. big_endian_at w32 node.1 >>= λ creation. words_at a.0.0 creation.1 >>= λ words. Ok (reference_term node.0 creation.0 words.0, words.1)) (t, rest) g.1 in
    let c = bind_ok (big_endian_at w32 b.0.1) (λ creation. words_at a.0.0 creation.1 >>= λ words. Ok (reference_term b.0.0 creation.0 words.0, words.1)) (t, rest) b.2 in
    let d = bind_ok (words_at a.0.0 c.0.1) (λ words. Ok (reference_term b.0.0 c.0.0 words.0, words.1)) (t, rest) c.2 in
    let k = ok_is (reference_term b.0.0 c.0.0 d.0.0, d.0.1) (t, rest) d.2 in
    let count = number_takes w16 bytes a.0.0 a.0.1 a.1 in
    let node = atom_takes a.0.1 b.0.0 b.0.1 b.1 in
    let creation = number_takes w32 b.0.1 c.0.0 c.0.1 c.1 in
    let words = words_take a.0.0 c.0.1 d.0.0 d.0.1 d.1 in
    let within = is_within a.0.0 g.0 in
    let p1 = behind bytes count.0 a.0.1 node.front b.0.1 count.1.parts node.parts in
    let p2 = behind bytes (count.0 ++ node.front) b.0.1 creation.0 c.0.1 p1 creation.1.parts in
    let p3 = behind bytes ((count.0 ++ node.front) ++ creation.0) c.0.1 words.front d.0.1 p2 words.parts in
    let taken : Taken depth_left (tag ∷ bytes) (reference_term b.0.0 c.0.0 d.0.0) d.0.1 = record {
      front = 90 ∷ (count.0 ++ node.front ++ creation.0 ++ words.front);
      parts = λ i. is i ∷ p3 i;
      spelled = newer_reference_ext count.0 node.front b.0.0 creation.0 words.front d.0.0 c.0.0 (record { wide = count.1.wide; value = count.2 ∙ sym words.count })
          (omega (arith, within.0, words.count)) (omega (arith, within.1, words.count)) node.spelled (record { wide = creation.1.wide; value = creation.2 }) words.spelled;
      shallow = omega arith;
    } in
    subst (λ (x : TermValue × List ℕ). Taken depth_left (tag ∷ bytes) x.0 x.1) k taken

-- a sign, and the integer of a magnitude within its bounds
signs : (sign n : ℕ) → sign ≤ 1 → n ≤ greatest sign → IsSigned sign n (signed sign n) × IsSmall (signed sign n)
signs zero n h k = (plus_sign n, (omega (arith, ints), omega (arith, ints)))
signs (suc zero) n h k = (minus_sign n, (omega (arith, ints), omega (arith, ints)))
signs (suc (suc s)) n h k = absurd (omega arith)

pub big_takes : (depth_left tag : ℕ) → tag ≡ 110 → (bytes : List ℕ) (z : ℤ) (rest : List ℕ) → big_at bytes ≡ Ok (z, rest) → Taken depth_left (tag ∷ bytes) (int_term z) rest
unfolding big_at
big_takes depth_left tag is bytes z rest e =
    let a = bind_ok (byte_at bytes) (λ count. byte_at count.1 >>= λ sign. cond (ltb 1 sign.0) (Err bad_tag) (bytes_at count.0 sign.1 >>= λ digits. cond (ltb (greatest sign.0) (little digits.0)) (Err integer_too_large) (Ok (signed sign.0 (little digits.0), digits.1)))) (z, rest) e in
    let b = bind_ok (byte_at a.0.1) (λ sign. cond (ltb 1 sign.0) (Err bad_tag) (bytes_at a.0.0 sign.1 >>= λ digits. cond (ltb (greatest sign.0) (little digits.0)) (Err integer_too_large) (Ok (signed sign.0 (little digits.0), digits.1)))) (z, rest) a.2 in
    let g = guard_false (ltb 1 b.0.0) bad_tag (bytes_at a.0.0 b.0.1 >>= λ digits. cond (ltb (greatest b.0.0) (little digits.0)) (Err integer_too_large) (Ok (signed b.0.0 (little digits.0), digits.1))) (z, rest) b.2 in
    let d = bind_ok (bytes_at a.0.0 b.0.1) (λ digits. cond (ltb (greatest b.0.0) (little digits.0)) (Err integer_too_large) (Ok (signed b.0.0 (little digits.0), digits.1))) (z, rest) g.1 in
    let h = guard_false (ltb (greatest b.0.0) (little d.0.0)) integer_too_large (Ok (signed b.0.0 (little d.0.0), d.0.1)) (z, rest) d.2 in
    let k = ok_is (signed b.0.0 (little d.0.0), d.0.1) (z, rest) h.1 in
    let s = signs b.0.0 (little d.0.0) (ltb-false _ _ g.0) (ltb-false _ _ h.0) in
    let f = bytes_takes a.0.0 b.0.1 d.0.0 d.0.1 d.1 in
    let one = byte_takes bytes a.0.0 a.0.1 a.1 in
    let two = byte_takes a.0.1 b.0.0 b.0.1 b.1 in
    let taken : Taken depth_left (tag ∷ bytes) (int_term (signed b.0.0 (little d.0.0))) d.0.1 = record {
      front = 110 ∷ length d.0.0 ∷ b.0.0 ∷ d.0.0;
      parts = λ i. is i ∷ (one ∙ (λ j. sym f.wide j ∷ (two ∙ ap (λ (r : List ℕ). b.0.0 ∷ r) f.parts) j)) i;
      spelled = small_big_ext b.0.0 d.0.0 (signed b.0.0 (little d.0.0)) s.0 s.1;
      shallow = omega arith;
    } in
    subst (λ (x : ℤ × List ℕ). Taken depth_left (tag ∷ bytes) (int_term x.0) x.1) k taken

pub leaf_takes : (depth_left : ℕ) (form : Form) (tag : ℕ) → Tagged form tag → (bytes : List ℕ) (t : TermValue) (rest : List ℕ) → leaf_at form bytes ≡ Ok (t, rest) → Taken depth_left (tag ∷ bytes) t rest
unfolding leaf_at
leaf_takes depth_left forms.SmallInteger tag is bytes t rest e =
    let a = bind_ok (byte_at bytes) (λ n. Ok (int_term (pos n.0), n.1)) (t, rest) e in
    let k = ok_is (int_term (pos a.0.0), a.0.1) (t, rest) a.2 in
    let one = byte_takes bytes a.0.0 a.0.1 a.1 in
    let taken : Taken depth_left (tag ∷ bytes) (int_term (pos a.0.0)) a.0.1 =
    record { front = 97 ∷ a.0.0 ∷ []; parts = λ i. is i ∷ one i; spelled = small_integer_ext a.0.0; shallow = omega arith } in
    subst (λ (x : TermValue × List ℕ). Taken depth_left (tag ∷ bytes) x.0 x.1) k taken
leaf_takes depth_left forms.Integer tag is bytes t rest e =
    let a = bind_ok (big_endian_at w32 bytes) (λ n. Ok (int_term (cast_signed w32 n.0), n.1)) (t, rest) e in
    let k = ok_is (int_term (cast_signed w32 a.0.0), a.0.1) (t, rest) a.2 in
    let n = number_takes w32 bytes a.0.0 a.0.1 a.1 in
    let taken : Taken depth_left (tag ∷ bytes) (int_term (cast_signed w32 a.0.0)) a.0.1 =
    record { front = 98 ∷ n.0; parts = λ i. is i ∷ n.1.parts i; spelled = integer_ext n.0 a.0.0 (record { wide = n.1.wide; value = n.2 }); shallow = omega arith } in
    subst (λ (x : TermValue × List ℕ). Taken depth_left (tag ∷ bytes) x.0 x.1) k taken
leaf_takes depth_left forms.SmallBig tag is bytes t rest e =
    let a = bind_ok (big_at bytes) (λ n. Ok (int_term n.0, n.1)) (t, rest) e in
    let k = ok_is (int_term a.0.0, a.0.1) (t, rest) a.2 in
    subst (λ (x : TermValue × List ℕ). Taken depth_left (tag ∷ bytes) x.0 x.1) k (big_takes depth_left tag is bytes a.0.0 a.0.1 a.1)
leaf_takes depth_left forms.Nil tag is bytes t rest e =
    let k = ok_is (nil_term, bytes) (t, rest) e in
    let taken : Taken depth_left (tag ∷ bytes) nil_term bytes =
    record { front = 106 ∷ []; parts = λ i. is i ∷ bytes; spelled = nil_ext; shallow = omega arith } in
    subst (λ (x : TermValue × List ℕ). Taken depth_left (tag ∷ bytes) x.0 x.1) k taken
leaf_takes depth_left forms.SmallAtom tag is bytes t rest e =
    let a = bind_ok (small_atom_at bytes) (λ text. Ok (atom_term text.0, text.1)) (t, rest) e in
    let k = ok_is (atom_term a.0.0, a.0.1) (t, rest) a.2 in
    let s = small_atom_takes tag is bytes a.0.0 a.0.1 a.1 in
    let taken : Taken depth_left (tag ∷ bytes) (atom_term a.0.0) a.0.1 =
    record { front = s.front; parts = s.parts; spelled = utf8_atom s.front a.0.0 s.spelled; shallow = omega arith } in
    subst (λ (x : TermValue × List ℕ). Taken depth_left (tag ∷ bytes) x.0 x.1) k taken
leaf_takes depth_left forms.LongAtom tag is bytes t rest e =
    let a = bind_ok (long_atom_at bytes) (λ text. Ok (atom_term text.0, text.1)) (t, rest) e in
    let k = ok_is (atom_term a.0.0, a.0.1) (t, rest) a.2 in
    let s = long_atom_takes tag is bytes a.0.0 a.0.1 a.1 in
    let taken : Taken depth_left (tag ∷ bytes) (atom_term a.0.0) a.0.1 =
    record { front = s.front; parts = s.parts; spelled = utf8_atom s.front a.0.0 s.spelled; shallow = omega arith } in
    subst (λ (x : TermValue × List ℕ). Taken depth_left (tag ∷ bytes) x.0 x.1) k taken
leaf_takes depth_left forms.Pid tag is bytes t rest e = pid_takes depth_left tag is bytes t rest e
leaf_takes depth_left forms.Reference tag is bytes t rest e = reference_takes depth_left tag is bytes t rest e
leaf_takes depth_left forms.String tag is bytes t rest e = absurd cc
leaf_takes depth_left forms.List tag is bytes t rest e = absurd cc
leaf_takes depth_left forms.SmallTuple tag is bytes t rest e = absurd cc
leaf_takes depth_left forms.LargeTuple tag is bytes t rest e = absurd cc
leaf_takes depth_left forms.LeftOut tag is bytes t rest e = absurd cc
leaf_takes depth_left forms.Unknown tag is bytes t rest e = absurd cc
