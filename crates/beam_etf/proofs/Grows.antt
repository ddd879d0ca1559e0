-- A term that is read at the front is read also with more bytes after it, and each fault except truncated stays one.
use Rattle.std.proofs.Common.{◌≡◌, ◌≢◌, ℕ, zero, suc, ◌≤◌, Bool, true, false, cond, eqb, ltb, ◌&&◌, List, [], ◌∷◌, ◌++◌, length, take, drop, Result, Ok, Err, refl, sym, ap, subst, ◌∙◌, arith, pos, nat_eq, le-ltb, ltb-false, eqb-true, length-append}
use Rattle.std.specs.List.{starts_with}
use Rattle.std.specs.Int.{Width, byte_len, from_be_bytes, cast_signed, w16, w32}
use Rattle.std.specs.Str.{is_utf8, chars}
use Rattle.std.proofs.lemmas.List.{take-append-le, drop-append-le}
use Rattle.beam_model.specs.Prelude.{little, ExternalFault, bad_tag, out_of_profile, too_deep, bad_utf8, form_of, bytes_at, big_endian_at, byte_at, text_at, signed, greatest, big_at, small_atom_at, long_atom_at, atom_of_form, external_atom_at, pid_at, words_at, reference_at, leaf_at, Inner, text_list, external_string_at, pair_at, external_list_at, items_at, external_tuple_at, term_of_form, empty_list, after_empty_lists, whole_at, read_at, external_at}
use Rattle.beam_term.specs.Prelude.{TermValue, int_term, atom_term, reference_term, pid_term, pair_term, tuple_of}
use Rattle.beam_model.specs.ExternalFault.{truncated, integer_too_large}
use Rattle.beam_model.specs.declared.external.Form.{Form}
use Rattle.beam_model.specs.declared.external.Form.TheVariants as forms
use Rattle.beam_model.specs.ExternalReading.{◌>>=◌}
use Rattle.beam_etf.proofs.Empty.{skip_none}
use Rattle.beam_etf.proofs.ReadingSound.{counted_at}

-- the result of reading where more bytes follow
abbrev pub Grown : {A : Type 0} → List ℕ → Result (A × List ℕ) ExternalFault → Result (A × List ℕ) ExternalFault → Type 0
Grown more (Ok x) longer = longer ≡ Ok (x.0, x.1 ++ more)
Grown more (Err e) longer = e ≢ truncated → longer ≡ Err e

grown_bind : {A B : Type 0} (more : List ℕ) (r s : Result (A × List ℕ) ExternalFault) (f : A × List ℕ → Result (B × List ℕ) ExternalFault)
    → Grown more r s → ((x : A) (rest : List ℕ) → Grown more (f (x, rest)) (f (x, rest ++ more))) → Grown more (r >>= f) (s >>= f)
grown_bind more (Ok x) s f h k = rw h (k x.0 x.1)
grown_bind more (Err e) s f h k = λ n. ap (λ r. r >>= f) (h n)

grown_guard : {A : Type 0} (more : List ℕ) (b : Bool) (e : ExternalFault) (r s : Result (A × List ℕ) ExternalFault) → Grown more r s → Grown more (cond b (Err e) r) (cond b (Err e) s)
grown_guard more true e r s h = λ n. refl
grown_guard more false e r s h = h

grown_test : {A : Type 0} (more : List ℕ) (b : Bool) (e : ExternalFault) (r s : Result (A × List ℕ) ExternalFault) → Grown more r s → Grown more (cond b r (Err e)) (cond b s (Err e))
grown_test more true e r s h = h
grown_test more false e r s h = λ n. refl

abbrev pub Grows : {A : Type 0} → (List ℕ → Result (A × List ℕ) ExternalFault) → Type 0
Grows read = (bytes more : List ℕ) → Grown more (read bytes) (read (bytes ++ more))

byte_grows : Grows byte_at
unfolding byte_at
byte_grows [] more = λ n. absurd (n refl)
byte_grows (byte ∷ bytes) more = refl

bytes_grow : (n : ℕ) → Grows (bytes_at n)
unfolding bytes_at
bytes_grow n bytes more = by (ltb (length bytes) n) refl
  where
    by : (b : Bool) → ltb (length bytes) n ≡ b → Grown more (cond b (Err truncated) (Ok (take n bytes, drop n bytes))) (bytes_at n (bytes ++ more))
    by true e = λ k. absurd (k refl)
    by false e =
        let fits : n ≤ length bytes = ltb-false _ _ e in
        let long : ltb (length (bytes ++ more)) n ≡ false = le-ltb _ _ (omega (arith, length-append bytes more)) in
        rw (long, take-append-le n bytes more fits, drop-append-le n bytes more fits) refl

number_grows : (w : Width) → Grows (big_endian_at w)
unfolding big_endian_at
number_grows w bytes more = grown_bind more (bytes_at (byte_len w) bytes) _ (λ field. Ok (from_be_bytes w field.0, field.1)) (bytes_grow (byte_len w) bytes more) (λ field rest. refl)

text_grows : (n : ℕ) → Grows (text_at n)
unfolding text_at
text_grows n bytes more =
    grown_bind more (bytes_at n bytes) _ (λ field. cond (is_utf8 field.0) (cond (ltb 255 (length (chars field.0))) (Err out_of_profile) (Ok field)) (Err bad_utf8)) (bytes_grow n bytes more)
    (λ text rest. by (is_utf8 text) (ltb 255 (length (chars text))) text rest)
  where
    by : (a b : Bool) (text rest : List ℕ) → Grown more (cond a (cond b (Err out_of_profile) (Ok (text, rest))) (Err bad_utf8)) (cond a (cond b (Err out_of_profile) (Ok (text, rest ++ more))) (Err bad_utf8))
    by true true text rest = λ n. refl
    by true false text rest = refl
    by false b text rest = λ n. refl

big_grows : Grows big_at
unfolding big_at
big_grows bytes more =
    grown_bind more (byte_at bytes) _ (λ count. byte_at count.1 >>= λ sign. cond (ltb 1 sign.0) (Err bad_tag) (bytes_at count.0 sign.1 >>= λ digits. cond (ltb (greatest sign.0) (little digits.0)) (Err integer_too_large) (Ok (signed sign.0 (little digits.0), digits.1)))) (byte_grows bytes more)
    (λ count rest. grown_bind more (byte_at rest) _ (λ sign. cond (ltb 1 sign.0) (Err bad_tag) (bytes_at count sign.1 >>= λ digits. cond (ltb (greatest sign.0) (little digits.0)) (Err integer_too_large) (Ok (signed sign.0 (little digits.0), digits.1)))) (byte_grows rest more)
    (λ sign after. grown_guard more (ltb 1 sign) bad_tag _ _
    (grown_bind more (bytes_at count after) _ (λ digits. cond (ltb (greatest sign) (little digits.0)) (Err integer_too_large) (Ok (signed sign (little digits.0), digits.1))) (bytes_grow count after more)
    (λ digits last. grown_guard more (ltb (greatest sign) (little digits)) integer_too_large _ _ refl))))

small_atom_grows : Grows small_atom_at
unfolding small_atom_at
small_atom_grows bytes more = grown_bind more (byte_at bytes) _ (λ count. text_at count.0 count.1) (byte_grows bytes more) (λ count rest. text_grows count rest more)

long_atom_grows : Grows long_atom_at
unfolding long_atom_at
long_atom_grows bytes more = grown_bind more (big_endian_at w16 bytes) _ (λ count. text_at count.0 count.1) (number_grows w16 bytes more) (λ count rest. text_grows count rest more)

atom_of_grows : (form : Form) → Grows (atom_of_form form)
unfolding atom_of_form
atom_of_grows forms.SmallAtom bytes more = small_atom_grows bytes more
atom_of_grows forms.LongAtom bytes more = long_atom_grows bytes more
atom_of_grows forms.LeftOut bytes more = λ n. refl
atom_of_grows form bytes more = λ n. refl

atom_grows : Grows external_atom_at
unfolding external_atom_at
atom_grows bytes more = grown_bind more (byte_at bytes) _ (λ tag. atom_of_form (form_of tag.0) tag.1) (byte_grows bytes more) (λ tag rest. atom_of_grows (form_of tag) rest more)

pid_grows : Grows pid_at
unfolding pid_at
pid_grows bytes more =
    grown_bind more (external_atom_at bytes) _ (λ node. big_endian_at w32 node.1 >>= λ id. big_endian_at w32 id.1 >>= λ serial. big_endian_at w32 serial.1 >>= λ creation. Ok (pid_term node.0 id.0 serial.0 creation.0, creation.1)) (atom_grows bytes more)
    (λ node a. grown_bind more (big_endian_at w32 a) _ (λ id. big_endian_at w32 id.1 >>= λ serial. big_endian_at w32 serial.1 >>= λ creation. Ok (pid_term node id.0 serial.0 creation.0, creation.1)) (number_grows w32 a more)
    (λ id b. grown_bind more (big_endian_at w32 b) _ (λ serial. big_endian_at w32 serial.1 >>= λ creation. Ok (pid_term node id serial.0 creation.0, creation.1)) (number_grows w32 b more)
    (λ serial c. grown_bind more (big_endian_at w32 c) _ (λ creation. Ok (pid_term node id serial creation.0, creation.1)) (number_grows w32 c more) (λ creation d. refl))))

words_grow : (n : ℕ) → Grows (words_at n)
unfolding words_at
words_grow zero bytes more = refl
words_grow (suc n) bytes more =
    grown_bind more (big_endian_at w32 bytes) _ (λ word. words_at n word.1 >>= λ others. Ok (word.0 ∷ others.0, others.1)) (number_grows w32 bytes more)
    (λ word rest. grown_bind more (words_at n rest) _ (λ others. Ok (word ∷ others.0, others.1)) (words_grow n rest more) (λ others after. refl))

counted_grows : (count : ℕ) → Grows (counted_at count)
counted_grows count bytes more =
    grown_bind more (external_atom_at bytes) _ (λ node. big_endian_at w32 node.1 >>= λ creation. words_at count creation.1 >>= λ words. Ok (reference_term node.0 creation.0 words.0, words.1)) (atom_grows bytes more)
    (λ node a. grown_bind more (big_endian_at w32 a) _ (λ creation. words_at count creation.1 >>= λ words. Ok (reference_term node creation.0 words.0, words.1)) (number_grows w32 a more)
    (λ creation b. grown_bind more (words_at count b) _ (λ words. Ok (reference_term node creation words.0, words.1)) (words_grow count b more) (λ words c. refl)))

reference_grows : Grows reference_at
unfolding reference_at
reference_grows bytes more =
    grown_bind more (big_endian_at w16 bytes) _ (λ count. cond (ltb 0 count.0 && ltb count.0 6) (counted_at count.0 count.1) (Err out_of_profile)) (number_grows w16 bytes more)
    (λ count rest. grown_test more (ltb 0 count && ltb count 6) out_of_profile _ _ (counted_grows count rest more))

leaf_grows : (form : Form) → Grows (leaf_at form)
unfolding leaf_at
leaf_grows forms.SmallInteger bytes more = grown_bind more (byte_at bytes) _ (λ n. Ok (int_term (pos n.0), n.1)) (byte_grows bytes more) (λ n rest. refl)
leaf_grows forms.Integer bytes more = grown_bind more (big_endian_at w32 bytes) _ (λ n. Ok (int_term (cast_signed w32 n.0), n.1)) (number_grows w32 bytes more) (λ n rest. refl)
leaf_grows forms.SmallBig bytes more = grown_bind more (big_at bytes) _ (λ n. Ok (int_term n.0, n.1)) (big_grows bytes more) (λ n rest. refl)
leaf_grows forms.Nil bytes more = refl
leaf_grows forms.SmallAtom bytes more = grown_bind more (small_atom_at bytes) _ (λ text. Ok (atom_term text.0, text.1)) (small_atom_grows bytes more) (λ n rest. refl)
leaf_grows forms.LongAtom bytes more = grown_bind more (long_atom_at bytes) _ (λ text. Ok (atom_term text.0, text.1)) (long_atom_grows bytes more) (λ n rest. refl)
leaf_grows forms.Pid bytes more = pid_grows bytes more
leaf_grows forms.Reference bytes more = reference_grows bytes more
leaf_grows forms.LeftOut bytes more = λ n. refl
leaf_grows form bytes more = λ n. refl

-- the results of a reader of parts where more bytes follow
abbrev InnerGrows : Inner → Type 0
InnerGrows inner = (n : ℕ) → Grows (inner n)

string_grows : (depth_left : ℕ) → Grows (external_string_at depth_left)
unfolding external_string_at
string_grows depth_left bytes more =
    grown_bind more (big_endian_at w16 bytes) _ (λ count. cond (ltb depth_left count.0) (Err too_deep) (bytes_at count.0 count.1 >>= λ text. Ok (text_list text.0, text.1))) (number_grows w16 bytes more)
    (λ count rest. grown_guard more (ltb depth_left count) too_deep _ _
    (grown_bind more (bytes_at count rest) _ (λ text. Ok (text_list text.0, text.1)) (bytes_grow count rest more) (λ text last. refl)))

pair_grows : (inner : Inner) → InnerGrows inner → (n : ℕ) → Grows (pair_at inner n)
unfolding pair_at
pair_grows inner h n bytes more =
    grown_bind more (inner 0 bytes) _ (λ head. inner n head.1 >>= λ last. Ok (pair_term head.0 last.0, last.1)) (h 0 bytes more)
    (λ head rest. grown_bind more (inner n rest) _ (λ last. Ok (pair_term head last.0, last.1)) (h n rest more) (λ last after. refl))

list_grows : (inner : Inner) → InnerGrows inner → (depth_left count : ℕ) → Grows (external_list_at inner depth_left count)
unfolding external_list_at
list_grows inner h depth_left zero bytes more = λ n. refl
list_grows inner h depth_left (suc count) bytes more = grown_guard more (ltb depth_left (suc count)) too_deep _ _ (pair_grows inner h count bytes more)

items_grow : (item : List ℕ → Result (TermValue × List ℕ) ExternalFault) → Grows item → (n : ℕ) → Grows (items_at item n)
unfolding items_at
items_grow item h zero bytes more = refl
items_grow item h (suc n) bytes more =
    grown_bind more (item bytes) _ (λ first. items_at item n first.1 >>= λ others. Ok (first.0 ∷ others.0, others.1)) (h bytes more)
    (λ first rest. grown_bind more (items_at item n rest) _ (λ others. Ok (first ∷ others.0, others.1)) (items_grow item h n rest more) (λ others after. refl))

tuple_grows : (inner : Inner) → InnerGrows inner → (depth_left count : ℕ) → Grows (external_tuple_at inner depth_left count)
unfolding external_tuple_at
tuple_grows inner h depth_left count bytes more =
    grown_guard more (eqb depth_left 0) too_deep _ _
    (grown_bind more (items_at (inner 0) count bytes) _ (λ items. Ok (tuple_of items.0, items.1)) (items_grow (inner 0) (h 0) count bytes more) (λ items rest. refl))

form_grows : (inner : Inner) → InnerGrows inner → (depth_left : ℕ) (form : Form) → Grows (term_of_form inner depth_left form)
unfolding term_of_form
form_grows inner h depth_left forms.String bytes more = string_grows depth_left bytes more
form_grows inner h depth_left forms.List bytes more =
    grown_bind more (big_endian_at w32 bytes) _ (λ count. external_list_at inner depth_left count.0 count.1) (number_grows w32 bytes more) (λ count rest. list_grows inner h depth_left count rest more)
form_grows inner h depth_left forms.SmallTuple bytes more =
    grown_bind more (byte_at bytes) _ (λ count. external_tuple_at inner depth_left count.0 count.1) (byte_grows bytes more) (λ count rest. tuple_grows inner h depth_left count rest more)
form_grows inner h depth_left forms.LargeTuple bytes more =
    grown_bind more (big_endian_at w32 bytes) _ (λ count. external_tuple_at inner depth_left count.0 count.1) (number_grows w32 bytes more) (λ count rest. tuple_grows inner h depth_left count rest more)
form_grows inner h depth_left form bytes more = leaf_grows form bytes more

-- the front of a term, where no list of no elements stands before it
front_grows : (inner : Inner) → InnerGrows inner → (depth_left : ℕ) → Grows (λ bytes. byte_at bytes >>= λ tag. term_of_form inner depth_left (form_of tag.0) tag.1)
front_grows inner h depth_left bytes more =
    grown_bind more (byte_at bytes) _ (λ tag. term_of_form inner depth_left (form_of tag.0) tag.1) (byte_grows bytes more) (λ tag rest. form_grows inner h depth_left (form_of tag) rest more)

not_list : (tag : ℕ) (xs : List ℕ) → eqb 108 tag ≡ false → starts_with nat_eq (tag ∷ xs) empty_list ≡ false
not_list tag xs h = rw h refl

-- a tag with fewer than four bytes after it
short_grows : (inner : Inner) → InnerGrows inner → (depth_left tag : ℕ) (xs more : List ℕ) → big_endian_at w32 xs ≡ Err truncated → after_empty_lists (tag ∷ xs) ≡ tag ∷ xs
    → Grown more (whole_at inner depth_left (tag ∷ xs)) (whole_at inner depth_left (tag ∷ (xs ++ more)))
unfolding whole_at byte_at term_of_form form_of
short_grows inner h depth_left tag xs more cut same = by (eqb 108 tag) refl
  where
    by : (b : Bool) → eqb 108 tag ≡ b → Grown more (whole_at inner depth_left (tag ∷ xs)) (whole_at inner depth_left (tag ∷ (xs ++ more)))
    by true e =
        let is : 108 ≡ tag = eqb-true 108 tag e in
        let fault : whole_at inner depth_left (108 ∷ xs) ≡ Err truncated = rw (ap (λ (t : ℕ). after_empty_lists (t ∷ xs)) is ∙ same ∙ (λ i. sym is i ∷ xs), cut) refl in
        subst (λ (t : ℕ). Grown more (whole_at inner depth_left (t ∷ xs)) (whole_at inner depth_left (t ∷ (xs ++ more)))) is (rw fault (λ n. absurd (n refl)))
    by false e = rw (same, skip_none (tag ∷ (xs ++ more)) (not_list tag (xs ++ more) e)) (front_grows inner h depth_left (tag ∷ xs) more)

whole_grows : (inner : Inner) → InnerGrows inner → (depth_left : ℕ) → Grows (whole_at inner depth_left)
unfolding whole_at byte_at after_empty_lists big_endian_at bytes_at
whole_grows inner h depth_left [] more = λ n. absurd (n refl)
whole_grows inner h depth_left (a ∷ []) more = short_grows inner h depth_left a [] more refl refl
whole_grows inner h depth_left (a ∷ b ∷ []) more = short_grows inner h depth_left a (b ∷ []) more refl refl
whole_grows inner h depth_left (a ∷ b ∷ c ∷ []) more = short_grows inner h depth_left a (b ∷ c ∷ []) more refl refl
whole_grows inner h depth_left (a ∷ b ∷ c ∷ d ∷ []) more = short_grows inner h depth_left a (b ∷ c ∷ d ∷ []) more refl refl
whole_grows inner h depth_left (a ∷ b ∷ c ∷ d ∷ e ∷ others) more = by (whole_grows inner h depth_left others more) (starts_with nat_eq (a ∷ b ∷ c ∷ d ∷ e ∷ others) empty_list)
  where
    by : Grown more (whole_at inner depth_left others) (whole_at inner depth_left (others ++ more)) → (test : Bool)
        → Grown more (byte_at (cond test (after_empty_lists others) (a ∷ b ∷ c ∷ d ∷ e ∷ others)) >>= λ tag. term_of_form inner depth_left (form_of tag.0) tag.1)
        (byte_at (cond test (after_empty_lists (others ++ more)) (a ∷ b ∷ c ∷ d ∷ e ∷ (others ++ more))) >>= λ tag. term_of_form inner depth_left (form_of tag.0) tag.1)
    by k true = k
    by k false = front_grows inner h depth_left (a ∷ b ∷ c ∷ d ∷ e ∷ others) more

read_grows : (depth_left : ℕ) → InnerGrows (read_at depth_left)
unfolding read_at
read_grows zero zero bytes more = whole_grows (λ n rest. Err too_deep) (λ n rest others k. refl) 0 bytes more
read_grows zero (suc n) bytes more = λ k. refl
read_grows (suc depth_left) zero bytes more = whole_grows (read_at depth_left) (read_grows depth_left) (suc depth_left) bytes more
read_grows (suc depth_left) (suc n) bytes more = pair_grows (read_at depth_left) (read_grows depth_left) n bytes more

pub external_grows : Grows external_at
unfolding external_at
external_grows bytes more =
    grown_bind more (byte_at bytes) _ (λ version. cond (eqb version.0 131) (read_at 4096 0 version.1) (Err bad_tag)) (byte_grows bytes more)
    (λ version rest. by (eqb version 131) rest)
  where
    by : (b : Bool) (rest : List ℕ) → Grown more (cond b (read_at 4096 0 rest) (Err bad_tag)) (cond b (read_at 4096 0 (rest ++ more)) (Err bad_tag))
    by true rest = read_grows 4096 0 rest more
    by false rest = λ n. refl
