-- A spelled term is read, whatever bytes follow it.
use Rattle.std.proofs.Common.{◌≡◌, ℕ, zero, suc, ◌≤◌, Bool, true, false, ltb, List, [], ◌∷◌, ◌++◌, length, drop, Ok, refl, sym, ap, ◌∙◌, append_assoc, arith, ℤ, pos, neg_ℤ, nat_eq, le-ltb, lt-ltb, take_at, drop_at, length-append}
use Rattle.std.specs.Str.{chars}
use Rattle.std.specs.List.{starts_with}
use Rattle.std.specs.Int.{Width, byte_len, from_be_bytes, w16, w32}
use Rattle.std.specs.Cmp.Lexicographic.{bytes_decides}
use Rattle.std.proofs.lemmas.Str.{is_utf8-from_IsUtf8}
use Rattle.std.proofs.lemmas.Int.{ints}
use Rattle.beam_model.specs.Prelude.{IsHalf, little, IsSigned, plus_sign, minus_sign, SpellsAtom, small_atom_utf8_ext, atom_utf8_ext, AreWords, no_words, one_word, SpellsTerm, small_integer_ext, integer_ext, small_big_ext, nil_ext, utf8_atom, new_pid_ext, newer_reference_ext, small_tuple_ext, large_tuple_ext, string_ext, list_ext, empty_list_ext, SpellsAll, no_elements, one_element, SpellsList, only_tail, head_before, IsExternal, form_of, bytes_at, big_endian_at, byte_at, text_at, greatest, big_at, small_atom_at, long_atom_at, atom_of_form, external_atom_at, pid_at, words_at, reference_at, leaf_at, text_list, external_string_at, pair_at, items_at, external_tuple_at, term_of_form, empty_list, after_empty_lists, whole_at, read_at, below, external_at}
use Rattle.beam_term.specs.Prelude.{IsAtomText, TermValue, Terms, atom_term, reference_term, pid_term, tuple_term, elements_of, count_of, depth_of, items_depth, IsSmall, terms_of-elements_of}
use Rattle.beam_model.specs.External.{IsWord}
use Rattle.beam_etf.proofs.Empty.{skip_none}
use Rattle.beam_etf.proofs.Rooms.{read_at-whole, list_at-read, as_tuple, tuple_at-items}

-- ---- fields

bytes_again : (n : ℕ) (front rest : List ℕ) → length front ≡ n → bytes_at n (front ++ rest) ≡ Ok (front, rest)
unfolding bytes_at
bytes_again n front rest e =
    let long : ltb (length (front ++ rest)) n ≡ false = le-ltb _ _ (omega (arith, length-append front rest)) in
    rw (long, take_at front rest n e, drop_at front rest n e) refl

number_again : (w : Width) (field rest : List ℕ) (n : ℕ) → length field ≡ byte_len w → from_be_bytes w field ≡ n → big_endian_at w (field ++ rest) ≡ Ok (n, rest)
unfolding big_endian_at
number_again w field rest n e v = rw (bytes_again (byte_len w) field rest e) (ap (λ (m : ℕ). Ok (m, rest)) v)

text_again : (text rest : List ℕ) → IsAtomText text → text_at (length text) (text ++ rest) ≡ Ok (text, rest)
unfolding text_at
text_again text rest h =
    rw (bytes_again (length text) text rest refl, is_utf8-from_IsUtf8 text h.utf8, le-ltb 255 (length (chars text)) h.short) refl

small_atom_again : (text rest : List ℕ) → IsAtomText text → small_atom_at (length text ∷ (text ++ rest)) ≡ Ok (text, rest)
unfolding small_atom_at byte_at
small_atom_again text rest h = text_again text rest h

long_atom_again : (field text rest : List ℕ) → IsHalf field (length text) → IsAtomText text → long_atom_at ((field ++ text) ++ rest) ≡ Ok (text, rest)
unfolding long_atom_at
long_atom_again field text rest f h =
    rw (append_assoc field text rest, number_again w16 field (text ++ rest) (length text) f.wide f.value) (text_again text rest h)

atom_again : (a text : List ℕ) → SpellsAtom a text → (rest : List ℕ) → external_atom_at (a ++ rest) ≡ Ok (text, rest)
unfolding external_atom_at atom_of_form byte_at form_of
atom_again _ _ (small_atom_utf8_ext text h) rest = small_atom_again text rest h
atom_again _ _ (atom_utf8_ext field text f h) rest = long_atom_again field text rest f h

pid_again : (name node id serial creation rest : List ℕ) (i s c : ℕ) → SpellsAtom name node → IsWord id i → IsWord serial s → IsWord creation c
    → pid_at ((name ++ id ++ serial ++ creation) ++ rest) ≡ Ok (pid_term node i s c, rest)
unfolding pid_at
pid_again name node id serial creation rest i s c a f g h =
    let regrouped : (name ++ id ++ serial ++ creation) ++ rest ≡ name ++ (id ++ (serial ++ (creation ++ rest))) = simp append_assoc in
    ap pid_at regrouped ∙ rw (
      atom_again name node a (id ++ (serial ++ (creation ++ rest))),
      number_again w32 id (serial ++ (creation ++ rest)) i f.wide f.value,
      number_again w32 serial (creation ++ rest) s g.wide g.value,
      number_again w32 creation rest c h.wide h.value,
    ) refl

words_again : (body words : List ℕ) → AreWords body words → (rest : List ℕ) → words_at (length words) (body ++ rest) ≡ Ok (words, rest)
unfolding words_at
words_again _ _ no_words rest = refl
words_again _ _ (one_word field others n ns f h) rest =
    rw (append_assoc field others rest, number_again w32 field (others ++ rest) n f.wide f.value, words_again others ns h rest) refl

reference_again : (count name node creation body words rest : List ℕ) (c : ℕ) → IsHalf count (length words) → 1 ≤ length words → length words ≤ 5 → SpellsAtom name node
    → IsWord creation c → AreWords body words → reference_at ((count ++ name ++ creation ++ body) ++ rest) ≡ Ok (reference_term node c words, rest)
unfolding reference_at
reference_again count name node creation body words rest c f some few a g h =
    let regrouped : (count ++ name ++ creation ++ body) ++ rest ≡ count ++ (name ++ (creation ++ (body ++ rest))) = simp append_assoc in
    ap reference_at regrouped ∙ rw (
      number_again w16 count (name ++ (creation ++ (body ++ rest))) (length words) f.wide f.value,
      lt-ltb 0 (length words) some,
      lt-ltb (length words) 6 (omega arith),
      atom_again name node a (creation ++ (body ++ rest)),
      number_again w32 creation (body ++ rest) c g.wide g.value,
      words_again body words h rest,
    ) refl

big_again : (sign : ℕ) (digits : List ℕ) (z : ℤ) → IsSigned sign (little digits) z → IsSmall z → (rest : List ℕ) → big_at (length digits ∷ sign ∷ (digits ++ rest)) ≡ Ok (z, rest)
unfolding big_at byte_at
big_again sign digits z s h rest = by sign (little digits) z s refl h
  where
    by : (sign n : ℕ) (z : ℤ) → IsSigned sign n z → little digits ≡ n → IsSmall z → big_at (length digits ∷ sign ∷ (digits ++ rest)) ≡ Ok (z, rest)
    by _ _ _ (plus_sign n) v h =
        let fits : little digits ≤ greatest 0 = omega (arith, ints, h.0, h.1, v) in
        rw (bytes_again (length digits) digits rest refl, le-ltb (greatest 0) (little digits) fits) (ap (λ (m : ℕ). Ok (pos m, rest)) v)
    by _ _ _ (minus_sign n) v h =
        let fits : little digits ≤ greatest 1 = omega (arith, ints, h.0, h.1, v) in
        rw (bytes_again (length digits) digits rest refl, le-ltb (greatest 1) (little digits) fits) (ap (λ (m : ℕ). Ok (neg_ℤ (pos m), rest)) v)

-- ---- the front of a term

opened : (depth_left tag : ℕ) (xs : List ℕ) → starts_with nat_eq (tag ∷ xs) empty_list ≡ false → read_at depth_left 0 (tag ∷ xs) ≡ term_of_form (below depth_left) depth_left (form_of tag) xs
unfolding whole_at byte_at
opened depth_left tag xs h = read_at-whole depth_left (tag ∷ xs) ∙ rw (skip_none (tag ∷ xs) h) refl

passed_over : (depth_left : ℕ) (xs : List ℕ) → read_at depth_left 0 (108 ∷ 0 ∷ 0 ∷ 0 ∷ 0 ∷ xs) ≡ read_at depth_left 0 xs
unfolding whole_at after_empty_lists
passed_over depth_left xs = read_at-whole depth_left (108 ∷ 0 ∷ 0 ∷ 0 ∷ 0 ∷ xs) ∙ sym (read_at-whole depth_left xs)

-- a list that has elements
not_empty : (field xs : List ℕ) (n : ℕ) → IsWord field (suc n) → starts_with nat_eq (108 ∷ (field ++ xs)) empty_list ≡ false
not_empty [] xs n h = absurd (omega (arith, h.wide))
not_empty (b ∷ []) xs n h = absurd (omega (arith, h.wide))
not_empty (b ∷ c ∷ []) xs n h = absurd (omega (arith, h.wide))
not_empty (b ∷ c ∷ d ∷ []) xs n h = absurd (omega (arith, h.wide))
not_empty (b ∷ c ∷ d ∷ e ∷ []) xs n h = by (starts_with nat_eq (108 ∷ b ∷ c ∷ d ∷ e ∷ xs) empty_list) refl
  where
    by : (test : Bool) → starts_with nat_eq (108 ∷ b ∷ c ∷ d ∷ e ∷ xs) empty_list ≡ test → test ≡ false
    by true k =
        let same : empty_list ≡ 108 ∷ b ∷ c ∷ d ∷ e ∷ [] = (bytes_decides empty_list (108 ∷ b ∷ c ∷ d ∷ e ∷ [])).0 k in
        absurd (omega (arith, ap (λ (front : List ℕ). from_be_bytes w32 (drop 1 front)) same, h.value))
    by false k = refl
not_empty (b ∷ c ∷ d ∷ e ∷ f ∷ field) xs n h = absurd (omega (arith, h.wide))

-- ---- terms with parts

text_depth_is : (text : List ℕ) → depth_of (text_list text) ≡ length text
text_depth_is [] = refl
text_depth_is (byte ∷ text) = omega (arith, text_depth_is text)

string_again : (depth_left : ℕ) (field text rest : List ℕ) → IsHalf field (length text) → depth_of (text_list text) ≤ depth_left → external_string_at depth_left ((field ++ text) ++ rest) ≡ Ok (text_list text, rest)
unfolding external_string_at
string_again depth_left field text rest f h =
    let fits : length text ≤ depth_left = omega (arith, text_depth_is text) in
    rw (append_assoc field text rest, number_again w16 field (text ++ rest) (length text) f.wide f.value, le-ltb depth_left (length text) fits, bytes_again (length text) text rest refl) refl

tuple_again : (depth_left count : ℕ) (bytes rest : List ℕ) (xs : Terms) → depth_of (tuple_term xs) ≤ depth_left → ((part : ℕ) → items_depth xs ≤ part → items_at (read_at part 0) count bytes ≡ Ok (elements_of xs, rest))
    → external_tuple_at (below depth_left) depth_left count bytes ≡ Ok (tuple_term xs, rest)
tuple_again zero count bytes rest xs h k = absurd (omega arith)
tuple_again (suc part) count bytes rest xs h k =
    tuple_at-items (suc part) part count bytes refl ∙ ap as_tuple (k part (omega arith)) ∙ ap (λ (ys : Terms). Ok (tuple_term ys, rest)) (terms_of-elements_of xs)

list_deep : (n : ℕ) (a : List ℕ) (t : TermValue) → SpellsList n a t → n ≤ depth_of t
list_deep _ _ _ (only_tail a t s) = omega arith
list_deep _ _ _ (head_before n a b h t s r) = omega (arith, list_deep n b t r)

atom_term_again : (depth_left : ℕ) (a text : List ℕ) → SpellsAtom a text → (rest : List ℕ) → read_at depth_left 0 (a ++ rest) ≡ Ok (atom_term text, rest)
unfolding form_of term_of_form leaf_at
atom_term_again depth_left _ _ (small_atom_utf8_ext text k) rest = opened depth_left 119 (length text ∷ (text ++ rest)) refl ∙ rw (small_atom_again text rest k) refl
atom_term_again depth_left _ _ (atom_utf8_ext field text f k) rest = opened depth_left 118 ((field ++ text) ++ rest) refl ∙ rw (long_atom_again field text rest f k) refl

mutual
  unfolding form_of term_of_form leaf_at byte_at items_at read_at pair_at

  pub spelled_again : (a : List ℕ) (t : TermValue) → SpellsTerm a t → (depth_left : ℕ) → depth_of t ≤ depth_left → (rest : List ℕ) → read_at depth_left 0 (a ++ rest) ≡ Ok (t, rest)
  spelled_again _ _ (small_integer_ext n) depth_left h rest = opened depth_left 97 (n ∷ rest) refl
  spelled_again _ _ (integer_ext field n f) depth_left h rest =
      opened depth_left 98 (field ++ rest) refl ∙ rw (number_again w32 field rest n f.wide f.value) refl
  spelled_again _ _ (small_big_ext sign digits z s small) depth_left h rest =
      opened depth_left 110 (length digits ∷ sign ∷ (digits ++ rest)) refl ∙ rw (big_again sign digits z s small rest) refl
  spelled_again _ _ nil_ext depth_left h rest = opened depth_left 106 rest refl
  spelled_again _ _ (utf8_atom a text s) depth_left h rest = atom_term_again depth_left a text s rest
  spelled_again _ _ (new_pid_ext name node id serial creation i s c a f g k) depth_left h rest =
      opened depth_left 88 ((name ++ id ++ serial ++ creation) ++ rest) refl ∙ pid_again name node id serial creation rest i s c a f g k
  spelled_again _ _ (newer_reference_ext count name node creation body words c f some few a g k) depth_left h rest =
      opened depth_left 90 ((count ++ name ++ creation ++ body) ++ rest) refl ∙ reference_again count name node creation body words rest c f some few a g k
  spelled_again _ _ (small_tuple_ext body xs s) depth_left h rest =
      opened depth_left 104 (count_of xs ∷ (body ++ rest)) refl ∙ tuple_again depth_left (count_of xs) (body ++ rest) rest xs h (λ part k. all_again body xs s part k rest)
  spelled_again _ _ (large_tuple_ext field body xs f s) depth_left h rest =
      opened depth_left 105 ((field ++ body) ++ rest) refl ∙ rw (append_assoc field body rest, number_again w32 field (body ++ rest) (count_of xs) f.wide f.value)
      (tuple_again depth_left (count_of xs) (body ++ rest) rest xs h (λ part k. all_again body xs s part k rest))
  spelled_again _ _ (string_ext field text f) depth_left h rest = opened depth_left 107 ((field ++ text) ++ rest) refl ∙ string_again depth_left field text rest f h
  spelled_again _ _ (list_ext field body n t f s) depth_left h rest =
      let fits : suc n ≤ depth_left = omega (arith, list_deep (suc n) body t s) in
      rw (append_assoc field body rest) (
      opened depth_left 108 (field ++ (body ++ rest)) (not_empty field (body ++ rest) n f)
      ∙ rw (number_again w32 field (body ++ rest) (suc n) f.wide f.value) (list_at-read depth_left (suc n) (body ++ rest) (omega arith) fits ∙ list_again (suc n) body t s depth_left h rest)
      )
  spelled_again _ _ (empty_list_ext body t s) depth_left h rest = passed_over depth_left (body ++ rest) ∙ spelled_again body t s depth_left h rest

  pub all_again : (a : List ℕ) (xs : Terms) → SpellsAll a xs → (part : ℕ) → items_depth xs ≤ part → (rest : List ℕ) → items_at (read_at part 0) (count_of xs) (a ++ rest) ≡ Ok (elements_of xs, rest)
  all_again _ _ no_elements part h rest = refl
  all_again _ _ (one_element first others x xs s r) part h rest =
      rw (append_assoc first others rest, spelled_again first x s part (omega arith) (others ++ rest), all_again others xs r part (omega arith) rest) refl

  pub list_again : (n : ℕ) (a : List ℕ) (t : TermValue) → SpellsList n a t → (depth_left : ℕ) → depth_of t ≤ depth_left → (rest : List ℕ) → read_at depth_left n (a ++ rest) ≡ Ok (t, rest)
  list_again _ _ _ (only_tail a t s) depth_left h rest = spelled_again a t s depth_left h rest
  list_again _ _ _ (head_before n first others head t s r) zero h rest = absurd (omega arith)
  list_again _ _ _ (head_before n first others head t s r) (suc depth_left) h rest =
      rw (append_assoc first others rest, spelled_again first head s depth_left (omega arith) (others ++ rest), list_again n others t r depth_left (omega arith) rest) refl

pub external_again : (front : List ℕ) (t : TermValue) → IsExternal front t → (rest : List ℕ) → external_at (front ++ rest) ≡ Ok (t, rest)
unfolding external_at byte_at
external_again front t h rest =
    ap (λ (xs : List ℕ). external_at (xs ++ rest)) h.versioned ∙ spelled_again h.body t h.spelled 4096 h.shallow rest
