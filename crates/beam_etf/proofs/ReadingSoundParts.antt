-- The bytes spell the term that is read, and the term is no deeper than its room: terms with parts.
use Rattle.std.proofs.Common.{◌≡◌, ℕ, zero, suc, ◌≤◌, Bool, true, false, cond, eqb, ltb, List, [], ◌∷◌, ◌++◌, length, Result, Ok, Err, refl, sym, ap, subst, ◌∙◌, append_assoc, arith, nat_eq, ltb-false, eqb-true}
use Rattle.std.specs.Int.{w16, w32}
use Rattle.std.specs.List.{starts_with}
use Rattle.std.specs.Cmp.Lexicographic.{bytes_decides}
use Rattle.beam_lemmas.proofs.Steps.{bind_ok, guard_false}
use Rattle.beam_model.specs.Prelude.{SpellsTerm, small_tuple_ext, large_tuple_ext, string_ext, list_ext, empty_list_ext, SpellsAll, no_elements, one_element, SpellsList, only_tail, head_before, IsExternal, ExternalFault, too_deep, bad_tag, form_of, bytes_at, big_endian_at, byte_at, Inner, text_list, external_string_at, pair_at, external_list_at, items_at, external_tuple_at, term_of_form, empty_list, after_empty_lists, whole_at, read_at, external_at}
use Rattle.beam_term.specs.Prelude.{TermValue, Terms, pair_term, tuple_term, terms_of, tuple_of, count_of, depth_of, items_depth, count_of-terms_of}
use Rattle.beam_model.specs.declared.external.Form.{Form}
use Rattle.beam_model.specs.declared.external.Form.TheVariants as forms
use Rattle.beam_model.specs.ExternalReading.{◌>>=◌}
use Rattle.beam_etf.proofs.ReadingSound.{ok_is, byte_takes, bytes_takes, number_takes, Taken, leaf_takes}
use Rattle.beam_etf.proofs.TextDepth.{text_depth}
use Rattle.beam_etf.proofs.Tags.{Tagged, tagged}

-- what was taken from the front: n elements of a list and its tail
pub record ListTaken (depth_left n : ℕ) (bytes : List ℕ) (t : TermValue) (rest : List ℕ) : Type 0 where
  pub front : List ℕ
  pub parts : bytes ≡ front ++ rest
  pub spelled : SpellsList n front t
  pub shallow : depth_of t ≤ depth_left

-- what was taken from the front: n elements of a tuple
pub record ItemsTaken (depth_left n : ℕ) (bytes : List ℕ) (xs : List TermValue) (rest : List ℕ) : Type 0 where
  pub front : List ℕ
  pub parts : bytes ≡ front ++ rest
  pub spelled : SpellsAll front (terms_of xs)
  pub count : length xs ≡ n
  pub shallow : items_depth (terms_of xs) ≤ depth_left

single_is : (n : ℕ) (a : List ℕ) (t : TermValue) → SpellsList n a t → n ≡ 0 → SpellsTerm a t
single_is _ _ _ (only_tail a t s) e = s
single_is _ _ _ (head_before n a b h t s r) e = absurd (omega arith)

-- a reader of parts takes elements and a tail that fit the room
abbrev pub Takes : ℕ → Inner → Type 0
Takes depth_left inner = (n : ℕ) (bytes : List ℕ) (t : TermValue) (rest : List ℕ) → inner n bytes ≡ Ok (t, rest) → ListTaken depth_left n bytes t rest

single : (depth_left : ℕ) (bytes : List ℕ) (t : TermValue) (rest : List ℕ) → ListTaken depth_left 0 bytes t rest → Taken depth_left bytes t rest
single depth_left bytes t rest x = record { front = x.front; parts = x.parts; spelled = single_is 0 x.front t x.spelled refl; shallow = x.shallow }

alone : (depth_left : ℕ) (bytes : List ℕ) (t : TermValue) (rest : List ℕ) → Taken depth_left bytes t rest → ListTaken depth_left 0 bytes t rest
alone depth_left bytes t rest x = record { front = x.front; parts = x.parts; spelled = only_tail x.front t x.spelled; shallow = x.shallow }

pair_takes : (depth_left : ℕ) (inner : Inner) → Takes depth_left inner → (n : ℕ) (bytes : List ℕ) (t : TermValue) (rest : List ℕ) → pair_at inner n bytes ≡ Ok (t, rest) → ListTaken (suc depth_left) (suc n) bytes t rest
unfolding pair_at
pair_takes depth_left inner takes n bytes t rest e =
    let a = bind_ok (inner 0 bytes) (λ head. inner n head.1 >>= λ last. Ok (pair_term head.0 last.0, last.1)) (t, rest) e in
    let b = bind_ok (inner n a.0.1) (λ last. Ok (pair_term a.0.0 last.0, last.1)) (t, rest) a.2 in
    let k = ok_is (pair_term a.0.0 b.0.0, b.0.1) (t, rest) b.2 in
    let head = single depth_left bytes a.0.0 a.0.1 (takes 0 bytes a.0.0 a.0.1 a.1) in
    let last = takes n a.0.1 b.0.0 b.0.1 b.1 in
    let taken : ListTaken (suc depth_left) (suc n) bytes (pair_term a.0.0 b.0.0) b.0.1 = record {
      front = head.front ++ last.front;
      parts = head.parts ∙ ap (λ (r : List ℕ). head.front ++ r) last.parts ∙ sym (append_assoc head.front last.front b.0.1);
      spelled = head_before n head.front last.front a.0.0 b.0.0 head.spelled last.spelled;
      shallow = omega (arith, head.shallow, last.shallow);
    } in
    subst (λ (x : TermValue × List ℕ). ListTaken (suc depth_left) (suc n) bytes x.0 x.1) k taken

pub items_takes : (depth_left : ℕ) (item : List ℕ → Result (TermValue × List ℕ) ExternalFault) → ((bytes : List ℕ) (t : TermValue) (rest : List ℕ) → item bytes ≡ Ok (t, rest) → Taken depth_left bytes t rest)
    → (n : ℕ) (bytes : List ℕ) (xs : List TermValue) (rest : List ℕ) → items_at item n bytes ≡ Ok (xs, rest) → ItemsTaken depth_left n bytes xs rest
unfolding items_at
items_takes depth_left item takes zero bytes xs rest e =
    let k = ok_is ([], bytes) (xs, rest) e in
    let taken : ItemsTaken depth_left 0 bytes [] bytes = record { front = []; parts = refl; spelled = no_elements; count = refl; shallow = omega arith } in
    subst (λ (x : List TermValue × List ℕ). ItemsTaken depth_left 0 bytes x.0 x.1) k taken
items_takes depth_left item takes (suc n) bytes xs rest e =
    let a = bind_ok (item bytes) (λ first. items_at item n first.1 >>= λ others. Ok (first.0 ∷ others.0, others.1)) (xs, rest) e in
    let b = bind_ok (items_at item n a.0.1) (λ others. Ok (a.0.0 ∷ others.0, others.1)) (xs, rest) a.2 in
    let k = ok_is (a.0.0 ∷ b.0.0, b.0.1) (xs, rest) b.2 in
    let first = takes bytes a.0.0 a.0.1 a.1 in
    let others = items_takes depth_left item takes n a.0.1 b.0.0 b.0.1 b.1 in
    let taken : ItemsTaken depth_left (suc n) bytes (a.0.0 ∷ b.0.0) b.0.1 = record {
      front = first.front ++ others.front;
      parts = first.parts ∙ ap (λ (r : List ℕ). first.front ++ r) others.parts ∙ sym (append_assoc first.front others.front b.0.1);
      spelled = one_element first.front others.front a.0.0 (terms_of b.0.0) first.spelled others.spelled;
      count = ap suc others.count;
      shallow = omega (arith, first.shallow, others.shallow);
    } in
    subst (λ (x : List TermValue × List ℕ). ItemsTaken depth_left (suc n) bytes x.0 x.1) k taken

string_takes : (depth_left tag : ℕ) → tag ≡ 107 → (bytes : List ℕ) (t : TermValue) (rest : List ℕ) → external_string_at depth_left bytes ≡ Ok (t, rest) → Taken depth_left (tag ∷ bytes) t rest
unfolding external_string_at
string_takes depth_left tag is bytes t rest e =
    let a = bind_ok (big_endian_at w16 bytes) (λ count. cond (ltb depth_left count.0) (Err too_deep) (bytes_at count.0 count.1 >>= λ text. Ok (text_list text.0, text.1))) (t, rest) e in
    let g = guard_false (ltb depth_left a.0.0) too_deep (bytes_at a.0.0 a.0.1 >>= λ text. Ok (text_list text.0, text.1)) (t, rest) a.2 in
    let b = bind_ok (bytes_at a.0.0 a.0.1) (λ text. Ok (text_list text.0, text.1)) (t, rest) g.1 in
    let k = ok_is (text_list b.0.0, b.0.1) (t, rest) b.2 in
    let n = number_takes w16 bytes a.0.0 a.0.1 a.1 in
    let f = bytes_takes a.0.0 a.0.1 b.0.0 b.0.1 b.1 in
    let fits : a.0.0 ≤ depth_left = ltb-false _ _ g.0 in
    let taken : Taken depth_left (tag ∷ bytes) (text_list b.0.0) b.0.1 = record {
      front = 107 ∷ (n.0 ++ b.0.0);
      parts = λ i. is i ∷ (n.1.parts ∙ ap (λ (r : List ℕ). n.0 ++ r) f.parts ∙ sym (append_assoc n.0 b.0.0 b.0.1)) i;
      spelled = string_ext n.0 b.0.0 (record { wide = n.1.wide; value = n.2 ∙ sym f.wide });
      shallow = omega (arith, text_depth b.0.0, f.wide, fits);
    } in
    subst (λ (x : TermValue × List ℕ). Taken depth_left (tag ∷ bytes) x.0 x.1) k taken

-- a reader of parts that has one level of room less
abbrev pub Deeper : ℕ → Inner → Type 0
Deeper depth_left inner = (part : ℕ) → depth_left ≡ suc part → Takes part inner

list_takes : (depth_left : ℕ) (inner : Inner) → Deeper depth_left inner → (count : ℕ) (bytes : List ℕ) (t : TermValue) (rest : List ℕ) → external_list_at inner depth_left count bytes ≡ Ok (t, rest)
    → ListTaken depth_left count bytes t rest × ((n : ℕ) × (count ≡ suc n))
unfolding external_list_at
list_takes depth_left inner deeper zero bytes t rest e = absurd cc
list_takes zero inner deeper (suc n) bytes t rest e =
    let g = guard_false (ltb 0 (suc n)) too_deep (pair_at inner n bytes) (t, rest) e in
    let k : suc n ≤ 0 = ltb-false _ _ g.0 in
    absurd (omega arith)
list_takes (suc depth_left) inner deeper (suc n) bytes t rest e =
    let g = guard_false (ltb (suc depth_left) (suc n)) too_deep (pair_at inner n bytes) (t, rest) e in
    (pair_takes depth_left inner (deeper depth_left refl) n bytes t rest g.1, (n, refl))

tuple_takes : (depth_left : ℕ) (inner : Inner) → Deeper depth_left inner → (count : ℕ) (bytes : List ℕ) (t : TermValue) (rest : List ℕ) → external_tuple_at inner depth_left count bytes ≡ Ok (t, rest)
    → (front : List ℕ) × (xs : Terms) × (bytes ≡ front ++ rest) × (t ≡ tuple_term xs) × SpellsAll front xs × (count_of xs ≡ count) × (depth_of t ≤ depth_left)
unfolding external_tuple_at
tuple_takes zero inner deeper count bytes t rest e = absurd cc
tuple_takes (suc depth_left) inner deeper count bytes t rest e =
    let g = guard_false (eqb (suc depth_left) 0) too_deep (items_at (inner 0) count bytes >>= λ items. Ok (tuple_of items.0, items.1)) (t, rest) e in
    let a = bind_ok (items_at (inner 0) count bytes) (λ items. Ok (tuple_of items.0, items.1)) (t, rest) g.1 in
    let k = ok_is (tuple_of a.0.0, a.0.1) (t, rest) a.2 in
    let x = items_takes depth_left (inner 0) (λ bs u r h. single depth_left bs u r (deeper depth_left refl 0 bs u r h)) count bytes a.0.0 a.0.1 a.1 in
    let is : tuple_of a.0.0 ≡ t = ap (λ (p : TermValue × List ℕ). p.0) k in
    let r : a.0.1 ≡ rest = ap (λ (p : TermValue × List ℕ). p.1) k in
    (x.front, terms_of a.0.0, x.parts ∙ ap (λ (r : List ℕ). x.front ++ r) r, sym is, x.spelled, count_of-terms_of a.0.0 ∙ x.count, omega (arith, x.shallow, ap depth_of is))

form_takes : (depth_left : ℕ) (inner : Inner) → Deeper depth_left inner → (form : Form) (tag : ℕ) → Tagged form tag → (bytes : List ℕ) (t : TermValue) (rest : List ℕ) → term_of_form inner depth_left form bytes ≡ Ok (t, rest) → Taken depth_left (tag ∷ bytes) t rest
unfolding term_of_form
form_takes depth_left inner deeper forms.String tag is bytes t rest e = string_takes depth_left tag is bytes t rest e
form_takes depth_left inner deeper forms.List tag is bytes t rest e =
    let a = bind_ok (big_endian_at w32 bytes) (λ count. external_list_at inner depth_left count.0 count.1) (t, rest) e in
    let n = number_takes w32 bytes a.0.0 a.0.1 a.1 in
    let x = list_takes depth_left inner deeper a.0.0 a.0.1 t rest a.2 in
    let m = x.1.0 in
    record {
      front = 108 ∷ (n.0 ++ x.0.front);
      parts = λ i. is i ∷ (n.1.parts ∙ ap (λ (r : List ℕ). n.0 ++ r) x.0.parts ∙ sym (append_assoc n.0 x.0.front rest)) i;
      spelled = list_ext n.0 x.0.front m t (record { wide = n.1.wide; value = n.2 ∙ x.1.1 }) (subst (λ (k : ℕ). SpellsList k x.0.front t) x.1.1 x.0.spelled);
      shallow = x.0.shallow;
    }
form_takes depth_left inner deeper forms.SmallTuple tag is bytes t rest e =
    let a = bind_ok (byte_at bytes) (λ count. external_tuple_at inner depth_left count.0 count.1) (t, rest) e in
    let one = byte_takes bytes a.0.0 a.0.1 a.1 in
    let x = tuple_takes depth_left inner deeper a.0.0 a.0.1 t rest a.2 in
    let taken : Taken depth_left (tag ∷ bytes) (tuple_term x.1) rest = record {
      front = 104 ∷ count_of x.1 ∷ x.0;
      parts = λ i. is i ∷ (one ∙ (λ j. sym x.5 j ∷ x.2 j)) i;
      spelled = small_tuple_ext x.0 x.1 x.4;
      shallow = omega (arith, x.6, ap depth_of x.3);
    } in
    subst (λ (u : TermValue). Taken depth_left (tag ∷ bytes) u rest) (sym x.3) taken
form_takes depth_left inner deeper forms.LargeTuple tag is bytes t rest e =
    let a = bind_ok (big_endian_at w32 bytes) (λ count. external_tuple_at inner depth_left count.0 count.1) (t, rest) e in
    let n = number_takes w32 bytes a.0.0 a.0.1 a.1 in
    let x = tuple_takes depth_left inner deeper a.0.0 a.0.1 t rest a.2 in
    let taken : Taken depth_left (tag ∷ bytes) (tuple_term x.1) rest = record {
      front = 105 ∷ (n.0 ++ x.0);
      parts = λ i. is i ∷ (n.1.parts ∙ ap (λ (r : List ℕ). n.0 ++ r) x.2 ∙ sym (append_assoc n.0 x.0 rest)) i;
      spelled = large_tuple_ext n.0 x.0 x.1 (record { wide = n.1.wide; value = n.2 ∙ sym x.5 }) x.4;
      shallow = omega (arith, x.6, ap depth_of x.3);
    } in
    subst (λ (u : TermValue). Taken depth_left (tag ∷ bytes) u rest) (sym x.3) taken
form_takes depth_left inner deeper forms.SmallInteger tag is bytes t rest e = leaf_takes depth_left forms.SmallInteger tag is bytes t rest e
form_takes depth_left inner deeper forms.Integer tag is bytes t rest e = leaf_takes depth_left forms.Integer tag is bytes t rest e
form_takes depth_left inner deeper forms.SmallBig tag is bytes t rest e = leaf_takes depth_left forms.SmallBig tag is bytes t rest e
form_takes depth_left inner deeper forms.Nil tag is bytes t rest e = leaf_takes depth_left forms.Nil tag is bytes t rest e
form_takes depth_left inner deeper forms.SmallAtom tag is bytes t rest e = leaf_takes depth_left forms.SmallAtom tag is bytes t rest e
form_takes depth_left inner deeper forms.LongAtom tag is bytes t rest e = leaf_takes depth_left forms.LongAtom tag is bytes t rest e
form_takes depth_left inner deeper forms.Pid tag is bytes t rest e = leaf_takes depth_left forms.Pid tag is bytes t rest e
form_takes depth_left inner deeper forms.Reference tag is bytes t rest e = leaf_takes depth_left forms.Reference tag is bytes t rest e
form_takes depth_left inner deeper forms.LeftOut tag is bytes t rest e = leaf_takes depth_left forms.LeftOut tag is bytes t rest e
form_takes depth_left inner deeper forms.Unknown tag is bytes t rest e = leaf_takes depth_left forms.Unknown tag is bytes t rest e

-- lists of no elements before what was taken
passed : (depth_left : ℕ) (bytes : List ℕ) (t : TermValue) (rest : List ℕ) → Taken depth_left (after_empty_lists bytes) t rest → Taken depth_left bytes t rest
unfolding after_empty_lists
passed depth_left [] t rest x = x
passed depth_left (a ∷ []) t rest x = x
passed depth_left (a ∷ b ∷ []) t rest x = x
passed depth_left (a ∷ b ∷ c ∷ []) t rest x = x
passed depth_left (a ∷ b ∷ c ∷ d ∷ []) t rest x = x
passed depth_left (a ∷ b ∷ c ∷ d ∷ e ∷ others) t rest x = by (passed depth_left others t rest) (starts_with nat_eq (a ∷ b ∷ c ∷ d ∷ e ∷ others) empty_list) refl x
  where
    by : (Taken depth_left (after_empty_lists others) t rest → Taken depth_left others t rest) → (test : Bool) → starts_with nat_eq (a ∷ b ∷ c ∷ d ∷ e ∷ others) empty_list ≡ test
        → Taken depth_left (cond test (after_empty_lists others) (a ∷ b ∷ c ∷ d ∷ e ∷ others)) t rest → Taken depth_left (a ∷ b ∷ c ∷ d ∷ e ∷ others) t rest
    by behind_it true h y =
        let z = behind_it y in
        let same : empty_list ≡ a ∷ b ∷ c ∷ d ∷ e ∷ [] = (bytes_decides empty_list (a ∷ b ∷ c ∷ d ∷ e ∷ [])).0 h in
        record {
          front = 108 ∷ 0 ∷ 0 ∷ 0 ∷ 0 ∷ z.front;
          parts = ap (λ (front : List ℕ). front ++ others) (sym same) ∙ ap (λ (r : List ℕ). 108 ∷ 0 ∷ 0 ∷ 0 ∷ 0 ∷ r) z.parts;
          spelled = empty_list_ext z.front t z.spelled;
          shallow = z.shallow;
        }
    by behind_it false h y = y

whole_takes : (depth_left : ℕ) (inner : Inner) → Deeper depth_left inner → (bytes : List ℕ) (t : TermValue) (rest : List ℕ) → whole_at inner depth_left bytes ≡ Ok (t, rest) → Taken depth_left bytes t rest
unfolding whole_at
whole_takes depth_left inner deeper bytes t rest e =
    let a = bind_ok (byte_at (after_empty_lists bytes)) (λ tag. term_of_form inner depth_left (form_of tag.0) tag.1) (t, rest) e in
    let one = byte_takes (after_empty_lists bytes) a.0.0 a.0.1 a.1 in
    let taken = form_takes depth_left inner deeper (form_of a.0.0) a.0.0 (tagged a.0.0) a.0.1 t rest a.2 in
    passed depth_left bytes t rest (subst (λ (r : List ℕ). Taken depth_left r t rest) (sym one) taken)

pub read_takes : (depth_left : ℕ) → Takes depth_left (read_at depth_left)
unfolding read_at
read_takes zero zero bytes t rest e = alone 0 bytes t rest (whole_takes 0 (λ n bs. Err too_deep) (λ part k. absurd (omega arith)) bytes t rest e)
read_takes zero (suc n) bytes t rest e = absurd cc
read_takes (suc depth_left) zero bytes t rest e =
    alone (suc depth_left) bytes t rest (whole_takes (suc depth_left) (read_at depth_left) (λ part k. let same : depth_left ≡ part = omega arith in subst (λ (p : ℕ). Takes p (read_at depth_left)) same (read_takes depth_left)) bytes t rest e)
read_takes (suc depth_left) (suc n) bytes t rest e = pair_takes depth_left (read_at depth_left) (read_takes depth_left) n bytes t rest e

pub term_takes : (depth_left : ℕ) (bytes : List ℕ) (t : TermValue) (rest : List ℕ) → read_at depth_left 0 bytes ≡ Ok (t, rest) → Taken depth_left bytes t rest
term_takes depth_left bytes t rest e = single depth_left bytes t rest (read_takes depth_left 0 bytes t rest e)

-- a whole term that is read
pub record ExternalTaken (bytes : List ℕ) (t : TermValue) (rest : List ℕ) : Type 0 where
  pub front : List ℕ
  pub parts : bytes ≡ front ++ rest
  pub external : IsExternal front t

pub external_takes : (bytes : List ℕ) (t : TermValue) (rest : List ℕ) → external_at bytes ≡ Ok (t, rest) → ExternalTaken bytes t rest
unfolding external_at
external_takes bytes t rest e =
    let a = bind_ok (byte_at bytes) (λ version. cond (eqb version.0 131) (read_at 4096 0 version.1) (Err bad_tag)) (t, rest) e in
    let one = byte_takes bytes a.0.0 a.0.1 a.1 in
    let v = version_is (eqb a.0.0 131) (read_at 4096 0 a.0.1) (t, rest) a.2 in
    let x = term_takes 4096 a.0.1 t rest v.1 in
    record {
      front = 131 ∷ x.front;
      parts = one ∙ (λ i. eqb-true a.0.0 131 v.0 i ∷ x.parts i);
      external = record { body = x.front; versioned = refl; spelled = x.spelled; shallow = x.shallow };
    }
  where
    version_is : {A : Type 0} (b : Bool) (r : Result A ExternalFault) (y : A) → cond b r (Err bad_tag) ≡ Ok y → (b ≡ true) × (r ≡ Ok y)
    version_is true r y e = (refl, e)
    version_is false r y e = absurd cc
