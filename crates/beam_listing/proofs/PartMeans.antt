-- Numbers, atoms, terms and braces with a name in front are read exactly as they stand.
use Rattle.std.proofs.Common.{arith, ◌≡◌, ℕ, ◌^◌, ◌<◌, Bool, true, false, cond, ℤ, pos, negsuc, List, [], ◌∷◌, ◌++◌, Option, Some, None, Ok, Err, refl, sym, ap, subst, ◌∙◌, nat_lt}
use Rattle.std.proofs.lemmas.Bool.Decides.{nat_tests}
use Rattle.std.proofs.lemmas.Slice.Eq.{bytes_eq-Decides}
use Rattle.std.proofs.lemmas.Option.{same_Some}
use Rattle.beam_lemmas.proofs.SameText.{text_is}
use Rattle.beam_term.specs.Prelude.{TermValue}
use Rattle.beam_erltext.proofs.IntegerRoundTrip.{lt_true}
use Rattle.beam_model.specs.Prelude.{same_text, Reading, integer_at, atom_at, term_at, tuple_parts, whole_of, integer_of_text, atom_of_text, term_of, word_of, number_of_text, headed_by, headed_of, only, part_of}
use Rattle.beam_model.specs.Forms.{◌>>=◌}
use Rattle.beam_listing.specs.Prelude.{IsInteger, IsNumber, IsAtom, IsTermText, IsHeaded}
use Rattle.beam_listing.proofs.Bracketed.{tuple_told, tuple_read}

-- ---- steps

pub bind_some : {A B : Type 0} (o : Option A) (f : A → Option B) (y : B) → (o >>= f) ≡ Some y → (x : A) × (o ≡ Some x) × (f x ≡ Some y)
bind_some (Some x) f y e = (x, refl, e)
bind_some None f y e = absurd cc

-- a consequence of a choice's value, by cases on its branches
pub branches : {A C : Type 0} (b : Bool) (p q : Option A) (x : A) → cond b p q ≡ Some x → (b ≡ true → p ≡ Some x → C) → (b ≡ false → q ≡ Some x → C) → C
branches true p q x e yes_ no_ = yes_ refl e
branches false p q x e yes_ no_ = no_ refl e

pub is_same : (s t : List ℕ) → s ≡ t → same_text s t ≡ true
is_same s t e = (bytes_eq-Decides s t).1 e

-- ---- whole texts

whole_told : {A : Type 0} (r : Reading A) (x : A) → whole_of r ≡ Some x → r ≡ Ok (x, [])
whole_told (Ok (y, [])) x e = cc
whole_told (Ok (y, c ∷ cs)) x e = absurd cc
whole_told (Err left) x e = absurd cc

pub integer_told : (text : List ℕ) (z : ℤ) → integer_of_text text ≡ Some z → IsInteger z text
unfolding integer_of_text
integer_told text z e = whole_told (integer_at text) z e

pub integer_read : (text : List ℕ) (z : ℤ) → IsInteger z text → integer_of_text text ≡ Some z
unfolding integer_of_text
integer_read text z is = rw is refl

pub atom_told : (text name : List ℕ) → atom_of_text text ≡ Some name → IsAtom name text
unfolding atom_of_text
atom_told text name e = whole_told (atom_at text) name e

pub atom_read : (text name : List ℕ) → IsAtom name text → atom_of_text text ≡ Some name
unfolding atom_of_text
atom_read text name is = rw is refl

pub term_told : (text : List ℕ) (t : TermValue) → term_of text ≡ Some t → IsTermText t text
unfolding term_of
term_told text t e = whole_told (term_at 4096 text) t e

pub term_read : (text : List ℕ) (t : TermValue) → IsTermText t text → term_of text ≡ Some t
unfolding term_of
term_read text t is = rw is refl

below : (m n : ℕ) → nat_lt m n ≡ true → m < n
below m n t = grind (arith, nat_tests, t)

word_told : (z : ℤ) (n : ℕ) → word_of z ≡ Some n → (z ≡ pos n) × (n < 2 ^ 32)
word_told (pos m) n e = by (nat_lt m (2 ^ 32)) refl e
  where
    by : (b : Bool) → nat_lt m (2 ^ 32) ≡ b → cond b (Some m) None ≡ Some n → (pos m ≡ pos n) × (n < 2 ^ 32)
    by true t f = let same = same_Some m n f in (ap (λ (k : ℕ). pos k) same, subst (λ (k : ℕ). k < 2 ^ 32) same (below m (2 ^ 32) t))
    by false t f = absurd cc
word_told (negsuc m) n e = absurd cc

pub number_told : (text : List ℕ) (n : ℕ) → number_of_text text ≡ Some n → IsNumber n text
unfolding number_of_text
number_told text n e =
    let z = bind_some (integer_of_text text) word_of n e in
    let w = word_told z.0 n z.2 in
    (integer_told text (pos n) (z.1 ∙ ap (λ (k : ℤ). Some k) w.0), w.1)

pub number_read : (text : List ℕ) (n : ℕ) → IsNumber n text → number_of_text text ≡ Some n
unfolding number_of_text
number_read text n is = rw (integer_read text (pos n) is.0, lt_true n (2 ^ 32) is.1) refl

-- ---- a name in front

head_told : (all : List (List ℕ)) (name : List ℕ) (parts : List (List ℕ)) → headed_by all ≡ Some (name, parts)
    → (head : List ℕ) × (all ≡ head ∷ parts) × IsAtom name head
head_told [] name parts e = absurd cc
head_told (head ∷ []) name parts e = absurd cc
head_told (head ∷ part ∷ others) name parts e =
    let n = bind_some (atom_of_text head) (λ (name : List ℕ). Some (name, part ∷ others)) (name, parts) e in
    let pair : (n.0, part ∷ others) ≡ (name, parts) = same_Some (n.0, part ∷ others) (name, parts) n.2 in
    (head, ap (λ (p : List ℕ × List (List ℕ)). head ∷ p.1) pair, atom_told head name (n.1 ∙ ap (λ (p : List ℕ × List (List ℕ)). Some p.0) pair))

-- at least one part stands after the name
pub head_some : (all : List (List ℕ)) (name : List ℕ) → headed_by all ≡ Some (name, []) → ⊥
head_some all name e =
    let h = head_told all name [] e in
    let bad : None ≡ Some (name, []) = sym (ap headed_by h.1) ∙ e in
    absurd cc (bad)

pub headed_told : (text name : List ℕ) (parts : List (List ℕ)) → headed_of text ≡ Some (name, parts) → IsHeaded name parts text
unfolding headed_of
headed_told text name parts e =
    let all = bind_some (tuple_parts text) headed_by (name, parts) e in
    let h = head_told all.0 name parts all.2 in
    record { head = h.0; is_name = h.2; in_braces = tuple_told (h.0 ∷ parts) text (all.1 ∙ ap (λ (ps : List (List ℕ)). Some ps) h.1) }

pub headed_read : (text name part : List ℕ) (parts : List (List ℕ)) → IsHeaded name (part ∷ parts) text → headed_of text ≡ Some (name, part ∷ parts)
unfolding headed_of
headed_read text name part parts is = rw (tuple_read (is.head ∷ part ∷ parts) text is.in_braces, atom_read is.head name is.is_name) refl

pub only_told : (parts : List (List ℕ)) (part : List ℕ) → only parts ≡ Some part → parts ≡ part ∷ []
only_told [] part e = absurd cc
only_told (p ∷ []) part e = ap (λ (q : List ℕ). q ∷ []) (same_Some p part e)
only_told (p ∷ q ∷ ps) part e = absurd cc

pub part_told : (name text part : List ℕ) → part_of name text ≡ Some part → IsHeaded name (part ∷ []) text
unfolding part_of
part_told name text part e =
    let h = bind_some (headed_of text) (λ (h : List ℕ × List (List ℕ)). only h.1 >>= λ part. cond (same_text h.0 name) (Some part) None) part e in
    let p = bind_some (only h.0.1) (λ (part : List ℕ). cond (same_text h.0.0 name) (Some part) None) part h.2 in
    branches (same_text h.0.0 name) (Some p.0) None part p.2
    (λ same f. headed_told text name (part ∷ []) (h.1 ∙ (λ i. Some (text_is h.0.0 name same i, (only_told h.0.1 p.0 p.1 ∙ ap (λ (q : List ℕ). q ∷ []) (same_Some p.0 part f)) i))))
    (λ other f. absurd cc)

pub part_read : (name text part : List ℕ) → IsHeaded name (part ∷ []) text → part_of name text ≡ Some part
unfolding part_of
part_read name text part is = rw (headed_read text name part [] is, is_same name name refl) refl

-- a text with a name in front has each equal name in front
pub renamed : (name other : List ℕ) (parts : List (List ℕ)) (text : List ℕ) → same_text name other ≡ true → IsHeaded name parts text → IsHeaded other parts text
renamed name other parts text same is = subst (λ (w : List ℕ). IsHeaded w parts text) (text_is name other same) is

-- a text in braces begins with a brace
pub record Brace (text : List ℕ) : Type 0 where
  pub others : List ℕ
  pub parts : text ≡ 123 ∷ others

pub braced : (name : List ℕ) (parts : List (List ℕ)) (text : List ℕ) → IsHeaded name parts text → Brace text
braced name parts text is = record { others = is.in_braces.blanks ++ is.in_braces.inner; parts = is.in_braces.parts }
