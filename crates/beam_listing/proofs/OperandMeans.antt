-- Operands are read exactly as they stand.
use Rattle.std.proofs.Common.{◌≡◌, arith, suc, take, Ok, inl, inr, ◌⊎◌, ℕ, Bool, true, false, cond, List, [], ◌∷◌, ◌++◌, Option, Some, None, refl, sym, ap, subst, ◌∙◌, append_assoc, append-nil, codes, ◌==◌, eqb-true}
use Rattle.std.proofs.lemmas.Bool.Decides.{nat_tests}
use Rattle.std.proofs.lemmas.Option.{same_Some}
use Rattle.beam_lemmas.proofs.SameText.{text_is}
use Rattle.beam_term.specs.Prelude.{TermValue, int_term, atom_term, nil_term}
use Rattle.beam_erltext.proofs.Texts.{differ}
use Rattle.beam_erltext.proofs.AtomRoundTrip.{IsBare, bare_is}
use Rattle.beam_model.specs.declared.function.Import.{Import}
use Rattle.beam_model.specs.declared.instruction.Argument.{Argument}
use Rattle.beam_model.specs.declared.instruction.Operand.{Operand}
use Rattle.beam_model.specs.declared.opcode.Kind.{Kind}
use Rattle.beam_model.specs.Prelude.{same_text, is_digit, is_name, is_unquoted, Reading, fault_at, name_len, unquoted_atom_at, atom_at, list_parts, integer_of_text, atom_of_text, number_of_text, headed_of, only, part_of, plain_register, typed_register, register_of_parts, register_of_text, label_of_text, term_of_part, term_source, is_register_name, source_of_parts, nil_source, source_of_text, member_of_parts, number_member, member_of_text, members_from, members_of_text, import_of_parts, import_of_text, native_of, label_argument, atom_argument, operand_of_text, operands_from}
use Rattle.beam_model.specs.declared.instruction.Argument.TheVariants as argument
use Rattle.beam_model.specs.declared.instruction.Operand.TheVariants as operand
use Rattle.beam_model.specs.declared.opcode.Kind.TheVariants as kind
use Rattle.beam_model.specs.Forms.{◌>>=◌}
use Rattle.beam_listing.specs.Prelude.{AreEach, IsNumber, IsAtom, IsTermText, IsHeaded, IsTagged, IsLabel, IsPlainRegister, IsTypedRegister, IsRegister, IsConstant, IsSource, BeginsWithDigit, IsMember, IsNative, AreMembers}
use Rattle.beam_listing.specs.OperandForm.{IsImport, IsOperand, AreOperands}
use Rattle.beam_listing.proofs.Bracketed.{list_told, list_read}
use Rattle.beam_listing.proofs.PartMeans.{bind_some, branches, integer_told, integer_read, atom_told, atom_read, term_told, term_read, number_told, number_read, headed_told, headed_read, only_told, part_told, part_read, renamed, Brace, braced}

-- ---- labels

pub label_told : (text : List ℕ) (n : ℕ) → label_of_text text ≡ Some n → IsLabel n text
unfolding label_of_text
label_told text n e =
    let p = bind_some (part_of (codes "f") text) number_of_text n e in
    (p.0, part_told (codes "f") text p.0 p.1, number_told p.0 n p.2)

pub label_read : (text : List ℕ) (n : ℕ) → IsLabel n text → label_of_text text ≡ Some n
unfolding label_of_text
label_read text n (part, is, number) = rw (part_read (codes "f") text part is, number_read part n number) refl

-- ---- registers

abbrev by_name : List ℕ → ℕ → Option Argument
by_name name n = cond (same_text name (codes "x")) (Some (argument.X n)) (cond (same_text name (codes "y")) (Some (argument.Y n)) None)

by_name_told : (name : List ℕ) (n : ℕ) (a : Argument) (part text : List ℕ) → IsHeaded name (part ∷ []) text → IsNumber n part → by_name name n ≡ Some a → IsPlainRegister a text
by_name_told name n a part text is number e =
    branches (same_text name (codes "x")) (Some (argument.X n)) (cond (same_text name (codes "y")) (Some (argument.Y n)) None) a e
    (λ same f. subst (λ (b : Argument). IsPlainRegister b text) (same_Some (argument.X n) a f) (part, renamed name (codes "x") (part ∷ []) text same is, number))
    (λ other f. branches (same_text name (codes "y")) (Some (argument.Y n)) None a f
    (λ same g. subst (λ (b : Argument). IsPlainRegister b text) (same_Some (argument.Y n) a g) (part, renamed name (codes "y") (part ∷ []) text same is, number))
    (λ none g. absurd cc (g)))

plain_told : (name : List ℕ) (parts : List (List ℕ)) (a : Argument) (text : List ℕ) → IsHeaded name parts text → plain_register name parts ≡ Some a → IsPlainRegister a text
unfolding plain_register
plain_told name parts a text is e =
    let p = bind_some (only parts) (λ (part : List ℕ). number_of_text part >>= by_name name) a e in
    let n = bind_some (number_of_text p.0) (by_name name) a p.2 in
    by_name_told name n.0 a p.0 text (subst (λ (ps : List (List ℕ)). IsHeaded name ps text) (only_told parts p.0 p.1) is) (number_told p.0 n.0 n.1) n.2

-- the text in braces from which an argument is read
record Braced (reader : List ℕ → List (List ℕ) → Option Argument) (a : Argument) (text : List ℕ) : Type 0 where
  name : List ℕ
  parts : List (List ℕ)
  headed : headed_of text ≡ Some (name, parts)
  read : reader name parts ≡ Some a

plain_read : (a : Argument) (text : List ℕ) → IsPlainRegister a text → Braced plain_register a text
unfolding plain_register
plain_read (argument.X n) text (part, is, number) = record { name = codes "x"; parts = part ∷ []; headed = headed_read text (codes "x") part [] is; read = rw (number_read part n number) refl }
plain_read (argument.Y n) text (part, is, number) = record { name = codes "y"; parts = part ∷ []; headed = headed_read text (codes "y") part [] is; read = rw (number_read part n number) refl }
plain_read (argument.Term t) text is = absurd is
plain_read (argument.Label n) text is = absurd is
plain_read (argument.Number n) text is = absurd is

typed_told : (parts : List (List ℕ)) (a : Argument) (text : List ℕ) → IsHeaded (codes "tr") parts text → typed_register parts ≡ Some a → IsTypedRegister a text
unfolding typed_register
typed_told [] a text is e = absurd cc
typed_told (p ∷ []) a text is e = absurd cc
typed_told (register ∷ about ∷ []) a text is e =
    let h = bind_some (headed_of register) (λ (h : List ℕ × List (List ℕ)). plain_register h.0 h.1) a e in
    (register, about, is, plain_told h.0.0 h.0.1 a register (headed_told register h.0.0 h.0.1 h.1) h.2)
typed_told (p ∷ q ∷ r ∷ ps) a text is e = absurd cc

pub register_by_told : (name : List ℕ) (parts : List (List ℕ)) (a : Argument) (text : List ℕ) → IsHeaded name parts text → register_of_parts name parts ≡ Some a → IsRegister a text
unfolding register_of_parts
register_by_told name parts a text is e =
    branches (same_text name (codes "tr")) (typed_register parts) (plain_register name parts) a e
    (λ same f. inr (typed_told parts a text (renamed name (codes "tr") parts text same is) f)) (λ other f. inl (plain_told name parts a text is f))

pub register_told : (text : List ℕ) (a : Argument) → register_of_text text ≡ Some a → IsRegister a text
unfolding register_of_text
register_told text a e =
    let h = bind_some (headed_of text) (λ (h : List ℕ × List (List ℕ)). register_of_parts h.0 h.1) a e in
    register_by_told h.0.0 h.0.1 a text (headed_told text h.0.0 h.0.1 h.1) h.2

-- a register's name is its own
record RegisterBraced (a : Argument) (text : List ℕ) : Type 0 where
  braced : Braced register_of_parts a text
  brace : Brace text
  own : is_register_name braced.name ≡ true
  no_label : same_text braced.name (codes "f") ≡ false

register_braced : (a : Argument) (text : List ℕ) → IsRegister a text → RegisterBraced a text
unfolding register_of_parts typed_register plain_register
register_braced (argument.X n) text (inl (part, is, number)) =
    record { braced = record { name = codes "x"; parts = part ∷ []; headed = headed_read text (codes "x") part [] is; read = rw (number_read part n number) refl }; brace = braced (codes "x") (part ∷ []) text is; own = refl; no_label = refl }
register_braced (argument.Y n) text (inl (part, is, number)) =
    record { braced = record { name = codes "y"; parts = part ∷ []; headed = headed_read text (codes "y") part [] is; read = rw (number_read part n number) refl }; brace = braced (codes "y") (part ∷ []) text is; own = refl; no_label = refl }
register_braced (argument.Term t) text (inl is) = absurd is
register_braced (argument.Label n) text (inl is) = absurd is
register_braced (argument.Number n) text (inl is) = absurd is
register_braced a text (inr (register, about, is, plain)) =
    let p = plain_read a register plain in
    let headed = p.headed in
    record { braced = record { name = codes "tr"; parts = register ∷ about ∷ []; headed = headed_read text (codes "tr") register (about ∷ []) is; read = rw headed p.read }; brace = braced (codes "tr") (register ∷ about ∷ []) text is; own = refl; no_label = refl }

pub register_read : (text : List ℕ) (a : Argument) → IsRegister a text → register_of_text text ≡ Some a
unfolding register_of_text
register_read text a is =
    let r = register_braced a text is in
    let headed = r.braced.headed in
    rw headed r.braced.read

-- ---- terms

-- a consequence of a value that is read from a part
value_told : {A : Type 0} (o : Option A) (f : A → TermValue) (t : TermValue) (text : List ℕ) → (o >>= λ x. Some (f x)) ≡ Some t → ((x : A) → o ≡ Some x → IsConstant (f x) text) → IsConstant t text
value_told {A = A} o f t text e each =
    let x = bind_some o (λ (x : A). Some (f x)) t e in
    subst (λ (u : TermValue). IsConstant u text) (same_Some (f x.0) t x.2) (each x.0 x.1)

constant_told : (name part : List ℕ) (t : TermValue) (text : List ℕ) → IsHeaded name (part ∷ []) text → term_of_part name part ≡ Some t → IsConstant t text
unfolding term_of_part
constant_told name part t text is e =
    branches (same_text name (codes "integer")) (integer_of_text part >>= λ z. Some (int_term z)) _ t e
    (λ same f. value_told (integer_of_text part) int_term t text f (λ z g. inl (part, renamed name (codes "integer") (part ∷ []) text same is, integer_told part z g)))
    (λ other f. branches (same_text name (codes "atom")) (atom_of_text part >>= λ w. Some (atom_term w)) _ t f
    (λ same g. value_told (atom_of_text part) atom_term t text g (λ w h. inl (part, renamed name (codes "atom") (part ∷ []) text same is, atom_told part w h)))
    (λ none g. branches (same_text name (codes "literal")) _ None t g
    (λ same h. inr (part, renamed name (codes "literal") (part ∷ []) text same is, term_told part t h))
    (λ nothing h. absurd cc (h))))

-- ---- sources

as_source : (a : Argument) (text : List ℕ) → IsRegister a text → IsSource a text
as_source (argument.Term t) text (inl is) = absurd is
as_source (argument.Term t) text (inr (register, about, is, plain)) = absurd plain
as_source (argument.X n) text is = is
as_source (argument.Y n) text is = is
as_source (argument.Label n) text is = is
as_source (argument.Number n) text is = is

term_source_told : (name : List ℕ) (parts : List (List ℕ)) (a : Argument) (text : List ℕ) → IsHeaded name parts text → term_source name parts ≡ Some a → IsSource a text
unfolding term_source
term_source_told name parts a text is e =
    let p = bind_some (only parts) (λ (part : List ℕ). term_of_part name part >>= λ t. Some (argument.Term t)) a e in
    let t = bind_some (term_of_part name p.0) (λ (t : TermValue). Some (argument.Term t)) a p.2 in
    let headed = subst (λ (ps : List (List ℕ)). IsHeaded name ps text) (only_told parts p.0 p.1) is in
    subst (λ (b : Argument). IsSource b text) (same_Some (argument.Term t.0) a t.2) (constant_told name p.0 t.0 text headed t.1)

source_by_told : (name : List ℕ) (parts : List (List ℕ)) (a : Argument) (text : List ℕ) → IsHeaded name parts text → source_of_parts name parts ≡ Some a → IsSource a text
source_by_told name parts a text is e =
    branches (is_register_name name) (register_of_parts name parts) (term_source name parts) a e
    (λ same f. as_source a text (register_by_told name parts a text is f)) (λ other f. term_source_told name parts a text is f)

nil_told : (text : List ℕ) (a : Argument) → nil_source text ≡ Some a → IsSource a text
unfolding nil_source
nil_told text a e =
    let w = bind_some (atom_of_text text) (λ (name : List ℕ). cond (same_text name (codes "nil")) (Some (argument.Term nil_term)) None) a e in
    branches (same_text w.0 (codes "nil")) (Some (argument.Term nil_term)) None a w.2
    (λ same f. subst (λ (b : Argument). IsSource b text) (same_Some (argument.Term nil_term) a f) (inl (subst (λ (v : List ℕ). IsAtom v text) (text_is w.0 (codes "nil") same) (atom_told text w.0 w.1))))
    (λ other f. absurd cc (f))

source_told : (text : List ℕ) (a : Argument) → source_of_text text ≡ Some a → IsSource a text
unfolding source_of_text
source_told [] a e = absurd cc
source_told (c ∷ cs) a e =
    branches (c == 123) (headed_of (c ∷ cs) >>= λ h. source_of_parts h.0 h.1) (nil_source (c ∷ cs)) a e
    (λ brace f.
    let h = bind_some (headed_of (c ∷ cs)) (λ (h : List ℕ × List (List ℕ)). source_of_parts h.0 h.1) a f in
    source_by_told h.0.0 h.0.1 a (c ∷ cs) (headed_told (c ∷ cs) h.0.0 h.0.1 h.1) h.2)
    (λ other f. nil_told (c ∷ cs) a f)

-- an atom begins with neither a brace nor a digit
pub record Letter (text : List ℕ) : Type 0 where
  pub first : ℕ
  pub others : List ℕ
  pub parts : text ≡ first ∷ others
  pub brace : (first == 123) ≡ false
  pub digit : is_digit first ≡ false

bare_byte : (c : ℕ) (cs : List ℕ) → is_unquoted (take (name_len (c ∷ cs)) (c ∷ cs)) ≡ true → IsBare c (take (name_len cs) cs)
bare_byte c cs e = by (is_name c) e
  where
    by : (b : Bool) → is_unquoted (take (cond b (suc (name_len cs)) 0) (c ∷ cs)) ≡ true → IsBare c (take (name_len cs) cs)
    by true f = bare_is c (take (name_len cs) cs) f
    by false f = absurd cc (f)

letter_of : (c : ℕ) (cs names : List ℕ) → IsBare c names → Letter (c ∷ cs)
letter_of c cs names is =
    let low = is.low in
    let high = is.high in
    record { first = c; others = cs; parts = refl; brace = differ c 123 (λ e. omega (arith, e, high)); digit = grind (arith, nat_tests, low) }

pub letter : (name text : List ℕ) → IsAtom name text → Letter text
unfolding atom_at
letter name [] is = absurd cc (is)
letter name (c ∷ cs) is = by (c == 39) _ refl is
  where
    bare : (b : Bool) (r : Reading (List ℕ)) → is_unquoted (take (name_len (c ∷ cs)) (c ∷ cs)) ≡ b → cond b r (fault_at (c ∷ cs)) ≡ Ok (name, []) → Letter (c ∷ cs)
    bare true r e f = letter_of c cs (take (name_len cs) cs) (bare_byte c cs e)
    bare false r e f = absurd cc (f)

    by : (b : Bool) (r : Reading (List ℕ)) → (c == 39) ≡ b → cond b r (unquoted_atom_at (c ∷ cs)) ≡ Ok (name, []) → Letter (c ∷ cs)
    by true r e f = record { first = c; others = cs; parts = refl; brace = rw (eqb-true c 39 e) refl; digit = rw (eqb-true c 39 e) refl }
    by false r e f = bare (is_unquoted (take (name_len (c ∷ cs)) (c ∷ cs))) _ refl f

-- ---- operands that stand in the text are read

-- a source in braces, which isn't a label
record SourceBraced (a : Argument) (text : List ℕ) : Type 0 where
  braced : Braced source_of_parts a text
  brace : Brace text
  no_label : same_text braced.name (codes "f") ≡ false

-- a source stands in braces, or it is `nil`
abbrev SourceText : Argument → List ℕ → Type 0
SourceText a text = SourceBraced a text ⊎ ((a ≡ argument.Term nil_term) × IsAtom (codes "nil") text)

register_source : (a : Argument) (text : List ℕ) → IsRegister a text → SourceText a text
register_source a text is =
    let r = register_braced a text is in
    let own = r.own in
    inl (record { braced = record { name = r.braced.name; parts = r.braced.parts; headed = r.braced.headed; read = rw own r.braced.read }; brace = r.brace; no_label = r.no_label })

tagged_source : (name part : List ℕ) (t : TermValue) (text : List ℕ) → IsHeaded name (part ∷ []) text → is_register_name name ≡ false → same_text name (codes "f") ≡ false
    → term_of_part name part ≡ Some t → SourceText (argument.Term t) text
unfolding term_source
tagged_source name part t text is other label e =
    inl (record { braced = record { name = name; parts = part ∷ []; headed = headed_read text name part [] is; read = rw (other, e) refl }; brace = braced name (part ∷ []) text is; no_label = label })

literal_source : (t : TermValue) (text : List ℕ) → IsTagged (codes "literal") (IsTermText t) text → SourceText (argument.Term t) text
unfolding term_of_part
literal_source t text (part, is, says) = tagged_source (codes "literal") part t text is refl refl (term_read part t says)

constant_source : (t : TermValue) (text : List ℕ) → IsConstant t text → SourceText (argument.Term t) text
unfolding term_of_part
constant_source t text (inr is) = literal_source t text is
constant_source (int_term z) text (inl (part, is, says)) = tagged_source (codes "integer") part (int_term z) text is refl refl (rw (integer_read part z says) refl)
constant_source (atom_term name) text (inl (part, is, says)) = tagged_source (codes "atom") part (atom_term name) text is refl refl (rw (atom_read part name says) refl)
constant_source nil_term text (inl is) = inr (refl, is)
constant_source _ text (inl is) = absurd is

source_text : (a : Argument) (text : List ℕ) → IsSource a text → SourceText a text
source_text (argument.Term t) text is = constant_source t text is
source_text a text is = register_source a text is

braced_source : (a : Argument) (cs name : List ℕ) (parts : List (List ℕ)) → headed_of (123 ∷ cs) ≡ Some (name, parts) → source_of_parts name parts ≡ Some a → source_of_text (123 ∷ cs) ≡ Some a
unfolding source_of_text
braced_source a cs name parts headed read = rw (headed, read) refl

nil_alone : (text : List ℕ) → IsAtom (codes "nil") text → nil_source text ≡ Some (argument.Term nil_term)
unfolding nil_source
nil_alone text is = rw (atom_read text (codes "nil") is) refl

letter_source : (c : ℕ) (cs : List ℕ) → (c == 123) ≡ false → source_of_text (c ∷ cs) ≡ nil_source (c ∷ cs)
unfolding source_of_text
letter_source c cs e = rw e refl

source_read : (text : List ℕ) (a : Argument) → IsSource a text → source_of_text text ≡ Some a
source_read text a is = by (source_text a text is)
  where
    by : SourceText a text → source_of_text text ≡ Some a
    by (inl s) = ap source_of_text s.brace.parts ∙ braced_source a s.brace.others s.braced.name s.braced.parts (ap headed_of (sym s.brace.parts) ∙ s.braced.headed) s.braced.read
    by (inr (e, nil)) =
        let l = letter (codes "nil") text nil in
        ap source_of_text l.parts ∙ letter_source l.first l.others l.brace ∙ ap nil_source (sym l.parts) ∙ nil_alone text nil ∙ ap (λ (b : Argument). Some b) (sym e)

-- ---- members of lists

as_member : (a : Argument) (text : List ℕ) → IsSource a text → IsMember a text
as_member (argument.Label n) text (inl is) = absurd is
as_member (argument.Label n) text (inr (register, about, is, plain)) = absurd plain
as_member (argument.Number n) text (inl is) = absurd is
as_member (argument.Number n) text (inr (register, about, is, plain)) = absurd plain
as_member (argument.Term t) text is = is
as_member (argument.X n) text is = is
as_member (argument.Y n) text is = is

member_by_told : (name : List ℕ) (parts : List (List ℕ)) (a : Argument) (text : List ℕ) → IsHeaded name parts text → member_of_parts name parts ≡ Some a → IsMember a text
unfolding member_of_parts
member_by_told name parts a text is e =
    branches (same_text name (codes "f")) (only parts >>= λ part. number_of_text part >>= λ n. Some (argument.Label n)) (source_of_parts name parts) a e
    (λ same f.
    let p = bind_some (only parts) (λ (part : List ℕ). number_of_text part >>= λ n. Some (argument.Label n)) a f in
    let n = bind_some (number_of_text p.0) (λ (n : ℕ). Some (argument.Label n)) a p.2 in
    let headed = subst (λ (ps : List (List ℕ)). IsHeaded name ps text) (only_told parts p.0 p.1) is in
    subst (λ (b : Argument). IsMember b text) (same_Some (argument.Label n.0) a n.2) (p.0, renamed name (codes "f") (p.0 ∷ []) text same headed, number_told p.0 n.0 n.1))
    (λ other f. as_member a text (source_by_told name parts a text is f))

member_told : (text : List ℕ) (a : Argument) → member_of_text text ≡ Some a → IsMember a text
unfolding member_of_text
member_told [] a e = absurd cc
member_told (c ∷ cs) a e =
    branches (c == 123) (headed_of (c ∷ cs) >>= λ h. member_of_parts h.0 h.1) (cond (is_digit c) (number_member (c ∷ cs)) (nil_source (c ∷ cs))) a e
    (λ brace f.
    let h = bind_some (headed_of (c ∷ cs)) (λ (h : List ℕ × List (List ℕ)). member_of_parts h.0 h.1) a f in
    member_by_told h.0.0 h.0.1 a (c ∷ cs) (headed_told (c ∷ cs) h.0.0 h.0.1 h.1) h.2)
    (λ other f. branches (is_digit c) (number_member (c ∷ cs)) (nil_source (c ∷ cs)) a f
    (λ digit g.
    let n = bind_some (number_of_text (c ∷ cs)) (λ (n : ℕ). Some (argument.Number n)) a g in
    subst (λ (b : Argument). IsMember b (c ∷ cs)) (same_Some (argument.Number n.0) a n.2) (digit, number_told (c ∷ cs) n.0 n.1))
    (λ letter g. as_member a (c ∷ cs) (nil_told (c ∷ cs) a g)))

braced_member : (a : Argument) (cs name : List ℕ) (parts : List (List ℕ)) → headed_of (123 ∷ cs) ≡ Some (name, parts) → member_of_parts name parts ≡ Some a → member_of_text (123 ∷ cs) ≡ Some a
unfolding member_of_text
braced_member a cs name parts headed read = rw (headed, read) refl

letter_member : (c : ℕ) (cs : List ℕ) → (c == 123) ≡ false → is_digit c ≡ false → member_of_text (c ∷ cs) ≡ nil_source (c ∷ cs)
unfolding member_of_text
letter_member c cs e f = rw (e, f) refl

no_brace : (c : ℕ) → is_digit c ≡ true → (c == 123) ≡ false
no_brace c digit = differ c 123 (λ e. let bad : true ≡ false = sym digit ∙ ap is_digit e in absurd cc (bad))

number_read_member : (text : List ℕ) (n : ℕ) → BeginsWithDigit text → IsNumber n text → member_of_text text ≡ Some (argument.Number n)
unfolding member_of_text
number_read_member [] n digit is = absurd digit
number_read_member (c ∷ cs) n digit is = rw (no_brace c digit, digit, number_read (c ∷ cs) n is) refl

by_source : (name : List ℕ) (parts : List (List ℕ)) → same_text name (codes "f") ≡ false → member_of_parts name parts ≡ source_of_parts name parts
unfolding member_of_parts
by_source name parts e = rw e refl

source_member : (a : Argument) (text : List ℕ) → SourceText a text → member_of_text text ≡ Some a
source_member a text (inl s) =
    ap member_of_text s.brace.parts
    ∙ braced_member a s.brace.others s.braced.name s.braced.parts (ap headed_of (sym s.brace.parts) ∙ s.braced.headed) (by_source s.braced.name s.braced.parts s.no_label ∙ s.braced.read)
source_member a text (inr (e, nil)) =
    let l = letter (codes "nil") text nil in
    ap member_of_text l.parts ∙ letter_member l.first l.others l.brace l.digit ∙ ap nil_source (sym l.parts) ∙ nil_alone text nil ∙ ap (λ (b : Argument). Some b) (sym e)

label_member : (part : List ℕ) (n : ℕ) → IsNumber n part → member_of_parts (codes "f") (part ∷ []) ≡ Some (argument.Label n)
unfolding member_of_parts
label_member part n is = rw (number_read part n is) refl

member_read : (text : List ℕ) (a : Argument) → IsMember a text → member_of_text text ≡ Some a
member_read text (argument.Label n) (part, is, number) =
    let b = braced (codes "f") (part ∷ []) text is in
    ap member_of_text b.parts ∙ braced_member (argument.Label n) b.others (codes "f") (part ∷ []) (ap headed_of (sym b.parts) ∙ headed_read text (codes "f") part [] is) (label_member part n number)
member_read text (argument.Number n) (digit, is) = number_read_member text n digit is
member_read text a is = source_member a text (source_text a text is)

-- elements that are read one by one, after others
pub record Further {A : Type 0} (Says : A → List ℕ → Type 0) (before all : List A) (texts : List (List ℕ)) : Type 0 where
  pub others : List A
  pub sum : all ≡ before ++ others
  pub are : AreEach Says others texts

members_told : (before all : List Argument) (texts : List (List ℕ)) → members_from before texts ≡ Some all → Further IsMember before all texts
unfolding members_from
members_told before all [] e = record { others = []; sum = sym (same_Some before all e) ∙ sym (append-nil before); are = tt }
members_told before all (text ∷ texts) e =
    let m = bind_some (member_of_text text) (λ (m : Argument). members_from (before ++ m ∷ []) texts) all e in
    let r = members_told (before ++ m.0 ∷ []) all texts m.2 in
    record { others = m.0 ∷ r.others; sum = r.sum ∙ append_assoc before (m.0 ∷ []) r.others; are = (member_told text m.0 m.1, r.are) }

members_read : (before ms : List Argument) (texts : List (List ℕ)) → AreEach IsMember ms texts → members_from before texts ≡ Some (before ++ ms)
unfolding members_from
members_read before [] [] are = ap (λ (all : List Argument). Some all) (sym (append-nil before))
members_read before (m ∷ ms) (text ∷ texts) are =
    rw (member_read text m are.0) (members_read (before ++ m ∷ []) ms texts are.1 ∙ ap (λ (all : List Argument). Some all) (append_assoc before (m ∷ []) ms))
members_read before [] (text ∷ texts) are = absurd are
members_read before (m ∷ ms) [] are = absurd are

pub list_of_told : (text : List ℕ) (ms : List Argument) → members_of_text text ≡ Some ms → IsTagged (codes "list") (AreMembers ms) text
unfolding members_of_text
list_of_told text ms e =
    let p = bind_some (part_of (codes "list") text) (λ (part : List ℕ). list_parts part >>= members_from []) ms e in
    let parts = bind_some (list_parts p.0) (members_from []) ms p.2 in
    let r = members_told [] ms parts.0 parts.2 in
    (p.0, part_told (codes "list") text p.0 p.1, (parts.0, list_told parts.0 p.0 parts.1, subst (λ (all : List Argument). AreEach IsMember all parts.0) (sym r.sum) r.are))

pub list_of_read : (text : List ℕ) (ms : List Argument) → IsTagged (codes "list") (AreMembers ms) text → members_of_text text ≡ Some ms
unfolding members_of_text
list_of_read text ms (part, is, (parts, listed, are)) = rw (part_read (codes "list") text part is, list_read parts part listed, members_read [] ms parts are) refl

-- ---- imports and natives

abbrev made : List ℕ → List ℕ → ℕ → Import
made w v n = record { «module» = w; function = v; arity = n }

abbrev chosen : List ℕ → List ℕ → List ℕ → ℕ → Option Import
chosen name w v n = cond (same_text name (codes "extfunc")) (Some (made w v n)) None

import_by_told : (name : List ℕ) (parts : List (List ℕ)) (i : Import) (text : List ℕ) → IsHeaded name parts text → import_of_parts name parts ≡ Some i → IsImport i text
import_by_told name [] i text is e = absurd cc
import_by_told name (m ∷ []) i text is e = absurd cc
import_by_told name (m ∷ f ∷ []) i text is e = absurd cc
import_by_told name (m ∷ f ∷ a ∷ []) i text is e =
    let wm = bind_some (atom_of_text m) (λ (w : List ℕ). atom_of_text f >>= λ v. number_of_text a >>= λ n. chosen name w v n) i e in
    let wf = bind_some (atom_of_text f) (λ (v : List ℕ). number_of_text a >>= λ n. chosen name wm.0 v n) i wm.2 in
    let n = bind_some (number_of_text a) (chosen name wm.0 wf.0) i wf.2 in
    branches (same_text name (codes "extfunc")) (Some (made wm.0 wf.0 n.0)) None i n.2
    (λ same g. subst (λ (j : Import). IsImport j text) (same_Some (made wm.0 wf.0 n.0) i g) (record {
      module_part = m;
      function_part = f;
      arity_part = a;
      in_braces = renamed name (codes "extfunc") (m ∷ f ∷ a ∷ []) text same is;
      is_module = atom_told m wm.0 wm.1;
      is_function = atom_told f wf.0 wf.1;
      is_arity = number_told a n.0 n.1;
    }))
    (λ other g. absurd cc (g))
import_by_told name (m ∷ f ∷ a ∷ x ∷ xs) i text is e = absurd cc

import_told : (text : List ℕ) (i : Import) → import_of_text text ≡ Some i → IsImport i text
unfolding import_of_text
import_told text i e =
    let h = bind_some (headed_of text) (λ (h : List ℕ × List (List ℕ)). import_of_parts h.0 h.1) i e in
    import_by_told h.0.0 h.0.1 i text (headed_told text h.0.0 h.0.1 h.1) h.2

import_read : (text : List ℕ) (i : Import) → IsImport i text → import_of_text text ≡ Some i
unfolding import_of_text
import_read text i is =
    let headed = headed_read text (codes "extfunc") is.module_part (is.function_part ∷ is.arity_part ∷ []) is.in_braces in
    rw (headed, atom_read is.module_part i.«module» is.is_module, atom_read is.function_part i.function is.is_function, number_read is.arity_part i.arity is.is_arity) refl

native_told : (arity : ℕ) (text : List ℕ) (i : Import) → native_of arity text ≡ Some i → IsNative arity i text
unfolding native_of
native_told arity text i e =
    let w = bind_some (atom_of_text text) (λ (name : List ℕ). Some (record { «module» = codes "erlang"; function = name; arity = arity })) i e in
    let same = same_Some (record { «module» = codes "erlang"; function = w.0; arity = arity }) i w.2 in
    subst (λ (j : Import). IsNative arity j text) same (record { «module» = refl; is_function = atom_told text w.0 w.1; same = refl })

native_read : (arity : ℕ) (text : List ℕ) (i : Import) → IsNative arity i text → native_of arity text ≡ Some i
unfolding native_of
native_read arity text i is =
    let read = atom_read text i.function is.is_function in
    rw read (λ k. Some (record { «module» = sym is.«module» k; function = i.function; arity = sym is.same k }))

-- ---- operands

-- a value that an operand is made of
as_told : {A : Type 0} (o : Option A) (f : A → Operand) (x : Operand) (P : Operand → Type 0) → (o >>= λ a. Some (f a)) ≡ Some x → ((a : A) → o ≡ Some a → P (f a)) → P x
as_told {A = A} o f x P e each =
    let a = bind_some o (λ (a : A). Some (f a)) x e in
    subst P (same_Some (f a.0) x a.2) (each a.0 a.1)

number_argument_told : (P : Argument → Type 0) (text : List ℕ) (a : Argument) → number_member text ≡ Some a → ((n : ℕ) → IsNumber n text → P (argument.Number n)) → P a
number_argument_told P text a e each =
    let n = bind_some (number_of_text text) (λ (n : ℕ). Some (argument.Number n)) a e in
    subst P (same_Some (argument.Number n.0) a n.2) (each n.0 (number_told text n.0 n.1))

label_argument_told : (P : Argument → Type 0) (text : List ℕ) (a : Argument) → label_argument text ≡ Some a → ((n : ℕ) → IsLabel n text → P (argument.Label n)) → P a
label_argument_told P text a e each =
    let n = bind_some (label_of_text text) (λ (n : ℕ). Some (argument.Label n)) a e in
    subst P (same_Some (argument.Label n.0) a n.2) (each n.0 (label_told text n.0 n.1))

atom_argument_told : (P : Argument → Type 0) (text : List ℕ) (a : Argument) → atom_argument text ≡ Some a
    → ((name : List ℕ) → IsTagged (codes "atom") (IsAtom name) text → P (argument.Term (atom_term name))) → P a
unfolding atom_argument
atom_argument_told P text a e each =
    let p = bind_some (part_of (codes "atom") text) (λ (part : List ℕ). atom_of_text part >>= λ name. Some (argument.Term (atom_term name))) a e in
    let w = bind_some (atom_of_text p.0) (λ (name : List ℕ). Some (argument.Term (atom_term name))) a p.2 in
    subst P (same_Some (argument.Term (atom_term w.0)) a w.2) (each w.0 (p.0, part_told (codes "atom") text p.0 p.1, atom_told p.0 w.0 w.1))

pub operand_told : (k : Kind) (text : List ℕ) (o : Operand) → operand_of_text k text ≡ Some o → IsOperand k o text
unfolding operand_of_text
operand_told kind.Number text o e = as_told (number_member text) operand.One o (λ x. IsOperand kind.Number x text) e (λ a f. number_argument_told (λ b. IsOperand kind.Number (operand.One b) text) text a f (λ n is. is))
operand_told kind.Arity text o e = as_told (number_member text) operand.One o (λ x. IsOperand kind.Arity x text) e (λ a f. number_argument_told (λ b. IsOperand kind.Arity (operand.One b) text) text a f (λ n is. is))
operand_told kind.FrameSize text o e = as_told (number_member text) operand.One o (λ x. IsOperand kind.FrameSize x text) e (λ a f. number_argument_told (λ b. IsOperand kind.FrameSize (operand.One b) text) text a f (λ n is. is))
operand_told kind.Label text o e = as_told (label_argument text) operand.One o (λ x. IsOperand kind.Label x text) e (λ a f. label_argument_told (λ b. IsOperand kind.Label (operand.One b) text) text a f (λ n is. is))
operand_told kind.FailLabel text o e = as_told (label_argument text) operand.One o (λ x. IsOperand kind.FailLabel x text) e (λ a f. label_argument_told (λ b. IsOperand kind.FailLabel (operand.One b) text) text a f (λ n is. is))
operand_told kind.Atom text o e = as_told (atom_argument text) operand.One o (λ x. IsOperand kind.Atom x text) e (λ a f. atom_argument_told (λ b. IsOperand kind.Atom (operand.One b) text) text a f (λ name is. is))
operand_told kind.Source text o e = as_told (source_of_text text) operand.One o (λ x. IsOperand kind.Source x text) e (λ a f. source_told text a f)
operand_told kind.Register text o e = as_told (register_of_text text) operand.One o (λ x. IsOperand kind.Register x text) e (λ a f. register_told text a f)
operand_told kind.Import text o e = as_told (import_of_text text) operand.Import o (λ x. IsOperand kind.Import x text) e (λ i f. import_told text i f)
operand_told (kind.Native arity) text o e = as_told (native_of arity text) operand.Import o (λ x. IsOperand (kind.Native arity) x text) e (λ i f. native_told arity text i f)
operand_told kind.List text o e = as_told (members_of_text text) operand.List o (λ x. IsOperand kind.List x text) e (λ ms f. list_of_told text ms f)

atom_argument_read : (text name : List ℕ) → IsTagged (codes "atom") (IsAtom name) text → atom_argument text ≡ Some (argument.Term (atom_term name))
unfolding atom_argument
atom_argument_read text name (part, is, atom) = rw (part_read (codes "atom") text part is, atom_read part name atom) refl

pub operand_read : (k : Kind) (text : List ℕ) (o : Operand) → IsOperand k o text → operand_of_text k text ≡ Some o
unfolding operand_of_text
operand_read kind.Number text (operand.One (argument.Number n)) is = rw (number_read text n is) refl
operand_read kind.Arity text (operand.One (argument.Number n)) is = rw (number_read text n is) refl
operand_read kind.FrameSize text (operand.One (argument.Number n)) is = rw (number_read text n is) refl
operand_read kind.Label text (operand.One (argument.Label n)) is = rw (label_read text n is) refl
operand_read kind.FailLabel text (operand.One (argument.Label n)) is = rw (label_read text n is) refl
operand_read kind.Atom text (operand.One (argument.Term (atom_term name))) is = rw (atom_argument_read text name is) refl
operand_read kind.Source text (operand.One a) is = rw (source_read text a is) refl
operand_read kind.Register text (operand.One a) is = rw (register_read text a is) refl
operand_read kind.Import text (operand.Import i) is = rw (import_read text i is) refl
operand_read (kind.Native arity) text (operand.Import i) is = rw (native_read arity text i is) refl
operand_read kind.List text (operand.List ms) is = rw (list_of_read text ms is) refl
operand_read _ text _ is = absurd is

-- operands of these kinds, after others
pub record FurtherOperands (ks : List Kind) (before all : List Operand) (texts : List (List ℕ)) : Type 0 where
  pub others : List Operand
  pub sum : all ≡ before ++ others
  pub are : AreOperands ks others texts

pub operands_told : (before all : List Operand) (ks : List Kind) (texts : List (List ℕ)) → operands_from before ks texts ≡ Some all → FurtherOperands ks before all texts
unfolding operands_from
operands_told before all [] [] e = record { others = []; sum = sym (same_Some before all e) ∙ sym (append-nil before); are = tt }
operands_told before all (k ∷ ks) (text ∷ texts) e =
    let o = bind_some (operand_of_text k text) (λ (o : Operand). operands_from (before ++ o ∷ []) ks texts) all e in
    let r = operands_told (before ++ o.0 ∷ []) all ks texts o.2 in
    record { others = o.0 ∷ r.others; sum = r.sum ∙ append_assoc before (o.0 ∷ []) r.others; are = (operand_told k text o.0 o.1, r.are) }
operands_told before all [] (text ∷ texts) e = absurd cc
operands_told before all (k ∷ ks) [] e = absurd cc

pub operands_read : (before os : List Operand) (ks : List Kind) (texts : List (List ℕ)) → AreOperands ks os texts → operands_from before ks texts ≡ Some (before ++ os)
unfolding operands_from
operands_read before [] [] [] are = ap (λ (all : List Operand). Some all) (sym (append-nil before))
operands_read before (o ∷ os) (k ∷ ks) (text ∷ texts) are =
    rw (operand_read k text o are.0) (operands_read (before ++ o ∷ []) os ks texts are.1 ∙ ap (λ (all : List Operand). Some all) (append_assoc before (o ∷ []) os))
operands_read before _ _ _ are = absurd are
