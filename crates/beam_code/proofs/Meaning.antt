-- An operand that is spelled with the numbers of its atoms, imports and literals means itself.
use Rattle.std.proofs.Common.{◌≡◌, ℕ, suc, ◌+◌, ◌^◌, ◌<◌, Bool, true, false, cond, ltb, List, [], ◌∷◌, get_or, Option, Some, None, Result, Ok, Err, refl, sym, ap, subst, ◌∙◌, arith, add-one, slice_get, position, option_map, ltb-true, eqb-true}
use Rattle.std.specs.Result.{result_ok}
use Rattle.std.proofs.lemmas.List.Quantifiers.{position-Some}
use Rattle.std.proofs.lemmas.Option.{slice_get-get_or}
use Rattle.std.proofs.lemmas.Bool.{and_parts}
use Rattle.beam_lemmas.proofs.SameText.{text_is}
use Rattle.beam_lemmas.proofs.Options.{chained, mapped}
use Rattle.beam_model.specs.declared.compact.Compact.{Compact}
use Rattle.beam_model.specs.declared.compact.CompactOperand.{CompactOperand}
use Rattle.beam_model.specs.declared.function.Import.{Import}
use Rattle.beam_model.specs.declared.instruction.Argument.{Argument}
use Rattle.beam_model.specs.declared.instruction.Operand.{Operand}
use Rattle.beam_model.specs.declared.opcode.Kind.{Kind}
use Rattle.beam_model.specs.Prelude.{same_text, OperandFault, spelling, HasNumbers, HaveNumbers, HasOperandNumbers, argument_of_atom, argument_of_source, argument_of, argument_of_member, members_of, meaning_of, is_number_operand, is_arity, is_frame_size, is_label_operand, is_atom_operand, is_source_operand, is_register_operand, is_within, Numbering, same_import, word, atom_index, import_index, literal_index, compact_term, compact_argument, compact_before, compact_arguments, compact_of, operand_bytes}
use Rattle.beam_term.specs.Prelude.{TermValue, int_term, atom_term, reference_term, pid_term, nil_term, pair_term, tuple_term, term_eq, term_eq_decides}
use Rattle.beam_model.specs.declared.compact.Compact.TheVariants as compact
use Rattle.beam_model.specs.declared.compact.CompactOperand.TheVariants as compact_operand
use Rattle.beam_model.specs.declared.instruction.Argument.TheVariants as argument
use Rattle.beam_model.specs.declared.instruction.Operand.TheVariants as operand
use Rattle.beam_model.specs.declared.opcode.Kind.TheVariants as kind

abbrev some : {A : Type 0} → A → Option A
some x = Some x

-- ---- numbers

guard : {A : Type 0} (b : Bool) (x : Option A) (y : A) → cond b x None ≡ Some y → (b ≡ true) × (x ≡ Some y)
guard true x y e = (refl, e)
guard false x y e = absurd cc

-- a number of four bytes is itself, and below 2^32
pub word_is : (m n : ℕ) → word m ≡ Some n → (m ≡ n) × (n < 2 ^ 32)
word_is m n e =
    let g = guard (ltb m (2 ^ 32)) (some m) n e in
    let same : m ≡ n = cc (g.1) in
    let lt : m < 2 ^ 32 = ltb-true _ _ g.0 in
    (same, omega arith)

-- ---- indices

-- the element at the position that a test of equality finds is equal
placed : {X : Type 0} (same : X → X → Bool) → ((x y : X) → same x y ≡ true → x ≡ y) → (xs : List X) (x : X) (place : ℕ) → position (same x) xs ≡ Some place → slice_get xs place ≡ Some x
placed same decides xs x place e =
    let q = position-Some (same x) xs place x e in
    slice_get-get_or xs place x q.0 ∙ ap (λ y. some y) (sym (decides x (get_or xs place x) q.1))

import_decides : (i j : Import) → same_import i j ≡ true → i ≡ j
import_decides i j e =
    let s = and_parts (same_text i.«module» j.«module») _ e in
    let f = and_parts (same_text i.function j.function) _ s.1 in
    let m = text_is i.«module» j.«module» s.0 in
    let n = text_is i.function j.function f.0 in
    let a = eqb-true i.arity j.arity f.1 in
    λ k. record { «module» = m k; function = n k; arity = a k }

atom_again : (n : Numbering) (text : List ℕ) (index : ℕ) → atom_index n text ≡ Some index → (argument_of_atom n.atoms index ≡ Some (argument.Term (atom_term text))) × (index < 2 ^ 32)
atom_again n text index e =
    let p = chained (λ place. word (place + 1)) (position (same_text text) n.atoms) index e in
    let w = word_is (p.0 + 1) index p.2 in
    let next : suc p.0 ≡ index = sym (add-one p.0) ∙ w.0 in
    let there : slice_get n.atoms p.0 ≡ Some text = placed same_text text_is n.atoms text p.0 p.1 in
    let at : argument_of_atom n.atoms (suc p.0) ≡ Some (argument.Term (atom_term text)) = ap (option_map (λ t. argument.Term (atom_term t))) there in
    (ap (argument_of_atom n.atoms) (sym next) ∙ at, w.1)

import_again : (n : Numbering) (i : Import) (index : ℕ) → import_index n i ≡ Some index → (slice_get n.imports index ≡ Some i) × (index < 2 ^ 32)
import_again n i index e =
    let p = chained word (position (same_import i) n.imports) index e in
    let w = word_is p.0 index p.2 in
    (ap (slice_get n.imports) (sym w.0) ∙ placed same_import import_decides n.imports i p.0 p.1, w.1)

term_decides : (s t : TermValue) → term_eq s t ≡ true → s ≡ t
term_decides s t e = (term_eq_decides s t).0 e

literal_again : (n : Numbering) (t : TermValue) (index : ℕ) → literal_index n t ≡ Some index → (slice_get n.literals index ≡ Some t) × (index < 2 ^ 32)
literal_again n t index e =
    let p = chained word (position (term_eq t) n.literals) index e in
    let w = word_is p.0 index p.2 in
    (ap (slice_get n.literals) (sym w.0) ∙ placed term_eq term_decides n.literals t p.0 p.1, w.1)

-- ---- arguments

-- a compact operand that means an argument, whose numbers fit
record Means (n : Numbering) (x : Compact) (a : Argument) : Type 0 where
  means : argument_of_member n.atoms n.literals x ≡ Some a
  fits : HasNumbers x

-- a term's meaning as a source
record Sources (n : Numbering) (x : Compact) (t : TermValue) : Type 0 where
  source : argument_of_source n.atoms n.literals x ≡ Some (argument.Term t)
  member : argument_of_member n.atoms n.literals x ≡ Some (argument.Term t)
  fits : HasNumbers x

abbrev at_compact : {x y : Compact} (P : Compact → Type 0) → x ≡ y → P x → P y
at_compact P e p = subst P e p

literal_means : (n : Numbering) (t : TermValue) (x : Compact) → option_map (λ index. compact.Literal index) (literal_index n t) ≡ Some x → Sources n x t
literal_means n t x e =
    let m = mapped (λ index. compact.Literal index) (literal_index n t) x e in
    let l = literal_again n t m.0 m.1 in
    let there = ap (option_map (λ u. argument.Term u)) l.0 in
    at_compact (λ y. Sources n y t) m.2 (record { source = there; member = there; fits = l.1 })

term_means : (n : Numbering) (t : TermValue) (x : Compact) → compact_term n t ≡ Some x → Sources n x t
unfolding compact_term
term_means n (int_term z) x e = let is : compact.Integer z ≡ x = cc in at_compact (λ y. Sources n y (int_term z)) is (record { source = refl; member = refl; fits = tt })
term_means n (atom_term text) x e =
    let m = mapped (λ index. compact.Atom index) (atom_index n text) x e in
    let a = atom_again n text m.0 m.1 in
    at_compact (λ y. Sources n y (atom_term text)) m.2 (record { source = a.0; member = a.0; fits = a.1 })
term_means n nil_term x e = let is : compact.Nil ≡ x = cc in at_compact (λ y. Sources n y nil_term) is (record { source = refl; member = refl; fits = tt })
term_means n (reference_term node creation words) x e = literal_means n (reference_term node creation words) x e
term_means n (pid_term node id serial creation) x e = literal_means n (pid_term node id serial creation) x e
term_means n (pair_term head tail) x e = literal_means n (pair_term head tail) x e
term_means n (tuple_term items) x e = literal_means n (tuple_term items) x e

argument_means : (n : Numbering) (a : Argument) (x : Compact) → compact_argument n a ≡ Some x → Means n x a
unfolding compact_argument
argument_means n (argument.Term t) x e = let s = term_means n t x e in record { means = s.member; fits = s.fits }
argument_means n (argument.X r) x e =
    let m = mapped (λ r. compact.X r) (word r) x e in
    let w = word_is r m.0 m.1 in
    at_compact (λ y. Means n y (argument.X r)) m.2 (record { means = ap (λ (k : ℕ). some (argument.X k)) (sym w.0); fits = w.1 })
argument_means n (argument.Y r) x e =
    let m = mapped (λ r. compact.Y r) (word r) x e in
    let w = word_is r m.0 m.1 in
    at_compact (λ y. Means n y (argument.Y r)) m.2 (record { means = ap (λ (k : ℕ). some (argument.Y k)) (sym w.0); fits = w.1 })
argument_means n (argument.Label f) x e =
    let m = mapped (λ f. compact.Label f) (word f) x e in
    let w = word_is f m.0 m.1 in
    at_compact (λ y. Means n y (argument.Label f)) m.2 (record { means = ap (λ (k : ℕ). some (argument.Label k)) (sym w.0); fits = w.1 })
argument_means n (argument.Number u) x e =
    let m = mapped (λ u. compact.Number u) (word u) x e in
    let w = word_is u m.0 m.1 in
    at_compact (λ y. Means n y (argument.Number u)) m.2 (record { means = ap (λ (k : ℕ). some (argument.Number k)) (sym w.0); fits = w.1 })

-- ---- lists

before_is : (x : Option Compact) (xs : Option (List Compact)) (ys : List Compact) → compact_before x xs ≡ Some ys → (h : Compact) × (t : List Compact) × (x ≡ Some h) × (xs ≡ Some t) × (h ∷ t ≡ ys)
before_is (Some h) (Some t) ys e = (h, t, refl, refl, cc)
before_is (Some h) None ys e = absurd cc
before_is None xs ys e = absurd cc

record MeanAll (n : Numbering) (xs : List Compact) (as' : List Argument) : Type 0 where
  means : members_of n.atoms n.literals xs ≡ Some as'
  fits : HaveNumbers xs

arguments_mean : (n : Numbering) (as' : List Argument) (xs : List Compact) → compact_arguments n as' ≡ Some xs → MeanAll n xs as'
unfolding compact_arguments members_of
arguments_mean n [] xs e = let is : [] ≡ xs = cc in subst (λ ys. MeanAll n ys []) is (record { means = refl; fits = tt })
arguments_mean n (a ∷ as') xs e =
    let b = before_is (compact_argument n a) (compact_arguments n as') xs e in
    let first = argument_means n a b.0 b.2 in
    let others = arguments_mean n as' b.1 b.3 in
    subst (λ ys. MeanAll n ys (a ∷ as')) b.4 (record { means = rw (first.means, others.means) refl; fits = (first.fits, others.fits) })

-- ---- operands, by kinds

-- an operand that means o under its kind, whose numbers fit
pub record IsMeant (n : Numbering) (k : Kind) (x : CompactOperand) (o : Operand) : Type 0 where
  pub means : meaning_of k n.atoms n.imports n.literals x ≡ Some o
  pub fits : HasOperandNumbers x

abbrev at_operand : {x y : CompactOperand} (P : CompactOperand → Type 0) → x ≡ y → P x → P y
at_operand P e p = subst P e p

number_is : (n : Numbering) (u : ℕ) (x : Compact) → compact_argument n (argument.Number u) ≡ Some x → compact.Number u ≡ x
unfolding compact_argument
number_is n u x e =
    let m = mapped (λ u. compact.Number u) (word u) x e in
    ap (λ (k : ℕ). compact.Number k) (word_is u m.0 m.1).0 ∙ m.2

label_is : (n : Numbering) (f : ℕ) (x : Compact) → compact_argument n (argument.Label f) ≡ Some x → compact.Label f ≡ x
unfolding compact_argument
label_is n f x e =
    let m = mapped (λ f. compact.Label f) (word f) x e in
    ap (λ (k : ℕ). compact.Label k) (word_is f m.0 m.1).0 ∙ m.2

x_is : (n : Numbering) (r : ℕ) (x : Compact) → compact_argument n (argument.X r) ≡ Some x → compact.X r ≡ x
unfolding compact_argument
x_is n r x e =
    let m = mapped (λ r. compact.X r) (word r) x e in
    ap (λ (k : ℕ). compact.X k) (word_is r m.0 m.1).0 ∙ m.2

y_is : (n : Numbering) (r : ℕ) (x : Compact) → compact_argument n (argument.Y r) ≡ Some x → compact.Y r ≡ x
unfolding compact_argument
y_is n r x e =
    let m = mapped (λ r. compact.Y r) (word r) x e in
    ap (λ (k : ℕ). compact.Y k) (word_is r m.0 m.1).0 ∙ m.2

number_meant : (n : Numbering) (k : Kind) (a : Argument) (x : Compact) → is_number_operand (operand.One a) ≡ true → compact_argument n a ≡ Some x → argument_of kind.Number n.atoms n.literals x ≡ Some a
number_meant n k (argument.Number u) x w e = subst (λ y. argument_of kind.Number n.atoms n.literals y ≡ Some (argument.Number u)) (number_is n u x e) refl
number_meant n k _ x w e = absurd cc

arity_meant : (n : Numbering) (a : Argument) (x : Compact) → is_arity (operand.One a) ≡ true → compact_argument n a ≡ Some x → argument_of kind.Arity n.atoms n.literals x ≡ Some a
arity_meant n (argument.Number u) x w e = subst (λ y. argument_of kind.Arity n.atoms n.literals y ≡ Some (argument.Number u)) (number_is n u x e) refl
arity_meant n _ x w e = absurd cc

frame_size_meant : (n : Numbering) (a : Argument) (x : Compact) → is_frame_size (operand.One a) ≡ true → compact_argument n a ≡ Some x → argument_of kind.FrameSize n.atoms n.literals x ≡ Some a
frame_size_meant n (argument.Number u) x w e = subst (λ y. argument_of kind.FrameSize n.atoms n.literals y ≡ Some (argument.Number u)) (number_is n u x e) refl
frame_size_meant n _ x w e = absurd cc

label_meant : (n : Numbering) (a : Argument) (x : Compact) → is_label_operand (operand.One a) ≡ true → compact_argument n a ≡ Some x → argument_of kind.Label n.atoms n.literals x ≡ Some a
label_meant n (argument.Label f) x w e = subst (λ y. argument_of kind.Label n.atoms n.literals y ≡ Some (argument.Label f)) (label_is n f x e) refl
label_meant n _ x w e = absurd cc

fail_label_meant : (n : Numbering) (a : Argument) (x : Compact) → is_label_operand (operand.One a) ≡ true → compact_argument n a ≡ Some x → argument_of kind.FailLabel n.atoms n.literals x ≡ Some a
fail_label_meant n (argument.Label f) x w e = subst (λ y. argument_of kind.FailLabel n.atoms n.literals y ≡ Some (argument.Label f)) (label_is n f x e) refl
fail_label_meant n _ x w e = absurd cc

text_meant : (n : Numbering) (text : List ℕ) (x : Compact) → compact_argument n (argument.Term (atom_term text)) ≡ Some x → argument_of kind.Atom n.atoms n.literals x ≡ Some (argument.Term (atom_term text))
unfolding compact_argument compact_term
text_meant n text x e =
    let m = mapped (λ index. compact.Atom index) (atom_index n text) x e in
    subst (λ y. argument_of kind.Atom n.atoms n.literals y ≡ Some (argument.Term (atom_term text))) m.2 (atom_again n text m.0 m.1).0

atom_meant : (n : Numbering) (a : Argument) (x : Compact) → is_atom_operand (operand.One a) ≡ true → compact_argument n a ≡ Some x → argument_of kind.Atom n.atoms n.literals x ≡ Some a
atom_meant n (argument.Term (atom_term text)) x w e = text_meant n text x e
atom_meant n _ x w e = absurd cc

source_meant : (n : Numbering) (a : Argument) (x : Compact) → is_source_operand (operand.One a) ≡ true → compact_argument n a ≡ Some x → argument_of kind.Source n.atoms n.literals x ≡ Some a
unfolding compact_argument
source_meant n (argument.Term t) x w e = (term_means n t x e).source
source_meant n (argument.X r) x w e = subst (λ y. argument_of kind.Source n.atoms n.literals y ≡ Some (argument.X r)) (x_is n r x e) refl
source_meant n (argument.Y r) x w e = subst (λ y. argument_of kind.Source n.atoms n.literals y ≡ Some (argument.Y r)) (y_is n r x e) refl
source_meant n (argument.Label f) x w e = absurd cc
source_meant n (argument.Number u) x w e = absurd cc

register_meant : (n : Numbering) (a : Argument) (x : Compact) → is_register_operand (operand.One a) ≡ true → compact_argument n a ≡ Some x → argument_of kind.Register n.atoms n.literals x ≡ Some a
register_meant n (argument.X r) x w e = subst (λ y. argument_of kind.Register n.atoms n.literals y ≡ Some (argument.X r)) (x_is n r x e) refl
register_meant n (argument.Y r) x w e = subst (λ y. argument_of kind.Register n.atoms n.literals y ≡ Some (argument.Y r)) (y_is n r x e) refl
register_meant n _ x w e = absurd cc

abbrev one : Option Argument → Option Operand
one = option_map (λ a. operand.One a)

one_meant : (n : Numbering) (k : Kind) (a : Argument) (x : Compact) → is_within k (operand.One a) ≡ true → compact_argument n a ≡ Some x
    → meaning_of k n.atoms n.imports n.literals (compact_operand.One x) ≡ Some (operand.One a)
unfolding meaning_of
one_meant n kind.Number a x w e = ap one (number_meant n kind.Number a x w e)
one_meant n kind.Arity a x w e = ap one (arity_meant n a x w e)
one_meant n kind.FrameSize a x w e = ap one (frame_size_meant n a x w e)
one_meant n kind.Label a x w e = ap one (label_meant n a x w e)
one_meant n kind.FailLabel a x w e = ap one (fail_label_meant n a x w e)
one_meant n kind.Atom a x w e = ap one (atom_meant n a x w e)
one_meant n kind.Source a x w e = ap one (source_meant n a x w e)
one_meant n kind.Register a x w e = ap one (register_meant n a x w e)
one_meant n kind.Import a x w e = absurd cc
one_meant n (kind.Native arity) a x w e = absurd cc
one_meant n kind.List a x w e = absurd cc

import_meant : (n : Numbering) (k : Kind) (i : Import) (index : ℕ) → is_within k (operand.Import i) ≡ true → slice_get n.imports index ≡ Some i
    → meaning_of k n.atoms n.imports n.literals (compact_operand.One (compact.Number index)) ≡ Some (operand.Import i)
unfolding meaning_of
import_meant n kind.Import i index w e = ap (option_map (λ j. operand.Import j)) e
import_meant n (kind.Native arity) i index w e = ap (option_map (λ j. operand.Import j)) e
import_meant n _ i index w e = absurd cc

list_meant : (n : Numbering) (k : Kind) (as' : List Argument) (xs : List Compact) → is_within k (operand.List as') ≡ true → members_of n.atoms n.literals xs ≡ Some as'
    → meaning_of k n.atoms n.imports n.literals (compact_operand.List xs) ≡ Some (operand.List as')
unfolding meaning_of
list_meant n kind.List as' xs w e = ap (option_map (λ bs. operand.List bs)) e
list_meant n _ as' xs w e = absurd cc

pub operand_meant : (n : Numbering) (k : Kind) (o : Operand) (x : CompactOperand) → is_within k o ≡ true → compact_of n o ≡ Some x → IsMeant n k x o
unfolding compact_of
operand_meant n k (operand.One a) x w e =
    let m = mapped (λ y. compact_operand.One y) (compact_argument n a) x e in
    at_operand (λ y. IsMeant n k y (operand.One a)) m.2 (record { means = one_meant n k a m.0 w m.1; fits = (argument_means n a m.0 m.1).fits })
operand_meant n k (operand.Import i) x w e =
    let m = mapped (λ index. compact_operand.One (compact.Number index)) (import_index n i) x e in
    let again = import_again n i m.0 m.1 in
    at_operand (λ y. IsMeant n k y (operand.Import i)) m.2 (record { means = import_meant n k i m.0 w again.0; fits = again.1 })
operand_meant n k (operand.List as') x w e =
    let m = mapped (λ xs. compact_operand.List xs) (compact_arguments n as') x e in
    let all = arguments_mean n as' m.0 m.1 in
    at_operand (λ y. IsMeant n k y (operand.List as')) m.2 (record { means = list_meant n k as' m.0 w all.means; fits = all.fits })

-- ---- bytes

abbrev fine : List ℕ → Result (List ℕ) OperandFault
fine c = Ok c

result_is : (r : Result (List ℕ) OperandFault) (bytes : List ℕ) → result_ok r ≡ Some bytes → r ≡ Ok bytes
result_is (Ok b) bytes e = let same : b ≡ bytes = cc in ap fine same
result_is (Err f) bytes e = absurd cc

-- bytes that spell an operand that means o under its kind
pub record IsSpelled (n : Numbering) (k : Kind) (bytes : List ℕ) (o : Operand) : Type 0 where
  pub operand : CompactOperand
  pub meant : IsMeant n k operand o
  pub spells : spelling operand ≡ Ok bytes

pub operand_spelled : (n : Numbering) (k : Kind) (o : Operand) (bytes : List ℕ) → is_within k o ≡ true → operand_bytes n o ≡ Some bytes → IsSpelled n k bytes o
unfolding operand_bytes
operand_spelled n k o bytes w e =
    let c = chained (λ x. result_ok (spelling x)) (compact_of n o) bytes e in
    record { operand = c.0; meant = operand_meant n k o c.0 w c.1; spells = result_is (spelling c.0) bytes c.2 }
