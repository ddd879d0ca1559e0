-- Each printed operand is read again under its kind.
use Rattle.std.proofs.Common.{◌≡◌, ℕ, true, false, List, [], ◌∷◌, ◌++◌, Some, refl, sym, ap, ◌∙◌, append_assoc, append-nil, codes}
use Rattle.beam_model.specs.declared.function.Import.{Import}
use Rattle.beam_model.specs.declared.instruction.Operand.{Operand}
use Rattle.beam_model.specs.declared.opcode.Kind.{Kind}
use Rattle.beam_model.specs.Prelude.{atom_text, is_number_operand, is_label_operand, is_atom_operand, term_text, operand_text, number_member, label_argument, atom_argument, part_of, source_of_text, register_of_text, import_of_text, native_of, members_of_text, as_one, as_import, as_list, operand_of_text, operands_from}
use Rattle.beam_model.specs.declared.instruction.Argument.TheVariants as argument
use Rattle.beam_model.specs.declared.instruction.Operand.TheVariants as operand
use Rattle.beam_model.specs.declared.opcode.Kind.TheVariants as kind
use Rattle.beam_term.specs.Prelude.{int_term, atom_term, reference_term, pid_term, nil_term, pair_term, tuple_term}
use Rattle.beam_listing.specs.Typed.{IsImport}
use Rattle.beam_listing.specs.Prelude.{is_any_register, is_any_source, is_any_import, is_any_list, is_of_kind, is_raise_two}
use Rattle.beam_listing.proofs.Elements.{IsPart, AreParts}
use Rattle.beam_listing.proofs.Operands.{IsReadArgument, atom_whole, atom_part, atom_word, tagged_headed, x_again, y_again, f_again, x_source, y_source, term_source_again}
use Rattle.beam_listing.proofs.Members.{AreArguments, argument_part, number_again, list_again, list_text_part, import_again, import_part, native_again}

-- what the numbers, names and terms of an operand must be
abbrev pub IsReadOperand : Operand → Type 0
IsReadOperand (operand.One a) = IsReadArgument a
IsReadOperand (operand.Import i) = IsImport i
IsReadOperand (operand.List as') = AreArguments as'

-- a native that is written by its name alone
pub record IsNative (n : ℕ) (i : Import) : Type 0 where
  pub «module» : i.«module» ≡ codes "erlang"
  pub arity : i.arity ≡ n
  pub other : is_raise_two i ≡ false

abbrev pub IsBuiltIn : Kind → Operand → Type 0
IsBuiltIn (kind.Native n) (operand.Import i) = IsNative n i
IsBuiltIn _ o = Unit {0}

abbrev pub text_under : Kind → Operand → List ℕ
text_under (kind.Native n) (operand.Import i) = atom_text i.function
text_under _ o = operand_text o

number_operand : (o : Operand) → IsReadOperand o → is_number_operand o ≡ true → as_one (number_member (operand_text o)) ≡ Some o
number_operand (operand.One (argument.Term t)) is e = absurd cc
number_operand (operand.One (argument.X n)) is e = absurd cc
number_operand (operand.One (argument.Y n)) is e = absurd cc
number_operand (operand.One (argument.Label n)) is e = absurd cc
number_operand (operand.One (argument.Number n)) is e = rw (number_again n is) refl
number_operand (operand.Import i) is e = absurd cc
number_operand (operand.List as') is e = absurd cc

label_operand : (o : Operand) → IsReadOperand o → is_label_operand o ≡ true → as_one (label_argument (operand_text o)) ≡ Some o
label_operand (operand.One (argument.Term t)) is e = absurd cc
label_operand (operand.One (argument.X n)) is e = absurd cc
label_operand (operand.One (argument.Y n)) is e = absurd cc
label_operand (operand.One (argument.Label n)) is e = rw (f_again n is) refl
label_operand (operand.One (argument.Number n)) is e = absurd cc
label_operand (operand.Import i) is e = absurd cc
label_operand (operand.List as') is e = absurd cc

atom_alone : (name : List ℕ) → IsReadArgument (argument.Term (atom_term name)) → atom_argument (term_text (atom_term name)) ≡ Some (argument.Term (atom_term name))
unfolding atom_argument part_of
atom_alone name is = rw (tagged_headed (codes "atom") (atom_text name) atom_word (atom_part name), atom_whole name is.0.in_range) refl

atom_operand : (o : Operand) → IsReadOperand o → is_atom_operand o ≡ true → as_one (atom_argument (operand_text o)) ≡ Some o
atom_operand (operand.One (argument.Term (int_term z))) is e = absurd cc
atom_operand (operand.One (argument.Term (atom_term name))) is e = rw (atom_alone name is) refl
atom_operand (operand.One (argument.Term (reference_term node creation words))) is e = absurd cc
atom_operand (operand.One (argument.Term (pid_term node id serial creation))) is e = absurd cc
atom_operand (operand.One (argument.Term nil_term)) is e = absurd cc
atom_operand (operand.One (argument.Term (pair_term h t))) is e = absurd cc
atom_operand (operand.One (argument.Term (tuple_term items))) is e = absurd cc
atom_operand (operand.One (argument.X n)) is e = absurd cc
atom_operand (operand.One (argument.Y n)) is e = absurd cc
atom_operand (operand.One (argument.Label n)) is e = absurd cc
atom_operand (operand.One (argument.Number n)) is e = absurd cc
atom_operand (operand.Import i) is e = absurd cc
atom_operand (operand.List as') is e = absurd cc

source_operand : (o : Operand) → IsReadOperand o → is_any_source o ≡ true → as_one (source_of_text (operand_text o)) ≡ Some o
source_operand (operand.One (argument.Term t)) is e = rw (term_source_again t is.0 is.1) refl
source_operand (operand.One (argument.X n)) is e = rw (x_source n is) refl
source_operand (operand.One (argument.Y n)) is e = rw (y_source n is) refl
source_operand (operand.One (argument.Label n)) is e = absurd cc
source_operand (operand.One (argument.Number n)) is e = absurd cc
source_operand (operand.Import i) is e = absurd cc
source_operand (operand.List as') is e = absurd cc

register_operand : (o : Operand) → IsReadOperand o → is_any_register o ≡ true → as_one (register_of_text (operand_text o)) ≡ Some o
register_operand (operand.One (argument.Term t)) is e = absurd cc
register_operand (operand.One (argument.X n)) is e = rw (x_again n is) refl
register_operand (operand.One (argument.Y n)) is e = rw (y_again n is) refl
register_operand (operand.One (argument.Label n)) is e = absurd cc
register_operand (operand.One (argument.Number n)) is e = absurd cc
register_operand (operand.Import i) is e = absurd cc
register_operand (operand.List as') is e = absurd cc

import_operand : (o : Operand) → IsReadOperand o → is_any_import o ≡ true → as_import (import_of_text (operand_text o)) ≡ Some o
import_operand (operand.One a) is e = absurd cc
import_operand (operand.Import i) is e = rw (import_again i is) refl
import_operand (operand.List as') is e = absurd cc

native_operand : (n : ℕ) (o : Operand) → IsReadOperand o → IsBuiltIn (kind.Native n) o → is_any_import o ≡ true → as_import (native_of n (text_under (kind.Native n) o)) ≡ Some o
native_operand n (operand.One a) is built e = absurd cc
native_operand n (operand.Import i) is built e = rw (native_again n i is.function built.«module» built.arity) refl
native_operand n (operand.List as') is built e = absurd cc

list_operand : (o : Operand) → IsReadOperand o → is_any_list o ≡ true → as_list (members_of_text (operand_text o)) ≡ Some o
list_operand (operand.One a) is e = absurd cc
list_operand (operand.Import i) is e = absurd cc
list_operand (operand.List as') is e = rw (list_again as' is) refl

pub operand_again : (k : Kind) (o : Operand) → IsReadOperand o → IsBuiltIn k o → is_of_kind k o ≡ true → operand_of_text k (text_under k o) ≡ Some o
unfolding operand_of_text
operand_again kind.Number o is built e = number_operand o is e
operand_again kind.Arity o is built e = number_operand o is e
operand_again kind.FrameSize o is built e = number_operand o is e
operand_again kind.Label o is built e = label_operand o is e
operand_again kind.FailLabel o is built e = label_operand o is e
operand_again kind.Atom o is built e = atom_operand o is e
operand_again kind.Source o is built e = source_operand o is e
operand_again kind.Register o is built e = register_operand o is e
operand_again kind.Import o is built e = import_operand o is e
operand_again (kind.Native n) o is built e = native_operand n o is built e
operand_again kind.List o is built e = list_operand o is e

pub operand_part : (o : Operand) → IsReadOperand o → IsPart (operand_text o)
operand_part (operand.One a) is = argument_part a is
operand_part (operand.Import i) is = import_part i is
operand_part (operand.List as') is = list_text_part as' is

pub part_under : (k : Kind) (o : Operand) → IsReadOperand o → IsPart (text_under k o)
part_under (kind.Native n) (operand.One a) is = argument_part a is
part_under (kind.Native n) (operand.Import i) is = atom_part i.function
part_under (kind.Native n) (operand.List as') is = list_text_part as' is
part_under _ o is = operand_part o is

-- an operand that is of its kind, and can be written
pub record IsUnder (k : Kind) (o : Operand) : Type 0 where
  pub operand : IsReadOperand o
  pub built_in : IsBuiltIn k o
  pub of_kind : is_of_kind k o ≡ true

-- operands of these kinds, as many as there are kinds
abbrev pub AreUnder : List Kind → List Operand → Type 0
AreUnder [] [] = Unit {0}
AreUnder [] (o ∷ os) = ⊥
AreUnder (k ∷ ks) [] = ⊥
AreUnder (k ∷ ks) (o ∷ os) = IsUnder k o × AreUnder ks os

abbrev pub texts_under : List Kind → List Operand → List (List ℕ)
texts_under [] os = []
texts_under (k ∷ ks) [] = []
texts_under (k ∷ ks) (o ∷ os) = text_under k o ∷ texts_under ks os

pub operands_again : (done : List Operand) (ks : List Kind) (os : List Operand) → AreUnder ks os → operands_from done ks (texts_under ks os) ≡ Some (done ++ os)
unfolding operands_from
operands_again done [] [] are = ap (λ (t : List Operand). Some t) (sym (append-nil done))
operands_again done [] (o ∷ os) are = absurd are
operands_again done (k ∷ ks) [] are = absurd are
operands_again done (k ∷ ks) (o ∷ os) are =
    rw (operand_again k o are.0.operand are.0.built_in are.0.of_kind) (operands_again (done ++ o ∷ []) ks os are.1 ∙ ap (λ (t : List Operand). Some t) (append_assoc done (o ∷ []) os))

pub parts_under : (ks : List Kind) (os : List Operand) → AreUnder ks os → AreParts (texts_under ks os)
parts_under [] [] are = tt
parts_under [] (o ∷ os) are = absurd are
parts_under (k ∷ ks) [] are = absurd are
parts_under (k ∷ ks) (o ∷ os) are = (part_under k o are.0.operand, parts_under ks os are.1)
