-- A loadable listing has a text, unless a pid or a reference stands in its terms.
use Rattle.std.proofs.Common.{◌≡◌, ℕ, Bool, true, false, List, [], ◌∷◌, length, refl, sym, ap, ◌∙◌, Option, None, codes, is_some, not, option_and_then, if◌then◌else◌, ◌==◌, ◌&&◌, eqb-true}
use Rattle.std.specs.List.{list_all, zip}
use Rattle.std.proofs.lemmas.Bool.{and_parts, and_from}
use Rattle.beam_lemmas.proofs.SameText.{text_is}
use Rattle.beam_model.specs.declared.function.Import.{Import}
use Rattle.beam_model.specs.declared.instruction.Operand.{Operand}
use Rattle.beam_model.specs.declared.instruction.Instruction.{Instruction}
use Rattle.beam_model.specs.declared.opcode.Kind.{Kind}
use Rattle.beam_model.specs.Prelude.{Listing, native_named, allowed, is_erlang, built_in_of, same_text, all_operands, is_arity, is_frame_size, is_number_operand, is_register_operand, is_source_operand, is_import_operand, is_list_operand, is_within, is_known, are_labels_lawful, are_heads_lawful, are_exports_lawful, are_natives_known, are_limits_met, IsLoadable, kinds_of}
use Rattle.beam_model.specs.declared.instruction.Argument.TheVariants as argument
use Rattle.beam_model.specs.declared.instruction.Operand.TheVariants as operand
use Rattle.beam_model.specs.declared.opcode.Kind.TheVariants as kind
use Rattle.beam_listing.specs.Prelude.{is_any_register, is_any_source, is_any_import, is_any_list, is_of_kind, is_raise_two, is_built_in, TermsHaveText, HasListingText}

-- ---- within the limits of a kind, so of this kind

arity_number : (o : Operand) → is_arity o ≡ true → is_number_operand o ≡ true
arity_number (operand.One (argument.Number n)) e = refl
arity_number (operand.One (argument.Term t)) e = absurd cc
arity_number (operand.One (argument.X n)) e = absurd cc
arity_number (operand.One (argument.Y n)) e = absurd cc
arity_number (operand.One (argument.Label n)) e = absurd cc
arity_number (operand.Import i) e = absurd cc
arity_number (operand.List as') e = absurd cc

size_number : (o : Operand) → is_frame_size o ≡ true → is_number_operand o ≡ true
size_number (operand.One (argument.Number n)) e = refl
size_number (operand.One (argument.Term t)) e = absurd cc
size_number (operand.One (argument.X n)) e = absurd cc
size_number (operand.One (argument.Y n)) e = absurd cc
size_number (operand.One (argument.Label n)) e = absurd cc
size_number (operand.Import i) e = absurd cc
size_number (operand.List as') e = absurd cc

any_register : (o : Operand) → is_register_operand o ≡ true → is_any_register o ≡ true
any_register (operand.One (argument.X n)) e = refl
any_register (operand.One (argument.Y n)) e = refl
any_register (operand.One (argument.Term t)) e = absurd cc
any_register (operand.One (argument.Label n)) e = absurd cc
any_register (operand.One (argument.Number n)) e = absurd cc
any_register (operand.Import i) e = absurd cc
any_register (operand.List as') e = absurd cc

any_source : (o : Operand) → is_source_operand o ≡ true → is_any_source o ≡ true
any_source (operand.One (argument.X n)) e = refl
any_source (operand.One (argument.Y n)) e = refl
any_source (operand.One (argument.Term t)) e = refl
any_source (operand.One (argument.Label n)) e = absurd cc
any_source (operand.One (argument.Number n)) e = absurd cc
any_source (operand.Import i) e = absurd cc
any_source (operand.List as') e = absurd cc

any_import : (o : Operand) → is_import_operand o ≡ true → is_any_import o ≡ true
any_import (operand.Import i) e = refl
any_import (operand.One a) e = absurd cc
any_import (operand.List as') e = absurd cc

any_list : (o : Operand) → is_list_operand o ≡ true → is_any_list o ≡ true
any_list (operand.List as') e = refl
any_list (operand.One a) e = absurd cc
any_list (operand.Import i) e = absurd cc

of_kind : (k : Kind) (o : Operand) → is_within k o ≡ true → is_of_kind k o ≡ true
of_kind kind.Number o e = e
of_kind kind.Arity o e = arity_number o e
of_kind kind.FrameSize o e = size_number o e
of_kind kind.Label o e = e
of_kind kind.FailLabel o e = e
of_kind kind.Atom o e = e
of_kind kind.Source o e = any_source o e
of_kind kind.Register o e = any_register o e
of_kind kind.Import o e = any_import o e
of_kind (kind.Native n) o e = any_import o e
of_kind kind.List o e = any_list o e

-- ---- known, so built in

if_some : {A : Type 0} (b : Bool) (o : Option A) → is_some (if b then o else None) ≡ true → (b ≡ true) × (is_some o ≡ true)
if_some true o e = (refl, e)
if_some false o e = absurd cc

abbrev is_allowed : List ℕ → ℕ → Bool
is_allowed name arity = is_some (option_and_then allowed (native_named name arity))

-- raise/2 is no native
no_raise : (i : Import) → is_allowed i.function i.arity ≡ true → (b : Bool) → is_raise_two i ≡ b → not b ≡ true
no_raise i known false e = refl
no_raise i known true e =
    let both = and_parts (i.arity == 2) (same_text i.function (codes "raise")) e in
    let name : i.function ≡ codes "raise" = text_is i.function (codes "raise") both.1 in
    let arity : i.arity ≡ 2 = eqb-true i.arity 2 both.0 in
    sym (ap (is_allowed (codes "raise")) arity) ∙ sym (ap (λ (f : List ℕ). is_allowed f i.arity) name) ∙ known

known_native : (i : Import) → is_some (built_in_of i) ≡ true → (is_erlang i.«module» ≡ true) × (not (is_raise_two i) ≡ true)
unfolding built_in_of
known_native i e =
    let both = if_some (is_erlang i.«module») (option_and_then allowed (native_named i.function i.arity)) e in
    (both.0, no_raise i both.1 (is_raise_two i) refl)

built_in : (k : Kind) (o : Operand) → is_known k o ≡ true → is_built_in k o ≡ true
built_in (kind.Native n) (operand.Import i) e =
    let known = and_parts (is_some (built_in_of i)) (i.arity == n) e in
    let native = known_native i known.0 in
    and_from (is_erlang i.«module») (i.arity == n && not (is_raise_two i)) native.0 (and_from (i.arity == n) (not (is_raise_two i)) known.1 native.1)
built_in (kind.Native n) (operand.One a) e = refl
built_in (kind.Native n) (operand.List as') e = refl
built_in _ o e = refl

-- ---- all operands, all instructions

all_pass : {X : Type 0} (p q : X → Bool) → ((x : X) → p x ≡ true → q x ≡ true) → (xs : List X) → list_all p xs ≡ true → list_all q xs ≡ true
all_pass p q passes [] e = refl
all_pass p q passes (x ∷ xs) e =
    let s = and_parts (p x) (list_all p xs) e in
    and_from (q x) (list_all q xs) (passes x s.0) (all_pass p q passes xs s.1)

operands_pass : (p q : Kind → Operand → Bool) → ((k : Kind) (o : Operand) → p k o ≡ true → q k o ≡ true) → (ks : List Kind) (os : List Operand) → all_operands p ks os ≡ true → all_operands q ks os ≡ true
operands_pass p q passes ks os e =
    let s = and_parts (length ks == length os) (list_all (λ x. p x.0 x.1) (zip ks os)) e in
    and_from (length ks == length os) (list_all (λ x. q x.0 x.1) (zip ks os)) s.0
    (all_pass (λ (x : Kind × Operand). p x.0 x.1) (λ (x : Kind × Operand). q x.0 x.1) (λ x. passes x.0 x.1) (zip ks os) s.1)

instructions_pass : (p q : Kind → Operand → Bool) → ((k : Kind) (o : Operand) → p k o ≡ true → q k o ≡ true) → (is : List Instruction)
    → list_all (λ i. all_operands p (kinds_of i.opcode) i.operands) is ≡ true → list_all (λ i. all_operands q (kinds_of i.opcode) i.operands) is ≡ true
instructions_pass p q passes is e =
    all_pass (λ (i : Instruction). all_operands p (kinds_of i.opcode) i.operands) (λ (i : Instruction). all_operands q (kinds_of i.opcode) i.operands)
    (λ i. operands_pass p q passes (kinds_of i.opcode) i.operands) is e

record Parts (b c d f : Bool) : Type 0 where
  heads : b ≡ true
  exports : c ≡ true
  natives : d ≡ true
  limits : f ≡ true

parts : (a b c d f : Bool) → (a && b && c && d && f) ≡ true → Parts b c d f
parts true true true true true e = record { heads = refl; exports = refl; natives = refl; limits = refl }
parts false b c d f e = absurd cc
parts true false c d f e = absurd cc
parts true true false d f e = absurd cc
parts true true true false f e = absurd cc
parts true true true true false e = absurd cc

pub loadable_has_text : (l : Listing) → IsLoadable l → TermsHaveText l → HasListingText l
loadable_has_text l e terms =
    let p = parts (are_labels_lawful l) (are_heads_lawful l) (are_exports_lawful l) (are_natives_known l) (are_limits_met l) e.0 in
    record {
      heads = p.heads;
      exports = p.exports;
      kinds = instructions_pass is_within is_of_kind of_kind l.instructions p.limits;
      built_ins = instructions_pass is_known is_built_in built_in l.instructions p.natives;
      terms = terms;
    }
