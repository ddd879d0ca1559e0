-- Which listings are read again from the text that is printed of them.
use Rattle.std.specs.Prelude.{◌≡◌, Bool, true, false, not, ◌==◌, ◌&&◌, codes}
use Rattle.std.specs.List.{list_all, All}
use Rattle.beam_model.specs.declared.function.Import.{Import}
use Rattle.beam_model.specs.declared.instruction.Argument.{Argument}
use Rattle.beam_model.specs.declared.instruction.Operand.{Operand}
use Rattle.beam_model.specs.declared.instruction.Instruction.{Instruction}
use Rattle.beam_model.specs.declared.opcode.Kind.{Kind}
use Rattle.beam_model.specs.Prelude.{Listing, same_text, all_operands, is_number_operand, is_label_operand, is_atom_operand, are_heads_lawful, are_exports_lawful, kinds_of, HasText}
use Rattle.beam_model.specs.declared.instruction.Argument.TheVariants as argument
use Rattle.beam_model.specs.declared.instruction.Operand.TheVariants as operand
use Rattle.beam_model.specs.declared.opcode.Kind.TheVariants as kind

-- ---- kinds

abbrev pub is_any_register : Operand → Bool
is_any_register (operand.One (argument.X n)) = true
is_any_register (operand.One (argument.Y n)) = true
is_any_register _ = false

abbrev pub is_any_source : Operand → Bool
is_any_source (operand.One (argument.Term t)) = true
is_any_source o = is_any_register o

abbrev pub is_any_import : Operand → Bool
is_any_import (operand.Import i) = true
is_any_import _ = false

abbrev pub is_any_list : Operand → Bool
is_any_list (operand.List as') = true
is_any_list _ = false

-- The operand is of its kind's letter: its numbers may be above the limits of arities, frames and registers, and its labels may be undefined.
abbrev pub is_of_kind : Kind → Operand → Bool
is_of_kind kind.Number o = is_number_operand o
is_of_kind kind.Arity o = is_number_operand o
is_of_kind kind.FrameSize o = is_number_operand o
is_of_kind kind.Label o = is_label_operand o
is_of_kind kind.FailLabel o = is_label_operand o
is_of_kind kind.Atom o = is_atom_operand o
is_of_kind kind.Source o = is_any_source o
is_of_kind kind.Register o = is_any_register o
is_of_kind kind.Import o = is_any_import o
is_of_kind (kind.Native arity) o = is_any_import o
is_of_kind kind.List o = is_any_list o

-- the operands of each instruction are of its opcode's kinds
abbrev pub are_of_kinds : Listing → Bool
are_of_kinds l = list_all (λ i. all_operands is_of_kind (kinds_of i.opcode) i.operands) l.instructions

-- raise/2: a bif that calls it is read as the instruction raise
abbrev pub is_raise_two : Import → Bool
is_raise_two i = i.arity == 2 && same_text i.function (codes "raise")

-- a native is one of erlang's, has as many arguments as its opcode, and isn't raise/2
abbrev pub is_built_in : Kind → Operand → Bool
is_built_in (kind.Native arity) (operand.Import i) = same_text i.«module» (codes "erlang") && (i.arity == arity && not (is_raise_two i))
is_built_in _ o = true

abbrev pub are_built_in : Listing → Bool
are_built_in l = list_all (λ i. all_operands is_built_in (kinds_of i.opcode) i.operands) l.instructions

-- ---- terms

abbrev pub ArgumentHasText : Argument → Type 0
ArgumentHasText (argument.Term t) = HasText t
ArgumentHasText _ = Unit {0}

abbrev pub OperandHasText : Operand → Type 0
OperandHasText (operand.One a) = ArgumentHasText a
OperandHasText (operand.Import i) = Unit {0}
OperandHasText (operand.List as') = All ArgumentHasText as'

abbrev pub OperandsHaveText : Instruction → Type 0
OperandsHaveText i = All OperandHasText i.operands

-- neither a pid nor a reference stands in a term of an operand: texts of these can't be read
abbrev pub TermsHaveText : Listing → Type 0
TermsHaveText l = All OperandsHaveText l.instructions

-- ---- all of it

pub record HasListingText (l : Listing) : Type 0 where
  pub heads : are_heads_lawful l ≡ true
  pub exports : are_exports_lawful l ≡ true
  pub kinds : are_of_kinds l ≡ true
  pub built_ins : are_built_in l ≡ true
  pub terms : TermsHaveText l
