-- The invariants of the types of a listing's parts.
use Rattle.std.specs.Prelude.{◌^◌, ◌<◌}
use Rattle.std.specs.List.{All}
use Rattle.beam_model.specs.declared.function.Export.{Export}
use Rattle.beam_model.specs.declared.function.Import.{Import}
use Rattle.beam_model.specs.declared.instruction.Argument.{Argument}
use Rattle.beam_model.specs.declared.instruction.Operand.{Operand}
use Rattle.beam_model.specs.declared.instruction.Instruction.{Instruction}
use Rattle.beam_model.specs.Prelude.{Listing}
use Rattle.beam_term.specs.Prelude.{IsAtomText, IsTerm}
use Rattle.beam_model.specs.declared.instruction.Argument.TheVariants as argument
use Rattle.beam_model.specs.declared.instruction.Operand.TheVariants as operand

-- a term, or a number of 32 bits
abbrev pub IsArgument : Argument → Type 0
IsArgument (argument.Term t) = IsTerm t
IsArgument (argument.X n) = n < 2 ^ 32
IsArgument (argument.Y n) = n < 2 ^ 32
IsArgument (argument.Label n) = n < 2 ^ 32
IsArgument (argument.Number n) = n < 2 ^ 32

pub record IsImport (i : Import) : Type 0 where
  pub «module» : IsAtomText i.«module»
  pub function : IsAtomText i.function
  pub arity : i.arity < 2 ^ 32

abbrev pub IsOperand : Operand → Type 0
IsOperand (operand.One a) = IsArgument a
IsOperand (operand.Import i) = IsImport i
IsOperand (operand.List as') = All IsArgument as'

abbrev pub AreOperands : Instruction → Type 0
AreOperands i = All IsOperand i.operands

pub record IsExport (e : Export) : Type 0 where
  pub name : IsAtomText e.name
  pub arity : e.arity < 2 ^ 32

-- names are atoms, terms are terms, and numbers have 32 bits
pub record IsListing (l : Listing) : Type 0 where
  pub name : IsAtomText l.name
  pub exports : All IsExport l.exports
  pub label_count : l.label_count < 2 ^ 32
  pub instructions : All AreOperands l.instructions
