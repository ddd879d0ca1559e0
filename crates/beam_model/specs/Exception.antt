-- Exceptions: their classes and values, and the terms that stand for them (Erlang Reference Manual, Errors and Error Handling).
use Rattle.std.specs.Prelude.{ℕ, nat_le, if◌then◌else◌, List, [], ◌∷◌, Option, Some, None, codes}
use Rattle.beam_model.specs.declared.exception.Class.{Class}
use Rattle.beam_model.specs.declared.exception.Class.TheVariants as class
use Rattle.beam_model.specs.declared.exception.Exception.{Exception}
use Rattle.beam_model.specs.declared.exception.Exception.TheVariants as exception
use Rattle.beam_model.specs.declared.exception.Fault.{Fault}
use Rattle.beam_model.specs.declared.exception.Fault.TheVariants.{Undef, FunctionClause, IllegalOperand, Badarith, Badarg, SystemLimit, IfClause, TimeoutValue}
use Rattle.beam_model.specs.declared.exception.ClauseFault.{ClauseFault}
use Rattle.beam_model.specs.declared.exception.ClauseFault.TheVariants.{TryClause, Badmatch, CaseClause, Badrecord}
use Rattle.beam_term.specs.Prelude.{TermValue, atom_term, nil_term, pair_term, tuple_of, depth_of}

-- the text of a fault's reason
abbrev pub reason_text : Fault → List ℕ
reason_text Undef = codes "undef"
reason_text FunctionClause = codes "function_clause"
reason_text IllegalOperand = codes "illegal_operand"
reason_text Badarith = codes "badarith"
reason_text Badarg = codes "badarg"
reason_text SystemLimit = codes "system_limit"
reason_text IfClause = codes "if_clause"
reason_text TimeoutValue = codes "timeout_value"

-- the first element of the reason of a fault that names a value
abbrev pub clause_text : ClauseFault → List ℕ
clause_text TryClause = codes "try_clause"
clause_text Badmatch = codes "badmatch"
clause_text CaseClause = codes "case_clause"
clause_text Badrecord = codes "badrecord"

-- a fault is of class error; no program can tell badarg raised by a row from error(badarg), only these definitions do
abbrev pub class_of : Exception → Class
class_of (exception.Fault fault) = class.Error
class_of (exception.Raised class value) = class

abbrev pub value_of : Exception → TermValue
value_of (exception.Fault fault) = atom_term (reason_text fault)
value_of (exception.Raised class value) = value

-- the atom of a class
abbrev pub class_text : Class → List ℕ
class_text class.Error = codes "error"
class_text class.Exit = codes "exit"
class_text class.Throw = codes "throw"

abbrev pub class_term : Class → TermValue
class_term c = atom_term (class_text c)

-- a raw trace is a list of the class alone, for there are no traces
abbrev pub trace_of : Class → TermValue
trace_of c = pair_term (class_term c) nil_term

-- where a term around a value would be too deep, the atom system_limit stands for the value
abbrev pub around : (TermValue → TermValue) → TermValue → TermValue
around f value = if nat_le (depth_of (f value)) 4096 then f value else f (atom_term (reason_text SystemLimit))

abbrev pub pair_of : TermValue → TermValue → TermValue
pair_of s t = tuple_of (s ∷ t ∷ [])

-- the exception of a value for which no clause was found
abbrev pub clause_exception : ClauseFault → TermValue → Exception
clause_exception fault value = exception.Raised class.Error (around (pair_of (atom_term (clause_text fault))) value)

-- the reason of an end by an exception that nothing caught; the trace is empty
abbrev pub exit_reason_by : Class → TermValue → TermValue
exit_reason_by class.Error value = around (λ v. pair_of v nil_term) value
exit_reason_by class.Throw value = around (λ v. pair_of (pair_of (atom_term (codes "nocatch")) v) nil_term) value
exit_reason_by class.Exit value = value

abbrev pub exit_reason : Exception → TermValue
exit_reason e = exit_reason_by (class_of e) (value_of e)

-- what catch makes of an exception
abbrev pub caught_by : Class → TermValue → TermValue
caught_by class.Error value = around (λ v. pair_of (atom_term (codes "EXIT")) (pair_of v nil_term)) value
caught_by class.Throw value = value
caught_by class.Exit value = around (pair_of (atom_term (codes "EXIT"))) value

abbrev pub caught : Exception → TermValue
caught e = caught_by (class_of e) (value_of e)
