-- Instructions as the compiler's listings write them: each name with its operands.
use Prim.Native.String.{String}
use Rattle.std.specs.Prelude.{ℕ, pos, List, [], ◌∷◌, map, codes}
use Rattle.beam_model.specs.declared.function.Export.{Export}
use Rattle.beam_model.specs.declared.function.Import.{Import}
use Rattle.beam_model.specs.declared.instruction.Argument.{Argument}
use Rattle.beam_model.specs.declared.instruction.Operand.{Operand}
use Rattle.beam_model.specs.declared.instruction.Instruction.{Instruction}
use Rattle.beam_model.specs.declared.opcode.Opcode.{Opcode}
use Rattle.beam_term.specs.Prelude.{TermValue, int_term, atom_term, nil_term}
use Rattle.beam_model.specs.declared.instruction.Argument.TheVariants as argument
use Rattle.beam_model.specs.declared.instruction.Operand.TheVariants as operand
use Rattle.beam_model.specs.declared.opcode.Opcode.TheVariants as op

-- ---- heads

-- {function,F,A,Entry} of an exported function
abbrev pub exported : String → ℕ → ℕ → Export
exported function arity entry = record { name = codes function; arity = arity; label = entry }

-- ---- operands

-- {x,N}
abbrev pub x : ℕ → Argument
x = argument.X

-- {y,N}
abbrev pub y : ℕ → Argument
y = argument.Y

-- {f,N}
abbrev pub f : ℕ → Argument
f = argument.Label

-- {integer,N}
abbrev pub integer : ℕ → Argument
integer n = argument.Term (int_term (pos n))

-- {atom,A}
abbrev pub atom : String → Argument
atom text = argument.Term (atom_term (codes text))

-- nil
abbrev pub nil : Argument
nil = argument.Term nil_term

-- {literal,T}
abbrev pub literal : TermValue → Argument
literal = argument.Term

-- {extfunc,M,F,A}
abbrev pub extfunc : String → String → ℕ → Import
extfunc m function arity = record { «module» = codes m; function = codes function; arity = arity }

-- ---- instructions

abbrev pub with_operands : Opcode → List Operand → Instruction
with_operands opcode operands = record { opcode = opcode; operands = operands }

abbrev pub with_arguments : Opcode → List Argument → Instruction
with_arguments opcode arguments = with_operands opcode (map operand.One arguments)

abbrev pub label : ℕ → Instruction
label n = with_arguments op.Label (argument.Number n ∷ [])

abbrev pub func_info : Argument → Argument → ℕ → Instruction
func_info m function arity = with_arguments op.FuncInfo (m ∷ function ∷ argument.Number arity ∷ [])

abbrev pub move : Argument → Argument → Instruction
move s d = with_arguments op.Move (s ∷ d ∷ [])

-- {test,is_eq_exact,F,[S,T]}
abbrev pub test_is_eq_exact : Argument → Argument → Argument → Instruction
test_is_eq_exact fail s t = with_arguments op.IsEqExact (fail ∷ s ∷ t ∷ [])

-- {gc_bif,Name,F,Live,[S,T],D}
abbrev pub gc_bif : String → Argument → ℕ → Argument → Argument → Argument → Instruction
gc_bif name fail live s t d =
    with_operands op.GcBif2 (operand.One fail ∷ operand.One (argument.Number live) ∷ operand.Import (extfunc "erlang" name 2) ∷ operand.One s ∷ operand.One t ∷ operand.One d ∷ [])

abbrev pub call_only : ℕ → Argument → Instruction
call_only arity to = with_arguments op.CallOnly (argument.Number arity ∷ to ∷ [])

abbrev pub call_ext : ℕ → Import → Instruction
call_ext arity to = with_operands op.CallExt (operand.One (argument.Number arity) ∷ operand.Import to ∷ [])

abbrev pub call_ext_only : ℕ → Import → Instruction
call_ext_only arity to = with_operands op.CallExtOnly (operand.One (argument.Number arity) ∷ operand.Import to ∷ [])

abbrev pub jump : Argument → Instruction
jump to = with_arguments op.Jump (to ∷ [])

abbrev pub return : Instruction
return = with_arguments op.Return []

abbrev pub allocate : ℕ → ℕ → Instruction
allocate size live = with_arguments op.Allocate (argument.Number size ∷ argument.Number live ∷ [])

abbrev pub deallocate : ℕ → Instruction
deallocate size = with_arguments op.Deallocate (argument.Number size ∷ [])

abbrev pub get_list : Argument → Argument → Argument → Instruction
get_list s head tail = with_arguments op.GetList (s ∷ head ∷ tail ∷ [])

abbrev pub put_list : Argument → Argument → Argument → Instruction
put_list head tail d = with_arguments op.PutList (head ∷ tail ∷ d ∷ [])

-- {put_tuple2,D,{list,[S,..]}}
abbrev pub put_tuple2 : Argument → List Argument → Instruction
put_tuple2 d elements = with_operands op.PutTuple2 (operand.One d ∷ operand.List elements ∷ [])

abbrev pub catch : Argument → Argument → Instruction
catch d handler = with_arguments op.Catch (d ∷ handler ∷ [])

abbrev pub catch_end : Argument → Instruction
catch_end d = with_arguments op.CatchEnd (d ∷ [])

abbrev pub try : Argument → Argument → Instruction
try d handler = with_arguments op.Try (d ∷ handler ∷ [])

abbrev pub try_case : Argument → Instruction
try_case d = with_arguments op.TryCase (d ∷ [])

-- {raise,[S,T]}
abbrev pub raise : Argument → Argument → Instruction
raise s t = with_arguments op.Raise (s ∷ t ∷ [])

abbrev pub loop_rec : Argument → Argument → Instruction
loop_rec none d = with_arguments op.LoopRec (none ∷ d ∷ [])

abbrev pub loop_rec_end : Argument → Instruction
loop_rec_end to = with_arguments op.LoopRecEnd (to ∷ [])

abbrev pub remove_message : Instruction
remove_message = with_arguments op.RemoveMessage []

abbrev pub wait : Argument → Instruction
wait to = with_arguments op.Wait (to ∷ [])

abbrev pub wait_timeout : Argument → Argument → Instruction
wait_timeout to s = with_arguments op.WaitTimeout (to ∷ s ∷ [])

abbrev pub timeout : Instruction
timeout = with_arguments op.Timeout []
