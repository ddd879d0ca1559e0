-- The names of the natives.
use Rattle.std.specs.Prelude.{◌==◌, ◌||◌, ℕ, Bool, true, false, Option, None, Some, if◌then◌else◌, List, [], ◌∷◌, length, Result, Err, option_and_then, codes}
use Rattle.beam_model.specs.declared.native.TypeTest.TheVariants as kind
use Rattle.beam_model.specs.declared.native.Comparison.TheVariants as comparison
use Rattle.beam_model.specs.declared.native.Arithmetic.TheVariants as arithmetic
use Rattle.beam_model.specs.declared.native.Nullary.{Nullary}
use Rattle.beam_model.specs.declared.native.Nullary.TheVariants as nullary
use Rattle.beam_model.specs.declared.native.Unary.{Unary}
use Rattle.beam_model.specs.declared.native.Unary.TheVariants as unary
use Rattle.beam_model.specs.declared.native.Binary.{Binary}
use Rattle.beam_model.specs.declared.native.Binary.TheVariants as binary
use Rattle.beam_model.specs.declared.native.Ternary.{Ternary}
use Rattle.beam_model.specs.declared.native.Ternary.TheVariants as ternary
use Rattle.beam_model.specs.declared.native.Native.{Native}
use Rattle.beam_model.specs.declared.native.Native.TheVariants as native
use Rattle.beam_model.specs.declared.native.NodeNative.{NodeNative}
use Rattle.beam_model.specs.declared.native.NodeNative.TheVariants as node
use Rattle.beam_model.specs.declared.native.ProcessNative.{ProcessNative}
use Rattle.beam_model.specs.declared.native.ProcessNative.TheVariants.{Demonitor}
use Rattle.beam_model.specs.declared.function.Import.{Import}
use Rattle.beam_model.specs.Native.{native_value}
use Rattle.beam_model.specs.SameText.{same_text}
use Rattle.beam_model.specs.declared.exception.Exception.{Exception}
use Rattle.beam_model.specs.declared.exception.Exception.TheVariants as exception
use Rattle.beam_model.specs.declared.exception.Fault.TheVariants.{Undef}
use Rattle.beam_term.specs.Prelude.{TermValue}

-- the entry of a name in a table
abbrev pub look_up : {A : Type 0} → List ℕ → List (List ℕ × A) → Option A
look_up name [] = None
look_up name (row ∷ rows) = if same_text name row.0 then Some row.1 else look_up name rows

abbrev pub nullary_names : List (List ℕ × Nullary)
nullary_names = (codes "self", nullary.OwnPid) ∷ (codes "node", nullary.Node) ∷ []

abbrev pub unary_names : List (List ℕ × Unary)
unary_names =
    (codes "-", unary.Negate)
    ∷ (codes "bnot", unary.BitNot)
    ∷ (codes "abs", unary.Abs)
    ∷ (codes "not", unary.Not)
    ∷ (codes "is_atom", unary.IsOfType kind.Atom)
    ∷ (codes "is_integer", unary.IsOfType kind.Integer)
    ∷ (codes "is_list", unary.IsOfType kind.List)
    ∷ (codes "is_tuple", unary.IsOfType kind.Tuple)
    ∷ (codes "is_pid", unary.IsOfType kind.Pid)
    ∷ (codes "is_boolean", unary.IsOfType kind.Boolean)
    ∷ (codes "is_number", unary.IsOfType kind.Number)
    ∷ (codes "is_float", unary.IsOfType kind.Float)
    ∷ (codes "is_binary", unary.IsOfType kind.Binary)
    ∷ (codes "is_port", unary.IsOfType kind.Port)
    ∷ (codes "is_reference", unary.IsOfType kind.Reference)
    ∷ (codes "is_function", unary.IsOfType kind.Function)
    ∷ (codes "is_map", unary.IsOfType kind.Map)
    ∷ (codes "hd", unary.Head)
    ∷ (codes "tl", unary.Tail)
    ∷ (codes "length", unary.Length)
    ∷ (codes "tuple_size", unary.TupleSize)
    ∷ (codes "size", unary.TupleSize)
    ∷ (codes "error", unary.Error)
    ∷ (codes "exit", unary.Exit)
    ∷ (codes "throw", unary.Throw)
    ∷ (codes "tuple_to_list", unary.TupleToList)
    ∷ (codes "list_to_tuple", unary.ListToTuple)
    ∷ (codes "atom_to_list", unary.AtomToList)
    ∷ (codes "integer_to_list", unary.IntegerToList)
    ∷ []

abbrev pub binary_names : List (List ℕ × Binary)
binary_names =
    (codes "+", binary.Compute arithmetic.Add)
    ∷ (codes "-", binary.Compute arithmetic.Subtract)
    ∷ (codes "*", binary.Compute arithmetic.Multiply)
    ∷ (codes "div", binary.Compute arithmetic.Divide)
    ∷ (codes "rem", binary.Compute arithmetic.Remainder)
    ∷ (codes "band", binary.Compute arithmetic.BitAnd)
    ∷ (codes "bor", binary.Compute arithmetic.BitOr)
    ∷ (codes "bxor", binary.Compute arithmetic.BitXor)
    ∷ (codes "bsl", binary.Compute arithmetic.ShiftLeft)
    ∷ (codes "bsr", binary.Compute arithmetic.ShiftRight)
    ∷ (codes "==", binary.Compare comparison.Equal)
    ∷ (codes "/=", binary.Compare comparison.NotEqual)
    ∷ (codes "=<", binary.Compare comparison.LessOrEqual)
    ∷ (codes "<", binary.Compare comparison.Less)
    ∷ (codes ">=", binary.Compare comparison.GreaterOrEqual)
    ∷ (codes ">", binary.Compare comparison.Greater)
    ∷ (codes "=:=", binary.Compare comparison.Equal)
    ∷ (codes "=/=", binary.Compare comparison.NotEqual)
    ∷ (codes "max", binary.Maximum)
    ∷ (codes "min", binary.Minimum)
    ∷ (codes "and", binary.And)
    ∷ (codes "or", binary.Or)
    ∷ (codes "xor", binary.Xor)
    ∷ (codes "element", binary.Element)
    ∷ (codes "error", binary.Error)
    ∷ (codes "++", binary.Append)
    ∷ []

abbrev pub ternary_names : List (List ℕ × Ternary)
ternary_names = (codes "raise", ternary.Raise) ∷ (codes "setelement", ternary.SetElement) ∷ []

-- the native of this name and number of arguments
abbrev pub native_named : List ℕ → ℕ → Option Native
native_named name arity =
    if arity == 0 then of native.Nullary (look_up name nullary_names)
    else if arity == 1 then of native.Unary (look_up name unary_names)
    else if arity == 2 then of native.Binary (look_up name binary_names)
    else if arity == 3 then of native.Ternary (look_up name ternary_names)
    else None
  where
    of : {A : Type 0} → (A → Native) → Option A → Option Native
    of f (Some x) = Some (f x)
    of f None = None

-- whether an instruction of built-in functions may call the native; the others are for calls alone
abbrev pub is_built_in : Native → Bool
is_built_in (native.Unary unary.Error) = false
is_built_in (native.Unary unary.Exit) = false
is_built_in (native.Unary unary.Throw) = false
is_built_in (native.Unary unary.TupleToList) = false
is_built_in (native.Unary unary.ListToTuple) = false
is_built_in (native.Unary unary.AtomToList) = false
is_built_in (native.Unary unary.IntegerToList) = false
is_built_in (native.Binary binary.Error) = false
is_built_in (native.Binary binary.Append) = false
is_built_in (native.Ternary f) = false
is_built_in _ = true

-- a native that an instruction of built-in functions may call
abbrev pub allowed : Native → Option Native
allowed native = if is_built_in native then Some native else None

-- the functions of module `erlang` are natives, and no others are
abbrev pub is_erlang : List ℕ → Bool
is_erlang «module» = same_text «module» (codes "erlang")

-- the built-in function that an import names
unfoldable pub built_in_of : Import → Option Native
built_in_of i = if is_erlang i.«module» then option_and_then allowed (native_named i.function i.arity) else None

-- a function of module `erlang` of these arguments, in the process of this pid; one that is no native is undefined, and so is here one
-- that the node answers or that changes its process
abbrev pub bif_value : List ℕ → List TermValue → TermValue → Result TermValue Exception
bif_value name arguments own = called (native_named name (length arguments))
  where
    called : Option Native → Result TermValue Exception
    called (Some f) = native_value f arguments own
    called None = Err (exception.Fault Undef)

-- ---- the natives that the node answers

abbrev pub node_nullary_names : List (List ℕ × NodeNative)
node_nullary_names = (codes "make_ref", node.MakeRef) ∷ []

abbrev pub node_unary_names : List (List ℕ × NodeNative)
node_unary_names =
    (codes "unregister", node.Unregister)
    ∷ (codes "whereis", node.Whereis)
    ∷ (codes "is_process_alive", node.IsProcessAlive)
    ∷ []

abbrev pub node_binary_names : List (List ℕ × NodeNative)
node_binary_names =
    (codes "register", node.Register)
    ∷ (codes "exit", node.Exit)
    ∷ (codes "send", node.Send)
    ∷ (codes "!", node.Send)
    ∷ (codes "monitor", node.Monitor)
    ∷ []

abbrev pub node_ternary_names : List (List ℕ × NodeNative)
node_ternary_names = (codes "spawn", node.Spawn) ∷ []

-- the native of this name and number of arguments that the node answers
abbrev pub node_native_named : List ℕ → ℕ → Option NodeNative
node_native_named name arity =
    if arity == 0 then look_up name node_nullary_names
    else if arity == 1 then look_up name node_unary_names
    else if arity == 2 then look_up name node_binary_names
    else if arity == 3 then look_up name node_ternary_names
    else None

-- ---- the natives that change their process alone

abbrev pub process_names : List (List ℕ × ProcessNative)
process_names = (codes "demonitor", Demonitor) ∷ []

-- the native of this name and number of arguments that changes its process alone
abbrev pub process_native_named : List ℕ → ℕ → Option ProcessNative
process_native_named name arity = if arity == 1 || arity == 2 then look_up name process_names else None
