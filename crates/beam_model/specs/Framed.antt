-- The shapes of a listing: before each row, what is known of the y registers of the newest frame (stack maps). A listing is framed where
-- each of its rows that can be reached has a shape with which it finds the registers and the frame that it names.
-- (The frame that a row needs, and what it makes of it: genop.tab, from allocate to trim. Where an exception goes: Erlang Reference Manual,
-- Expressions, Catch and Throw, Try. The shapes are this node's own.)
use Rattle.std.specs.Prelude.{◌≡◌, ◌≤◌, ℕ, ◌+◌, ◌==◌, ◌&&◌, ◌||◌, not, nat_lt, nat_eq, Bool, true, false, if◌then◌else◌, List, [], ◌∷◌, ◌++◌, length, drop, replicate, slice_get, slice_set, Option, Some, None, is_some, unwrap_or, option_map, option_and_then, codes}
use Rattle.std.specs.List.{list_all, flat_map, zip}
use Rattle.std.specs.Cmp.Lexicographic.{pointwise}
use Rattle.std.specs.Option.{option_eq}
use Rattle.beam_model.specs.declared.function.Import.{Import}
use Rattle.beam_model.specs.declared.instruction.Argument.{Argument}
use Rattle.beam_model.specs.declared.instruction.Argument.TheVariants as argument
use Rattle.beam_model.specs.declared.instruction.Operand.{Operand}
use Rattle.beam_model.specs.declared.instruction.Operand.TheVariants as operand
use Rattle.beam_model.specs.declared.instruction.Instruction.{Instruction}
use Rattle.beam_model.specs.declared.native.Binary.TheVariants as binary
use Rattle.beam_model.specs.declared.native.Native.{Native}
use Rattle.beam_model.specs.declared.native.Native.TheVariants as native
use Rattle.beam_model.specs.declared.native.Unary.TheVariants as unary
use Rattle.beam_model.specs.declared.opcode.Kind.{Kind}
use Rattle.beam_model.specs.declared.opcode.Kind.TheVariants as kind
use Rattle.beam_model.specs.declared.opcode.Opcode.{Opcode}
use Rattle.beam_model.specs.declared.opcode.Opcode.TheVariants as op
use Rattle.beam_model.specs.Fetch.{end_of_code}
use Rattle.beam_model.specs.Listing.{Listing, label_of, is_row, row_of_label, next_row}
use Rattle.beam_model.specs.Loadable.{is_none_label, number_in}
use Rattle.beam_model.specs.Native.{is_exit}
use Rattle.beam_model.specs.NativeNames.{built_in_of, is_erlang, native_named}
use Rattle.beam_model.specs.Opcodes.{kinds_of}
use Rattle.beam_model.specs.SameText.{same_text}

-- ---- shapes

-- what is known of the newest frame
pub data Shape : Type 0 where
  bare : Shape  -- the frame has no y registers
  sized : List (Option ℕ) → Shape  -- the y registers of the frame: for each the label of the catch tag in it, or None
  any : Shape  -- no catch tag stands in it, and nothing else is known

-- for each position the shape before the row there; None where the row is never reached
abbrev pub Assignment : Type 0
Assignment = ℕ → Option Shape

-- the label of the first catch tag, from y0 upwards
abbrev pub first_in : List (Option ℕ) → Option ℕ
first_in [] = None
first_in (Some label ∷ rest) = Some label
first_in (None ∷ rest) = first_in rest

abbrev pub first_tag : Shape → Option ℕ
first_tag (sized y) = first_in y
first_tag _ = None

abbrev pub same_shape : Shape → Shape → Bool
same_shape bare bare = true
same_shape (sized y) (sized z) = pointwise (option_eq nat_eq) y z
same_shape any any = true
same_shape _ _ = false

-- whether a row that is reached with a shape may have this one: the same shape, or `any` where no catch tag stands in the first
abbrev pub may_have : Shape → Option Shape → Bool
may_have s (Some any) = not (is_some (first_tag s))
may_have s (Some t) = same_shape s t
may_have s None = false

abbrev pub is_bare : Option Shape → Bool
is_bare (Some bare) = true
is_bare _ = false

-- ---- y registers

abbrev pub y_in : Argument → List ℕ
y_in (argument.Y n) = n ∷ []
y_in _ = []

abbrev pub ys_in : Operand → List ℕ
ys_in (operand.One a) = y_in a
ys_in (operand.Import i) = []
ys_in (operand.List as') = flat_map y_in as'

-- swap reads its registers too, and init_yregs writes those of its list
abbrev pub is_read : Opcode → Kind → Bool
is_read op.Swap kind.Register = true
is_read op.InitYregs kind.List = false
is_read opcode kind.Source = true
is_read opcode kind.List = true
is_read opcode _ = false

abbrev pub is_written : Opcode → Kind → Bool
is_written op.InitYregs kind.List = true
is_written opcode kind.Register = true
is_written opcode _ = false

-- what the operands of the kinds that pass a test name
abbrev pub named_by : (Operand → List ℕ) → (Kind → Bool) → Instruction → List ℕ
named_by named test i = flat_map (λ p. if test p.0 then named p.1 else []) (zip (kinds_of i.opcode) i.operands)

abbrev pub read_ys : Instruction → List ℕ
read_ys i = named_by ys_in (is_read i.opcode) i

abbrev pub written_ys : Instruction → List ℕ
written_ys i = named_by ys_in (is_written i.opcode) i

-- the register is there, and holds no catch tag
abbrev pub is_value_in : Option (Option ℕ) → Bool
is_value_in (Some tag) = not (is_some tag)
is_value_in None = false

abbrev pub is_value : Shape → ℕ → Bool
is_value (sized y) n = is_value_in (slice_get y n)
is_value _ n = false

abbrev pub is_there : Shape → ℕ → Bool
is_there (sized y) n = nat_lt n (length y)
is_there _ n = false

-- these registers get the catch tag of a label, or no tag
abbrev pub put_ys : Option ℕ → List ℕ → List (Option ℕ) → List (Option ℕ)
put_ys tag [] y = y
put_ys tag (n ∷ rest) y = put_ys tag rest (slice_set y n tag)

abbrev pub put_all : Option ℕ → List ℕ → Shape → Shape
put_all tag ns (sized y) = sized (put_ys tag ns y)
put_all tag ns s = s

-- ---- frames

-- the newest frame that a row needs, and what the row makes of it, beside the registers
pub data FrameEffect : Type 0 where
  keeps : FrameEffect
  wants_bare : FrameEffect
  allocates : ℕ → FrameEffect  -- needs a frame without y registers, and makes n
  drops : ℕ → FrameEffect  -- needs exactly n y registers, and leaves none
  trims : ℕ → ℕ → FrameEffect  -- needs exactly m + n y registers, and drops the first m

abbrev pub number : Operand → ℕ
number o = unwrap_or (number_in o) 0

-- whether a call is of a native that never returns: error/1 and error/2, exit/1 and throw/1
abbrev pub calls_exit_by : Option Native → Bool
calls_exit_by (Some native) = is_exit native
calls_exit_by None = false

abbrev pub calls_exit : Operand → Bool
calls_exit (operand.Import i) = is_erlang i.«module» && calls_exit_by (native_named i.function i.arity)
calls_exit _ = false

-- (A tail call of a native that never returns needs no size: the compiler lets such calls share one row from before a trim and after it, and
-- writes any number there; see validate_tail_call of OTP's beam_validator, and safe labels of its beam_trim.)
abbrev pub frame_effect_by : Opcode → List Operand → FrameEffect
frame_effect_by op.Allocate (n ∷ rest) = allocates (number n)
frame_effect_by op.AllocateHeap (n ∷ rest) = allocates (number n)
frame_effect_by op.Deallocate (n ∷ rest) = drops (number n)
frame_effect_by op.CallLast (arity ∷ f ∷ n ∷ rest) = drops (number n)
frame_effect_by op.CallExtLast (arity ∷ i ∷ n ∷ rest) = if calls_exit i then keeps else drops (number n)
frame_effect_by op.ApplyLast (arity ∷ n ∷ rest) = drops (number n)
frame_effect_by op.Trim (m ∷ n ∷ rest) = trims (number m) (number n)
frame_effect_by op.Return os = wants_bare
frame_effect_by op.CallOnly os = wants_bare
frame_effect_by op.CallExtOnly os = wants_bare
frame_effect_by _ os = keeps

abbrev pub frame_effect : Instruction → FrameEffect
frame_effect i = frame_effect_by i.opcode i.operands

-- the shape after the row, where the shape before it is as the row needs it
abbrev pub after_effect : FrameEffect → Shape → Option Shape
after_effect keeps s = Some s
after_effect wants_bare bare = Some bare
after_effect (allocates n) bare = Some (sized (replicate n None))
after_effect (drops n) (sized y) = if length y == n then Some bare else None
after_effect (trims m n) (sized y) = if length y == m + n then Some (sized (drop m y)) else None
after_effect _ _ = None

-- ---- catch tags

abbrev pub label_in : Operand → Option ℕ
label_in (operand.One (argument.Label n)) = Some n
label_in _ = None

-- the label of the catch tag that the row puts into its register
abbrev pub tag_by : Opcode → List Operand → Option ℕ
tag_by op.Catch (d ∷ f ∷ rest) = label_in f
tag_by op.Try (d ∷ f ∷ rest) = label_in f
tag_by _ os = None

abbrev pub tag : Instruction → Option ℕ
tag i = tag_by i.opcode i.operands

-- a row with a catch tag writes a y register
abbrev pub tags_a_y : Option ℕ → List ℕ → Bool
tags_a_y (Some label) [] = false
tags_a_y tag ns = true

-- ---- rows that may raise

-- whether a built-in function has a value whatever its arguments are
abbrev pub is_total : Option Native → Bool
is_total (Some (native.Nullary f)) = true
is_total (Some (native.Unary (unary.IsOfType test))) = true
is_total (Some (native.Binary (binary.Compare comparison))) = true
is_total (Some (native.Binary binary.Maximum)) = true
is_total (Some (native.Binary binary.Minimum)) = true
is_total _ = false

abbrev pub built_in : Operand → Option Native
built_in (operand.Import i) = built_in_of i
built_in _ = None

-- whether a built-in function may raise: it has no fail label, and no value for some arguments
abbrev pub may_fail : Operand → Operand → Bool
may_fail f i = is_none_label f && not (is_total (built_in i))

-- whether an argument may be a value to choose by; sizes and lists of choices stand below
abbrev pub is_choice : Argument → Bool
is_choice (argument.Term t) = true
is_choice (argument.X n) = true
is_choice (argument.Y n) = true
is_choice _ = false

abbrev pub is_size : Argument → Bool
is_size (argument.Number n) = true
is_size _ = false

abbrev pub are_choices : (Argument → Bool) → List Argument → Bool
are_choices test [] = true
are_choices test (a ∷ argument.Label n ∷ rest) = test a && are_choices test rest
are_choices test _ = false

abbrev pub is_register : Argument → Bool
is_register (argument.X n) = true
is_register (argument.Y n) = true
is_register _ = false

-- whether a row is a call; each may raise
abbrev pub is_call : Opcode → Bool
is_call op.Call = true
is_call op.CallLast = true
is_call op.CallOnly = true
is_call op.CallExt = true
is_call op.CallExtLast = true
is_call op.CallExtOnly = true
is_call op.Apply = true
is_call op.ApplyLast = true
is_call _ = false

-- whether a row raises an error whatever it finds
abbrev pub is_error : Opcode → Bool
is_error op.FuncInfo = true
is_error op.IntCodeEnd = true
is_error op.TryCaseEnd = true
is_error op.Badmatch = true
is_error op.IfEnd = true
is_error op.CaseEnd = true
is_error op.Badrecord = true
is_error op.Raise = true
is_error op.RawRaise = true
is_error _ = false

-- whether a row may raise: by the terms that it finds or makes, for want of room on the stack, or where there is no message
abbrev pub may_go_wrong : Opcode → Bool
may_go_wrong op.Allocate = true
may_go_wrong op.AllocateHeap = true
may_go_wrong op.Send = true
may_go_wrong op.RemoveMessage = true
may_go_wrong op.LoopRecEnd = true
may_go_wrong op.WaitTimeout = true
may_go_wrong op.GetList = true
may_go_wrong op.GetHd = true
may_go_wrong op.GetTl = true
may_go_wrong op.GetTupleElement = true
may_go_wrong op.PutList = true
may_go_wrong op.PutTuple2 = true
may_go_wrong op.UpdateRecord = true
may_go_wrong op.TryCase = true
may_go_wrong _ = false

-- a built-in function without a label to go to instead, by the operands of bif1 and bif2, and by those of gc_bif1 and gc_bif2
abbrev pub bif_may_fail : List Operand → Bool
bif_may_fail (f ∷ i ∷ rest) = may_fail f i
bif_may_fail _ = false

abbrev pub gc_bif_may_fail : List Operand → Bool
gc_bif_may_fail (f ∷ live ∷ i ∷ rest) = may_fail f i
gc_bif_may_fail _ = false

abbrev pub may_fail_by : Opcode → List Operand → Bool
may_fail_by op.Bif1 os = bif_may_fail os
may_fail_by op.Bif2 os = bif_may_fail os
may_fail_by op.GcBif1 os = gc_bif_may_fail os
may_fail_by op.GcBif2 os = gc_bif_may_fail os
may_fail_by _ os = false

-- whether the list operand holds something else than its opcode allows
abbrev pub is_wrong_by : Opcode → List Operand → Bool
is_wrong_by op.SelectVal (s ∷ f ∷ operand.List as' ∷ rest) = not (are_choices is_choice as')
is_wrong_by op.SelectTupleArity (s ∷ f ∷ operand.List as' ∷ rest) = not (are_choices is_size as')
is_wrong_by op.InitYregs (operand.List as' ∷ rest) = not (list_all is_register as')
is_wrong_by _ os = false

-- whether the row may raise where its registers and its frame are as it needs them
abbrev pub may_raise : Instruction → Bool
may_raise i = is_call i.opcode || is_error i.opcode || may_go_wrong i.opcode || may_fail_by i.opcode i.operands || is_wrong_by i.opcode i.operands

-- ---- where a row may go

-- error, throw and exit/1: error and throw of another number of arguments are no functions, and calls of those raise as well
abbrev pub never_returns : Import → Bool
never_returns i =
    is_erlang i.«module» && (same_text i.function (codes "error") || same_text i.function (codes "throw") || (same_text i.function (codes "exit") && i.arity == 1))

abbrev pub may_return : Operand → Bool
may_return (operand.Import i) = not (never_returns i)
may_return _ = true

-- whether the row may go to the next one: no term is a float, a port, a binary, a fun or a map
abbrev pub may_fall_through_by : Opcode → List Operand → Bool
may_fall_through_by op.FuncInfo os = false
may_fall_through_by op.IntCodeEnd os = false
may_fall_through_by op.CallLast os = false
may_fall_through_by op.CallOnly os = false
may_fall_through_by op.CallExtLast os = false
may_fall_through_by op.CallExtOnly os = false
may_fall_through_by op.ApplyLast os = false
may_fall_through_by op.Return os = false
may_fall_through_by op.LoopRecEnd os = false
may_fall_through_by op.Wait os = false
may_fall_through_by op.Jump os = false
may_fall_through_by op.SelectVal os = false
may_fall_through_by op.SelectTupleArity os = false
may_fall_through_by op.TryCaseEnd os = false
may_fall_through_by op.Badmatch os = false
may_fall_through_by op.IfEnd os = false
may_fall_through_by op.CaseEnd os = false
may_fall_through_by op.Badrecord os = false
may_fall_through_by op.Raise os = false
may_fall_through_by op.IsFloat os = false
may_fall_through_by op.IsPort os = false
may_fall_through_by op.IsBinary os = false
may_fall_through_by op.IsFunction os = false
may_fall_through_by op.IsMap os = false
may_fall_through_by op.CallExt (arity ∷ i ∷ rest) = may_return i
may_fall_through_by _ os = true

abbrev pub may_fall_through : Instruction → Bool
may_fall_through i = may_fall_through_by i.opcode i.operands

-- the label of the function that it calls
abbrev pub called_by : Opcode → List Operand → Option ℕ
called_by op.Call (arity ∷ f ∷ rest) = label_in f
called_by op.CallOnly (arity ∷ f ∷ rest) = label_in f
called_by op.CallLast (arity ∷ f ∷ rest) = label_in f
called_by _ os = None

abbrev pub called : Instruction → Option ℕ
called i = called_by i.opcode i.operands

-- label 0 stands for none
abbrev pub label_of_argument : Argument → List ℕ
label_of_argument (argument.Label n) = if n == 0 then [] else n ∷ []
label_of_argument _ = []

abbrev pub labels_in : Operand → List ℕ
labels_in (operand.One a) = label_of_argument a
labels_in (operand.Import i) = []
labels_in (operand.List as') = flat_map label_of_argument as'

-- whether the row may go by itself to a label of an operand of this kind; of a list operand only select_val and select_tuple_arity do
abbrev pub is_jump : Opcode → Kind → Bool
is_jump op.Call kind.Label = false
is_jump op.CallOnly kind.Label = false
is_jump op.CallLast kind.Label = false
is_jump op.Catch kind.Label = false
is_jump op.Try kind.Label = false
is_jump op.SelectVal kind.List = true
is_jump op.SelectTupleArity kind.List = true
is_jump opcode kind.Label = true
is_jump opcode kind.FailLabel = true
is_jump opcode _ = false

-- the built-in function that a row with a fail label calls
abbrev pub native_by : Opcode → List Operand → Option Native
native_by op.Bif1 (f ∷ i ∷ rest) = built_in i
native_by op.Bif2 (f ∷ i ∷ rest) = built_in i
native_by op.GcBif1 (f ∷ live ∷ i ∷ rest) = built_in i
native_by op.GcBif2 (f ∷ live ∷ i ∷ rest) = built_in i
native_by _ os = None

-- whether the row never jumps: its list operand isn't one that its opcode allows, or its built-in function has a value for all arguments
abbrev pub never_jumps : Instruction → Bool
never_jumps i = is_wrong_by i.opcode i.operands || is_total (native_by i.opcode i.operands)

-- the labels to which the row may go by itself
abbrev pub jumps : Instruction → List ℕ
jumps i = if never_jumps i then [] else named_by labels_in (is_jump i.opcode) i

abbrev pub in_list : Option ℕ → List ℕ
in_list None = []
in_list (Some n) = n ∷ []

-- the labels to which the row may go with the shape that it finds: by itself, and by an exception to the first catch tag
abbrev pub targets : Instruction → Shape → List ℕ
targets i s = (if may_raise i then in_list (first_tag s) else []) ++ jumps i

-- ---- an assignment

-- the shape before the row of a label
abbrev pub shape_of_label : Assignment → List Instruction → ℕ → Option Shape
shape_of_label a code label = option_and_then a (row_of_label label 0 code)

-- the row finds its y registers, those that it reads without catch tags, and a y register for a tag of its own
abbrev pub finds : Instruction → Shape → Bool
finds i s = list_all (is_value s) (read_ys i) && list_all (is_there s) (written_ys i) && tags_a_y (tag i) (written_ys i)

-- the shape after the row, where the row finds the frame that it needs
abbrev pub shape_after : Instruction → Shape → Option Shape
shape_after i s = option_map (put_all (tag i) (written_ys i)) (after_effect (frame_effect i) s)

-- a function begins without y registers
abbrev pub begins_bare : Assignment → List Instruction → ℕ → Bool
begins_bare a code label = is_bare (shape_of_label a code label)

-- each label to which the row may go may have the shape with which it goes there; a function that the row calls begins without y registers
abbrev pub leads : Assignment → List Instruction → Instruction → Shape → Bool
leads a code i s = list_all (begins_bare a code) (in_list (called i)) && list_all (λ label. may_have s (shape_of_label a code label)) (targets i s)

-- the next row, if the row may go there, may have the shape after the row
abbrev pub leads_on : Assignment → Instruction → ℕ → Option Shape → Bool
leads_on a i next None = false
leads_on a i next (Some s) = not (may_fall_through i) || may_have s (a next)

-- the row finds the registers and the frame that it needs, and where it may go the shapes fit
abbrev pub fits : Assignment → List Instruction → Instruction → ℕ → Shape → Bool
fits a code i next s = finds i s && leads a code i s && leads_on a i next (shape_after i s)

abbrev pub fits_if : Assignment → List Instruction → Instruction → ℕ → Option Shape → Bool
fits_if a code i next None = true
fits_if a code i next (Some s) = not (is_row i) || fits a code i next s

-- the instruction at a position, and int_code_end after the last
abbrev pub row_at : List Instruction → ℕ → Instruction
row_at code at = unwrap_or (slice_get code at) end_of_code

abbrev pub fits_at : Assignment → List Instruction → ℕ → Bool
fits_at a code at = fits_if a code (row_at code at) (next_row at code) (a at)

abbrev pub front_label : List Instruction → Option ℕ
front_label [] = None
front_label (i ∷ rest) = label_of i

abbrev pub entry_by : Opcode → List Instruction → List ℕ
entry_by op.FuncInfo rest = in_list (front_label rest)
entry_by _ rest = []

-- the entry labels of the functions, each right after its func_info
abbrev pub entries : List Instruction → List ℕ
entries [] = []
entries (i ∷ rest) = entry_by i.opcode rest ++ entries rest

-- each function begins without y registers, and each row fits, that of the end of the code too
pub record AreFramed (code : List Instruction) : Type 0 where
  pub shapes : Assignment
  pub begin : list_all (begins_bare shapes code) (entries code) ≡ true
  pub fit : (at : ℕ) → at ≤ length code → fits_at shapes code at ≡ true

-- the listing is framed
abbrev pub IsFramed : Listing → Type 0
IsFramed l = AreFramed l.instructions
