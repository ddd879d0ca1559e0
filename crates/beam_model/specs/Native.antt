-- The natives of module `erlang` that ask nothing of the node, as functions of terms (the manual of module erlang; Erlang Reference
-- Manual, Expressions).
use Rattle.std.specs.Prelude.{◌==◌, ◌&&◌, ◌||◌, nat_lt, nat_le, not, Bool, true, false, ℕ, suc, ◌^◌, ℤ, pos, negsuc, neg_ℤ, ◌+ℤ◌, ◌-ℤ◌, ◌*ℤ◌, int_lt, int_le, int_div, int_rem, Option, None, Some, Result, Ok, Err, if◌then◌else◌, List, [], ◌∷◌, map, length, slice_get, slice_set, codes, unsigned_abs}
use Rattle.std.specs.Str.{chars}
use Rattle.std.specs.Ordering.{is_eq, is_ne, is_lt, is_le, is_gt, is_ge}
use Rattle.beam_model.specs.SameText.{same_text}
use Rattle.std.specs.Int.{w64, int_bit_and, int_bit_or, int_bit_xor, int_bit_not, int_shr}
use Rattle.std.specs.Fmt.{signed_decimal}
use Rattle.beam_model.specs.declared.exception.Fault.{Fault}
use Rattle.beam_model.specs.declared.exception.Fault.TheVariants.{Undef, Badarith, Badarg, SystemLimit}
use Rattle.beam_model.specs.declared.exception.Class.{Class}
use Rattle.beam_model.specs.declared.exception.Class.TheVariants as class
use Rattle.beam_model.specs.declared.exception.Exception.{Exception}
use Rattle.beam_model.specs.declared.exception.Exception.TheVariants as exception
use Rattle.beam_model.specs.declared.native.TypeTest.{TypeTest}
use Rattle.beam_model.specs.declared.native.TypeTest.TheVariants as kind
use Rattle.beam_model.specs.declared.native.Comparison.{Comparison}
use Rattle.beam_model.specs.declared.native.Comparison.TheVariants.{Equal, NotEqual, Less, LessOrEqual, Greater, GreaterOrEqual}
use Rattle.beam_model.specs.declared.native.Arithmetic.{Arithmetic}
use Rattle.beam_model.specs.declared.native.Arithmetic.TheVariants.{Add, Subtract, Multiply, Divide, Remainder, BitAnd, BitOr, BitXor, ShiftLeft, ShiftRight}
use Rattle.beam_model.specs.declared.native.Nullary.{Nullary}
use Rattle.beam_model.specs.declared.native.Nullary.TheVariants.{OwnPid, Node}
use Rattle.beam_model.specs.declared.native.Unary.{Unary}
use Rattle.beam_model.specs.declared.native.Unary.TheVariants as unary
use Rattle.beam_model.specs.declared.native.Binary.{Binary}
use Rattle.beam_model.specs.declared.native.Binary.TheVariants as binary
use Rattle.beam_model.specs.declared.native.Ternary.{Ternary}
use Rattle.beam_model.specs.declared.native.Ternary.TheVariants.{Raise, SetElement}
use Rattle.beam_model.specs.declared.native.Native.{Native}
use Rattle.beam_model.specs.declared.native.Native.TheVariants as native
use Rattle.beam_term.specs.Prelude.{TermValue, int_term, atom_term, reference_term, pid_term, nil_term, pair_term, tuple_term, tuple_of, list_of, list_before, elements_of, count_of, depth_of, term_cmp}

-- ---- integers

-- an integer is in the range of integers
abbrev pub is_small : ℤ → Bool
is_small n = int_le (neg_ℤ (pos (2 ^ 59))) n && int_lt n (pos (2 ^ 59))

-- an integer, where it is in the range of integers
abbrev pub limited : ℤ → Result TermValue Fault
limited n = if is_small n then Ok (int_term n) else Err SystemLimit

-- `bsl`: n places to the left, or -n to the right, which rounds down
abbrev pub shifted_left : ℤ → ℤ → ℤ
shifted_left m (pos n) = m *ℤ pos (2 ^ n)
shifted_left m (negsuc n) = int_shr m (suc n)

-- each function of two integers; `div` and `rem` truncate, bits are those of two's complement
abbrev pub computed : Arithmetic → ℤ → ℤ → Result TermValue Fault
computed Add m n = limited (m +ℤ n)
computed Subtract m n = limited (m -ℤ n)
computed Multiply m n = limited (m *ℤ n)
computed Divide m n = if unsigned_abs n == 0 then Err Badarith else limited (int_div m n)
computed Remainder m n = if unsigned_abs n == 0 then Err Badarith else limited (int_rem m n)
computed BitAnd m n = limited (int_bit_and w64 m n)
computed BitOr m n = limited (int_bit_or w64 m n)
computed BitXor m n = limited (int_bit_xor w64 m n)
computed ShiftLeft m n = limited (shifted_left m n)
computed ShiftRight m n = limited (shifted_left m (neg_ℤ n))

-- the function applied to two terms; badarith where one isn't an integer
abbrev pub compute : Arithmetic → TermValue → TermValue → Result TermValue Fault
compute op (int_term m) (int_term n) = computed op m n
compute op _ _ = Err Badarith

-- `+`
abbrev pub sum_of : TermValue → TermValue → Result TermValue Fault
sum_of = compute Add

-- `-` of two
abbrev pub difference_of : TermValue → TermValue → Result TermValue Fault
difference_of = compute Subtract

-- `-` of one
abbrev pub negation_of : TermValue → Result TermValue Fault
negation_of (int_term n) = limited (neg_ℤ n)
negation_of _ = Err Badarith

-- `bnot`
abbrev pub bit_not_of : TermValue → Result TermValue Fault
bit_not_of (int_term n) = limited (int_bit_not w64 n)
bit_not_of _ = Err Badarith

-- `abs`
abbrev pub abs_of : TermValue → Result TermValue Fault
abs_of (int_term n) = limited (pos (unsigned_abs n))
abs_of _ = Err Badarg

-- ---- comparisons: by the order of terms, where the exact and the plain ones agree

-- `==` and `=:=`
abbrev pub is_equal : TermValue → TermValue → Bool
is_equal s t = is_eq (term_cmp s t)

-- `/=` and `=/=`
abbrev pub is_unequal : TermValue → TermValue → Bool
is_unequal s t = is_ne (term_cmp s t)

-- `<`
abbrev pub is_less : TermValue → TermValue → Bool
is_less s t = is_lt (term_cmp s t)

-- `=<`
abbrev pub is_at_most : TermValue → TermValue → Bool
is_at_most s t = is_le (term_cmp s t)

-- `>`
abbrev pub is_greater : TermValue → TermValue → Bool
is_greater s t = is_gt (term_cmp s t)

-- `>=`
abbrev pub is_at_least : TermValue → TermValue → Bool
is_at_least s t = is_ge (term_cmp s t)

abbrev pub compares : Comparison → TermValue → TermValue → Bool
compares Equal = is_equal
compares NotEqual = is_unequal
compares Less = is_less
compares LessOrEqual = is_at_most
compares Greater = is_greater
compares GreaterOrEqual = is_at_least

-- ---- truth values

-- the term of a truth value
abbrev pub truth : Bool → TermValue
truth true = atom_term (codes "true")
truth false = atom_term (codes "false")

-- the truth value that a term is
abbrev pub truth_in : TermValue → Option Bool
truth_in (atom_term text) = if same_text text (codes "true") then Some true else if same_text text (codes "false") then Some false else None
truth_in _ = None

-- a function of two truth values
abbrev pub decided : (Bool → Bool → Bool) → Option Bool → Option Bool → Result TermValue Fault
decided f (Some a) (Some b) = Ok (truth (f a b))
decided f _ _ = Err Badarg

-- `and`
abbrev pub and_of : TermValue → TermValue → Result TermValue Fault
and_of s t = decided (λ a b. a && b) (truth_in s) (truth_in t)

-- `or`
abbrev pub or_of : TermValue → TermValue → Result TermValue Fault
or_of s t = decided (λ a b. a || b) (truth_in s) (truth_in t)

-- `xor`
abbrev pub xor_of : TermValue → TermValue → Result TermValue Fault
xor_of s t = decided (λ a b. if a then not b else b) (truth_in s) (truth_in t)

-- `not`
abbrev pub not_of : TermValue → Result TermValue Fault
not_of t = decided (λ a b. not a) (truth_in t) (truth_in t)

-- ---- tests of types: none is a float, a port, a binary, a function or a map

abbrev pub is_atom : TermValue → Bool
is_atom (atom_term text) = true
is_atom _ = false

abbrev pub is_integer : TermValue → Bool
is_integer (int_term n) = true
is_integer _ = false

abbrev pub is_pid : TermValue → Bool
is_pid (pid_term node id serial creation) = true
is_pid _ = false

abbrev pub is_reference : TermValue → Bool
is_reference (reference_term node creation words) = true
is_reference _ = false

abbrev pub is_tuple : TermValue → Bool
is_tuple (tuple_term items) = true
is_tuple _ = false

abbrev pub is_nil : TermValue → Bool
is_nil nil_term = true
is_nil _ = false

abbrev pub is_nonempty_list : TermValue → Bool
is_nonempty_list (pair_term head tail) = true
is_nonempty_list _ = false

abbrev pub is_boolean : TermValue → Bool
is_boolean (atom_term text) = same_text text (codes "true") || same_text text (codes "false")
is_boolean _ = false

abbrev pub is_of_type : TypeTest → TermValue → Bool
is_of_type kind.Integer t = is_integer t
is_of_type kind.Float t = false
is_of_type kind.Number t = is_integer t
is_of_type kind.Atom t = is_atom t
is_of_type kind.Pid t = is_pid t
is_of_type kind.Reference t = is_reference t
is_of_type kind.Port t = false
is_of_type kind.Nil t = is_nil t
is_of_type kind.Binary t = false
is_of_type kind.List t = is_nil t || is_nonempty_list t
is_of_type kind.NonemptyList t = is_nonempty_list t
is_of_type kind.Tuple t = is_tuple t
is_of_type kind.Function t = false
is_of_type kind.Boolean t = is_boolean t
is_of_type kind.Map t = false

-- ---- lists and tuples

-- the value if there is one, else badarg
abbrev pub or_badarg : Option TermValue → Result TermValue Fault
or_badarg (Some t) = Ok t
or_badarg None = Err Badarg

-- whether a term isn't a tuple of more than 4,294,967,295 elements
abbrev pub has_lawful_size : TermValue → Bool
has_lawful_size (tuple_term items) = nat_lt (count_of items) (2 ^ 32)
has_lawful_size _ = true

-- a new term, or system_limit where it would be too deep or a tuple of too many elements
abbrev pub limited_term : TermValue → Result TermValue Fault
limited_term t = if nat_le (depth_of t) 4096 && has_lawful_size t then Ok t else Err SystemLimit

-- an element before those of a proper list
abbrev pub put_before : TermValue → Option (List TermValue) → Option (List TermValue)
put_before head (Some items) = Some (head ∷ items)
put_before head None = None

-- the elements of a proper list
abbrev pub elements_in : TermValue → Option (List TermValue)
elements_in nil_term = Some []
elements_in (pair_term head tail) = put_before head (elements_in tail)
elements_in _ = None

-- `hd`
abbrev pub head_of : TermValue → Result TermValue Fault
head_of (pair_term head tail) = Ok head
head_of _ = Err Badarg

-- `tl`
abbrev pub tail_of : TermValue → Result TermValue Fault
tail_of (pair_term head tail) = Ok tail
tail_of _ = Err Badarg

-- `tuple_size` and `size`
abbrev pub tuple_size_of : TermValue → Result TermValue Fault
tuple_size_of (tuple_term items) = Ok (int_term (pos (count_of items)))
tuple_size_of _ = Err Badarg

-- `element`: counted from 1
abbrev pub element_of : TermValue → TermValue → Result TermValue Fault
element_of (int_term (pos (suc i))) (tuple_term items) = or_badarg (slice_get (elements_of items) i)
element_of _ _ = Err Badarg

-- `setelement`
abbrev pub set_element_of : TermValue → TermValue → TermValue → Result TermValue Fault
set_element_of (int_term (pos (suc i))) (tuple_term items) t =
    if nat_lt i (count_of items) then limited_term (tuple_of (slice_set (elements_of items) i t)) else Err Badarg
set_element_of _ _ _ = Err Badarg

-- `tuple_to_list`
abbrev pub list_of_tuple : TermValue → Result TermValue Fault
list_of_tuple (tuple_term items) = limited_term (list_of (elements_of items))
list_of_tuple _ = Err Badarg

-- a function applied to the elements of a proper list
abbrev pub of_elements : (List TermValue → Result TermValue Fault) → Option (List TermValue) → Result TermValue Fault
of_elements f (Some items) = f items
of_elements f None = Err Badarg

-- `length`
abbrev pub length_of : TermValue → Result TermValue Fault
length_of t = of_elements (λ items. Ok (int_term (pos (length items)))) (elements_in t)

-- `list_to_tuple`
abbrev pub tuple_of_list : TermValue → Result TermValue Fault
tuple_of_list t = of_elements (λ items. limited_term (tuple_of items)) (elements_in t)

-- `++`: the second may be any term
abbrev pub append_of : TermValue → TermValue → Result TermValue Fault
append_of s t = of_elements (λ items. limited_term (list_before items t)) (elements_in s)

-- the list of these code points
abbrev pub list_of_codes : List ℕ → TermValue
list_of_codes cs = list_of (map (λ c. int_term (pos c)) cs)

-- `atom_to_list`
abbrev pub list_of_atom : TermValue → Result TermValue Fault
list_of_atom (atom_term text) = limited_term (list_of_codes (chars text))
list_of_atom _ = Err Badarg

-- `integer_to_list`: in decimal
abbrev pub list_of_integer : TermValue → Result TermValue Fault
list_of_integer (int_term n) = limited_term (list_of_codes (signed_decimal n))
list_of_integer _ = Err Badarg

-- ---- exceptions

-- the class that a term names
abbrev pub class_in : TermValue → Option Class
class_in (atom_term text) = if same_text text (codes "error") then Some class.Error
    else if same_text text (codes "exit") then Some class.Exit
    else if same_text text (codes "throw") then Some class.Throw else None
class_in _ = None

-- `raise`/3: a bad class answers the atom badarg; the trace is ignored
abbrev pub raise_of : Option Class → TermValue → Result TermValue Exception
raise_of (Some c) t = Err (exception.Raised c t)
raise_of None t = Ok (atom_term (codes "badarg"))

-- ---- all natives

-- a value or a fault, as a value or an exception
abbrev pub faulting : Result TermValue Fault → Result TermValue Exception
faulting (Ok t) = Ok t
faulting (Err fault) = Err (exception.Fault fault)

-- a native of no argument, in the process of this pid
abbrev pub nullary_value : Nullary → TermValue → Result TermValue Exception
nullary_value OwnPid own = Ok own
nullary_value Node own = Ok (atom_term (codes "nonode@nohost"))

abbrev pub unary_value : Unary → TermValue → Result TermValue Exception
unary_value unary.Negate t = faulting (negation_of t)
unary_value unary.BitNot t = faulting (bit_not_of t)
unary_value unary.Abs t = faulting (abs_of t)
unary_value unary.Not t = faulting (not_of t)
unary_value (unary.IsOfType test) t = Ok (truth (is_of_type test t))
unary_value unary.Head t = faulting (head_of t)
unary_value unary.Tail t = faulting (tail_of t)
unary_value unary.Length t = faulting (length_of t)
unary_value unary.TupleSize t = faulting (tuple_size_of t)
unary_value unary.Error t = Err (exception.Raised class.Error t)
unary_value unary.Exit t = Err (exception.Raised class.Exit t)
unary_value unary.Throw t = Err (exception.Raised class.Throw t)
unary_value unary.TupleToList t = faulting (list_of_tuple t)
unary_value unary.ListToTuple t = faulting (tuple_of_list t)
unary_value unary.AtomToList t = faulting (list_of_atom t)
unary_value unary.IntegerToList t = faulting (list_of_integer t)

abbrev pub binary_value : Binary → TermValue → TermValue → Result TermValue Exception
binary_value (binary.Compute op) s t = faulting (compute op s t)
binary_value (binary.Compare comparison) s t = Ok (truth (compares comparison s t))
binary_value binary.Maximum s t = Ok (if is_less s t then t else s)
binary_value binary.Minimum s t = Ok (if is_greater s t then t else s)
binary_value binary.And s t = faulting (and_of s t)
binary_value binary.Or s t = faulting (or_of s t)
binary_value binary.Xor s t = faulting (xor_of s t)
binary_value binary.Element s t = faulting (element_of s t)
binary_value binary.Error s t = Err (exception.Raised class.Error s)
binary_value binary.Append s t = faulting (append_of s t)

abbrev pub ternary_value : Ternary → TermValue → TermValue → TermValue → Result TermValue Exception
ternary_value Raise s t u = raise_of (class_in s) t
ternary_value SetElement s t u = faulting (set_element_of s t u)

-- a native of these arguments, in the process of this pid; of another number of arguments it is no function
abbrev pub native_value : Native → List TermValue → TermValue → Result TermValue Exception
native_value (native.Nullary f) [] own = nullary_value f own
native_value (native.Unary f) (s ∷ []) own = unary_value f s
native_value (native.Binary f) (s ∷ t ∷ []) own = binary_value f s t
native_value (native.Ternary f) (s ∷ t ∷ u ∷ []) own = ternary_value f s t u
native_value _ _ own = Err (exception.Fault Undef)

-- the natives that never return: error/1 and error/2, exit/1 and throw/1
abbrev pub is_exit : Native → Bool
is_exit (native.Unary unary.Error) = true
is_exit (native.Unary unary.Exit) = true
is_exit (native.Unary unary.Throw) = true
is_exit (native.Binary binary.Error) = true
is_exit _ = false
