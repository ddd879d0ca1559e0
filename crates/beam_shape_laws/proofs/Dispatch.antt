-- Calls and messages, and all instructions: each row that an assignment fits finds what it names, and leaves a process that is shaped.
use Rattle.std.proofs.Common.{◌≡◌, ℕ, ◌==◌, ◌&&◌, ◌||◌, Bool, true, false, cond, not, List, [], ◌∷◌, ◌++◌, refl, sym, ap, subst, ◌∙◌, true≢false, eqb-true, Option, Some, None, codes}
use Rattle.std.proofs.lemmas.Bool.{and_parts}
use Rattle.std.specs.List.{list_all}
use Rattle.beam_lemmas.proofs.SameText.{text_is}
use Rattle.beam_term.specs.Prelude.{nil_term}
use Rattle.beam_model.specs.declared.exception.ClauseFault.TheVariants as clause
use Rattle.beam_model.specs.declared.exception.Class.TheVariants as class
use Rattle.beam_model.specs.declared.exception.Exception.TheVariants as exception
use Rattle.beam_model.specs.declared.exception.Fault.TheVariants.{FunctionClause, IfClause, Undef}
use Rattle.beam_model.specs.declared.function.Import.{Import}
use Rattle.beam_model.specs.declared.instruction.Instruction.{Instruction}
use Rattle.beam_model.specs.declared.instruction.Operand.{Operand}
use Rattle.beam_model.specs.declared.native.Comparison.TheVariants.{Less, GreaterOrEqual, Equal, NotEqual}
use Rattle.beam_model.specs.declared.native.Native.{Native}
use Rattle.beam_model.specs.declared.native.NodeNative.{NodeNative}
use Rattle.beam_model.specs.declared.native.ProcessNative.{ProcessNative}
use Rattle.beam_model.specs.declared.opcode.Opcode.{Opcode}
use Rattle.beam_model.specs.Prelude.{bare, ys_in, is_value, put_all, after_effect, keeps, wants_bare, drops, calls_exit_by, calls_exit, labels_in as labels_named, label_in as label_named, in_list, number, may_have, begins_bare, never_returns, next_row, is_row_by, message_at, with_next, with_removed, with_reset, class_in, is_exit, is_erlang, native_named, node_native_named, process_native_named, kinds_of, same_text}
use Rattle.beam_model.specs.declared.instruction.Argument.TheVariants as argument
use Rattle.beam_model.specs.declared.instruction.Operand.TheVariants as operand
use Rattle.beam_model.specs.declared.native.Binary.TheVariants as binary
use Rattle.beam_model.specs.declared.native.Native.TheVariants as native
use Rattle.beam_model.specs.declared.native.TypeTest.TheVariants as type
use Rattle.beam_model.specs.declared.native.Unary.TheVariants as unary
use Rattle.beam_model.specs.declared.opcode.Kind.TheVariants as kind
use Rattle.beam_model.specs.declared.opcode.Opcode.TheVariants as op
use Rattle.beam_machine.specs.declared.action.Action.{Action}
use Rattle.beam_machine.specs.declared.callee.After.TheVariants.{NextRow}
use Rattle.beam_machine.specs.Prelude.{number_in, given, target_of, test_of_size, test_of_tag, to_label, local_call, call_last, external_call, call_ext_last, with_number, with_numbers, with_register, reads, reads_both, peek, wait_timeout, action_by, erlang_callee, node_callee, process_callee, callee_named, callee_of, read, read_x, put_x, dropped, bared, own_pid, goes_to, calls, calls_only, after_dropping, arguments_of, callee_at, exits as exits_here}
use Rattle.beam_machine.specs.declared.action.Action.TheVariants.{Control, Data, Messaging}
use Rattle.beam_machine.specs.declared.action.Control.TheVariants as control
use Rattle.beam_machine.specs.declared.action.Data.TheVariants as data'
use Rattle.beam_machine.specs.declared.action.Messaging.TheVariants as messaging
use Rattle.beam_machine.specs.declared.action.Source.TheVariants as source
use Rattle.beam_machine.specs.declared.action.Test.TheVariants as test
use Rattle.beam_machine.specs.declared.callee.Callee.TheVariants as callee
use Rattle.beam_shape_laws.specs.Finds.{newest, is_bare, has_size as has_slots, HasRow}
use Rattle.beam_shape_laws.proofs.Landing.{Facts}
use Rattle.beam_shape_laws.proofs.Opcodes as rows
use Rattle.beam_shape_laws.proofs.Operands.{IsGood, AreGood, one, two, three, four, five, six, as_number, as_size, as_import, as_list, as_label, given_arity, given_atom}
use Rattle.beam_shape_laws.proofs.Actions.{exit_raised, exited, Row, Comes, returned, called_only, applied_only, next_place, Reached, Caught, goes_next, goes_label, raised, faulted, stored, with_one_right, with_two_right, tested, dropped_bare, dropped_some, raised_raw, pushed, bare_goes, called, applied, after_drop, sent, peeked, with_message, skipped, waited, waited_with}
use Rattle.beam_shape_laws.proofs.Standing.{FitsRow, has_many, size_there, bare_there}

-- ---- functions that never return

-- a function of module erlang, by its name
erlang_is : (i : Import) (name : List ℕ) → is_erlang i.«module» ≡ true → same_text i.function name ≡ true → callee_of i ≡ erlang_callee name i.arity (native_named name i.arity)
unfolding callee_named
erlang_is i name m f =
    ap (λ b. cond b (erlang_callee i.function i.arity (native_named i.function i.arity)) (callee.Function i.«module» i.function i.arity)) m
    ∙ ap (λ (f : List ℕ). erlang_callee f i.arity (native_named f i.arity)) (text_is i.function name f)

-- a native that never returns, or none
abbrev IsExitOrNone : Option Native → Type 0
IsExitOrNone (Some f) = is_exit f ≡ true
IsExitOrNone None = Unit {0}

-- error, throw and exit never return, or aren't natives, for any number of arguments
error_exits : (n : ℕ) → IsExitOrNone (native_named (codes "error") n)
error_exits n = at (n == 0) (n == 1) (n == 2) (n == 3)
  where
    at : (a b c d : Bool) → IsExitOrNone (cond a None (cond b (Some (native.Unary unary.Error)) (cond c (Some (native.Binary binary.Error)) (cond d None None))))
    at true b c d = tt
    at false true c d = refl
    at false false true d = refl
    at false false false true = tt
    at false false false false = tt

throw_exits : (n : ℕ) → IsExitOrNone (native_named (codes "throw") n)
throw_exits n = at (n == 0) (n == 1) (n == 2) (n == 3)
  where
    at : (a b c d : Bool) → IsExitOrNone (cond a None (cond b (Some (native.Unary unary.Throw)) (cond c None (cond d None None))))
    at true b c d = tt
    at false true c d = refl
    at false false true d = tt
    at false false false true = tt
    at false false false false = tt

-- the node answers no function of these names
all_none : {A : Type 0} (a b c d : Bool) → cond {A = Option A} a None (cond b None (cond c None (cond d None None))) ≡ None
all_none true b c d = refl
all_none false true c d = refl
all_none false false true d = refl
all_none false false false true = refl
all_none false false false false = refl

both_none : {A : Type 0} (a : Bool) → cond {A = Option A} a None None ≡ None
both_none true = refl
both_none false = refl

either_of : {C : Type 0} (a b : Bool) → (a || b) ≡ true → (a ≡ true → C) → (b ≡ true → C) → C
either_of true b e f g = f refl
either_of false b e f g = g e

-- a callee never returns exactly if its native is one of these
same_exits : (i : Import) → exits_here (callee_of i) ≡ calls_exit (operand.Import i)
unfolding callee_named
same_exits i = at (is_erlang i.«module»)
  where
    of_process : (o : Option ProcessNative) → exits_here (process_callee i.arity o) ≡ false
    of_process (Some f) = refl
    of_process None = refl

    of_node : (o : Option NodeNative) → exits_here (node_callee i.function i.arity o) ≡ false
    of_node (Some f) = refl
    of_node None = of_process (process_native_named i.function i.arity)

    of_native : (o : Option Native) → exits_here (erlang_callee i.function i.arity o) ≡ calls_exit_by o
    of_native (Some f) = refl
    of_native None = of_node (node_native_named i.function i.arity)

    at : (b : Bool) → exits_here (cond b (erlang_callee i.function i.arity (native_named i.function i.arity)) (callee.Function i.«module» i.function i.arity)) ≡ (b && calls_exit_by (native_named i.function i.arity))
    at true = of_native (native_named i.function i.arity)
    at false = refl

module _ (here : rows.Before) where
  open here use {code, enter, instance, l, found, w, at, inside, s, p, has, behind, run}

  abbrev row : Row
  row = rows.row here

  abbrev Result : Action → Type 0
  Result a = rows.Result here a

  abbrev next : ℕ
  next = next_row at l.instructions

  abbrev defined : List ℕ
  defined = rows.defined here

  -- ---- calls

  -- a call of a native that never returns raises, and so does one of no function
  exit_or_none : (name : List ℕ) (n : ℕ) (o : Option Native) → IsExitOrNone o → node_native_named name n ≡ None → process_native_named name n ≡ None → Caught row
      → Comes code (calls code (erlang_callee name n o) (next_place row) p)
  exit_or_none name n (Some f) e g h c = exit_raised row p (NextRow (next_place row)) f (arguments_of p n) (own_pid p.pid) e (raised row c)
  exit_or_none name n None e g h c = subst (λ c. Comes code (calls code c (next_place row) p)) (sym (ap (node_callee name n) g ∙ ap (process_callee n) h)) (faulted row c Undef)

  named : (i : Import) (name : List ℕ) → is_erlang i.«module» ≡ true → same_text i.function name ≡ true
      → Comes code (calls code (erlang_callee name i.arity (native_named name i.arity)) (next_place row) p) → Comes code (calls code (callee_of i) (next_place row) p)
  named i name m f k = subst (λ c. Comes code (calls code c (next_place row) p)) (sym (erlang_is i name m f)) k

  never_called : (i : Import) → never_returns i ≡ true → Caught row → Comes code (calls code (callee_of i) (next_place row) p)
  never_called i e c =
      let error : Bool = same_text i.function (codes "error") in
      let throw : Bool = same_text i.function (codes "throw") in
      let exit : Bool = same_text i.function (codes "exit") && i.arity == 1 in
      let whole = and_parts (is_erlang i.«module») ((error || throw) || exit) e in
      either_of (error || throw) exit whole.1
      (λ e. either_of error throw e
      (λ e. named i (codes "error") whole.0 e (exit_or_none (codes "error") i.arity _ (error_exits i.arity) (all_none (i.arity == 0) (i.arity == 1) (i.arity == 2) (i.arity == 3)) (both_none (i.arity == 1 || i.arity == 2)) c))
      (λ e. named i (codes "throw") whole.0 e (exit_or_none (codes "throw") i.arity _ (throw_exits i.arity) (all_none (i.arity == 0) (i.arity == 1) (i.arity == 2) (i.arity == 3)) (both_none (i.arity == 1 || i.arity == 2)) c)))
      (λ e.
      let both = and_parts (same_text i.function (codes "exit")) (i.arity == 1) e in
      named i (codes "exit") whole.0 both.0
      (subst (λ n. Comes code (calls code (erlang_callee (codes "exit") n (native_named (codes "exit") n)) (next_place row) p)) (sym (eqb-true i.arity 1 both.1)) (raised row c (exception.Raised class.Exit (read_x p.x 0)))))

  external_row : (i : Import) (b : Bool) → never_returns i ≡ b → Caught row → (not (not b) || may_have (put_all None [] s) (w.framed.shapes next)) ≡ true → Result (Control (control.CallExternal (callee_of i)))
  external_row i true e c on = ((tt, tt, refl, tt), never_called i e c)
  external_row i false e c on = ((tt, tt, refl, tt), called row (callee_of i) enter c (rows.on_same here on))

  -- a call in a frame without y registers, which it gives up
  bare_call : (i : Instruction) → rows.LeavesOn here i (after_effect wants_bare s) → s ≡ bare
  bare_call i on = rows.wants_bare_is here s (rows.made_some here i (put_all None []) (after_effect wants_bare s) on)

  is_bare_here : s ≡ bare → is_bare p.frames ≡ true
  is_bare_here e = bare_there code instance l.instructions p.frames (rows.has_bare here e) behind

  abbrev Begun : Operand → Type 0
  Begun f = list_all (begins_bare w.framed.shapes l.instructions) (in_list (label_named f)) ≡ true

  called_row : (arity f : Operand) → IsGood defined kind.Label f → Caught row → Begun f → rows.NoneWritten here → Result (local_call l.instructions (λ t. Control (control.Call t)) (arity ∷ f ∷ []))
  called_row arity f gf c b on =
      as_label (λ f. Begun f → Result (local_call l.instructions (λ t. Control (control.Call t)) (arity ∷ f ∷ [])))
      (λ n b. ((tt, tt, refl, (rows.has_entry here n (rows.begins here n b), tt)), pushed row (λ q. goes_to q instance (target_of l.instructions n)) c (rows.on_same here on) (λ q k. bare_goes row q (target_of l.instructions n) k (rows.begins here n b))))
      f gf.0 b

  called_only_row : (i : Instruction) (arity f : Operand) → IsGood defined kind.Label f → Begun f → rows.LeavesOn here i (after_effect wants_bare s)
      → Result (local_call l.instructions (λ t. Control (control.Jump t)) (arity ∷ f ∷ []))
  called_only_row i arity f gf b on =
      as_label (λ f. Begun f → Result (local_call l.instructions (λ t. Control (control.Jump t)) (arity ∷ f ∷ [])))
      (λ n b. ((tt, tt, refl, (rows.has_entry here n (rows.begins here n b), tt)), goes_label row (target_of l.instructions n) (subst (λ y. FitsRow code instance y (target_of l.instructions n)) (sym (rows.no_slots here (bare_call i on))) (rows.begins here n b))))
      f gf.0 b

  -- a row that drops n y registers finds n of them
  has_dropped : (i : Instruction) (n : ℕ) → rows.LeavesOn here i (after_effect (drops n) s) → has_many n p.frames ≡ true
  has_dropped i n on = size_there code instance l.instructions s p.frames n has (rows.made_some here i (put_all None []) (after_effect (drops n) s) on)

  called_last_row : (i : Instruction) (arity f o : Operand) → IsGood defined kind.Label f → IsGood defined kind.Number o → Begun f
      → rows.LeavesOn here i (after_effect (drops (number o)) s) → Result (call_last l.instructions (arity ∷ f ∷ o ∷ []))
  called_last_row i arity f o gf go b on =
      as_label (λ f. Begun f → Result (call_last l.instructions (arity ∷ f ∷ o ∷ [])))
      (λ m b. as_number (λ o. rows.LeavesOn here i (after_effect (drops (number o)) s) → Result (call_last l.instructions (arity ∷ operand.One (argument.Label m) ∷ o ∷ [])))
      (λ n on. ((tt, tt, dropped_some row n (has_dropped i n on), (rows.has_entry here m (rows.begins here m b), tt)), after_drop row (dropped n p p.frames) _ (dropped_bare row n (has_dropped i n on)) (λ q k. bare_goes row q (target_of l.instructions m) k (rows.begins here m b))))
      o go.0 on)
      f gf.0 b

  last_row : (i : Instruction) (n : ℕ) (c : Import) (b : Bool) → exits_here (callee_of c) ≡ b → rows.LeavesOn here i (after_effect (cond b keeps (drops n)) s)
      → Result (Control (control.CallExternalLast n (callee_of c)))
  last_row i n c b e on = ((tt, tt, wants b e on, tt), subst (λ b. Comes code (cond b (calls_only code (callee_of c) (bared p)) (after_dropping p (dropped n p p.frames) (calls_only code (callee_of c))))) (sym e) (comes b e on))
    where
      wants : (b : Bool) → exits_here (callee_of c) ≡ b → rows.LeavesOn here i (after_effect (cond b keeps (drops n)) s) → (exits_here (callee_of c) || has_slots n p) ≡ true
      wants true e on = ap (λ b. b || has_slots n p) e
      wants false e on = ap (λ b. b || has_slots n p) e ∙ dropped_some row n (has_dropped i n on)

      comes : (b : Bool) → exits_here (callee_of c) ≡ b → rows.LeavesOn here i (after_effect (cond b keeps (drops n)) s)
          → Comes code (cond b (calls_only code (callee_of c) (bared p)) (after_dropping p (dropped n p p.frames) (calls_only code (callee_of c))))
      comes true e on = exited row (callee_of c) e
      comes false e on = after_drop row (dropped n p p.frames) _ (dropped_bare row n (has_dropped i n on)) (λ q k. called_only code (callee_of c) q enter k)

  external_last_row : (i : Instruction) (arity e o : Operand) → IsGood defined kind.Import e → IsGood defined kind.Number o
      → rows.LeavesOn here i (after_effect (cond (calls_exit e) keeps (drops (number o))) s) → Result (call_ext_last (arity ∷ e ∷ o ∷ []))
  external_last_row i arity e o ge go on =
      as_import (λ e. rows.LeavesOn here i (after_effect (cond (calls_exit e) keeps (drops (number o))) s) → Result (call_ext_last (arity ∷ e ∷ o ∷ [])))
      (λ c on. as_number (λ o. rows.LeavesOn here i (after_effect (cond (calls_exit (operand.Import c)) keeps (drops (number o))) s) → Result (call_ext_last (arity ∷ operand.Import c ∷ o ∷ [])))
      (λ n on. last_row i n c (calls_exit (operand.Import c)) (same_exits c) on)
      o go.0 on)
      e ge.0 on

  external_only_row : (i : Instruction) (arity e : Operand) → IsGood defined kind.Import e → rows.LeavesOn here i (after_effect wants_bare s)
      → Result (external_call (λ c. Control (control.CallExternalOnly c)) (arity ∷ e ∷ []))
  external_only_row i arity e ge on =
      as_import (λ e. Result (external_call (λ c. Control (control.CallExternalOnly c)) (arity ∷ e ∷ [])))
      (λ c. ((tt, tt, is_bare_here (bare_call i on), tt), called_only code (callee_of c) p enter (rows.no_slots here (bare_call i on), behind, run)))
      e ge.0

  applied_row : (a : Operand) → IsGood defined kind.Arity a → Caught row → rows.NoneWritten here → Result (with_number (λ n. Control (control.Apply n)) (a ∷ []))
  applied_row a ga c on = given_arity Result a (λ n. Control (control.Apply n)) ga.0 (λ n. ((tt, tt, refl, tt), applied row (callee_at p n) enter c (rows.on_same here on)))

  applied_last_row : (i : Instruction) (a o : Operand) → IsGood defined kind.Arity a → IsGood defined kind.Number o
      → rows.LeavesOn here i (after_effect (drops (number o)) s) → Result (with_numbers (λ m n. Control (control.ApplyLast m n)) (a ∷ o ∷ []))
  applied_last_row i a o ga go on =
      given_arity Result a _ ga.0
      (λ m. as_number (λ o. rows.LeavesOn here i (after_effect (drops (number o)) s) → Result (given (number_in o) (λ n. Control (control.ApplyLast m n))))
      (λ n on. ((tt, tt, dropped_some row n (has_dropped i n on), tt), after_drop row (dropped n p p.frames) _ (dropped_bare row n (has_dropped i n on)) (λ q k. applied_only code q (callee_at q m) enter k)))
      o go.0 on)

  returned_row : (i : Instruction) → rows.LeavesOn here i (after_effect wants_bare s) → Result (Control control.Return)
  returned_row i on = ((tt, tt, is_bare_here (bare_call i on), tt), returned code p (is_bare_here (bare_call i on)) run behind)

  -- ---- jumps and messages

  to_label_row : (does : Option ℕ → Action) (f : Operand) → IsGood defined kind.Label f → list_all (rows.reach here) (labels_named f ++ []) ≡ true
      → ((target : Option ℕ) → Reached row target → HasRow target → Result (does target)) → Result (to_label l.instructions does (f ∷ []))
  to_label_row does f gf j k = rows.with_label here f [] _ gf j (λ n r _. k (target_of l.instructions n) r (rows.has_row here n r))

  peeked_row : (f d : Operand) → IsGood defined kind.Label f → IsGood defined kind.Register d → list_all (rows.reach here) (labels_named f ++ []) ≡ true → rows.Written here d → Result (peek l.instructions (f ∷ d ∷ []))
  peeked_row f d gf gd j t =
      rows.with_label here f [] _ gf j (λ n r _. rows.into_register here d _ gd (λ x e.
      ((tt, (rows.there_first here x (ys_in d) [] e t.0, tt), refl, (rows.has_row here n r, tt)), peeked row x (target_of l.instructions n) (stored row x (ys_in d) e t.0 (rows.on_of here _ t.1)) r (message_at p.mailbox))))

  waited_row : (f a : Operand) → IsGood defined kind.Label f → IsGood defined kind.Source a → Caught row → list_all (is_value s) (ys_in a ++ []) ≡ true → list_all (rows.reach here) (labels_named f ++ []) ≡ true
      → rows.NoneWritten here → Result (wait_timeout l.instructions (f ∷ a ∷ []))
  waited_row f a gf ga c v j on =
      rows.with_label here f [] _ gf j (λ n r _. rows.with_source here a [] _ ga v (λ x hx _.
      (((hx, tt), tt, refl, (rows.has_row here n r, tt)), waited_with row c (target_of l.instructions n) r (rows.on_same here on) (read p x) hx)))

  -- ---- receive markers

  reads_row : (a : Operand) → IsGood defined kind.Source a → list_all (is_value s) (ys_in a ++ []) ≡ true → rows.NoneWritten here → Result (reads (a ∷ []))
  reads_row a ga v on =
      rows.with_source here a [] _ ga v (λ x hx _.
      (((hx, tt), tt, refl, tt), with_one_right row (read p x) _ hx (λ _. goes_next row s p (has, behind, run) (rows.on_same here on))))

  reads_both_row : (a b : Operand) → IsGood defined kind.Source a → IsGood defined kind.Source b → list_all (is_value s) (ys_in a ++ (ys_in b ++ [])) ≡ true
      → rows.NoneWritten here → Result (reads_both (a ∷ b ∷ []))
  reads_both_row a b ga gb v on =
      rows.with_source here a (ys_in b ++ []) _ ga v (λ x hx v. rows.with_source here b [] _ gb v (λ y hy _.
      (((hx, (hy, tt)), tt, refl, tt), with_two_right row (read p x) (read p y) _ hx hy (λ _ _. goes_next row s p (has, behind, run) (rows.on_same here on)))))

  reserved_row : (d : Operand) → IsGood defined kind.Register d → rows.Written here d → Result (with_register (λ d. Data (data'.Move (source.Constant nil_term) d)) (d ∷ []))
  reserved_row d gd t =
      rows.into_register here d _ gd (λ r e.
      (((refl, tt), (rows.there_first here r (ys_in d) [] e t.0, tt), refl, tt), stored row r (ys_in d) e t.0 (rows.on_of here _ t.1) nil_term))

  -- ---- tests of sizes

  sized_row : (f a n : Operand) → IsGood defined kind.Label f → IsGood defined kind.Source a → IsGood defined kind.Number n → list_all (is_value s) (ys_in a ++ []) ≡ true
      → list_all (rows.reach here) (labels_named f ++ []) ≡ true → rows.NoneWritten here → Result (test_of_size l.instructions (f ∷ a ∷ n ∷ []))
  sized_row f a n gf ga gn v j on =
      rows.with_label here f [] _ gf j (λ t r _. rows.with_source here a [] _ ga v (λ x hx _. rows.with_count here n _ gn (λ m.
      (((hx, tt), tt, refl, (rows.has_row here t r, tt)), tested row (test.HasSize x m) (target_of l.instructions t) (hx, tt) r (rows.on_same here on)))))

  tagged_row : (f a n o : Operand) → IsGood defined kind.Label f → IsGood defined kind.Source a → IsGood defined kind.Number n → IsGood defined kind.Atom o → list_all (is_value s) (ys_in a ++ []) ≡ true
      → list_all (rows.reach here) (labels_named f ++ []) ≡ true → rows.NoneWritten here → Result (test_of_tag l.instructions (f ∷ a ∷ n ∷ o ∷ []))
  tagged_row f a n o gf ga gn go v j on =
      rows.with_label here f [] _ gf j (λ t r _. rows.with_source here a [] _ ga v (λ x hx _. rows.with_count here n _ gn (λ m. given_atom Result o _ go.0 (λ text.
      (((hx, tt), tt, refl, (rows.has_row here t r, tt)), tested row (test.IsTagged x m text) (target_of l.instructions t) (hx, tt) r (rows.on_same here on))))))

  -- ---- all instructions

  -- an instruction with these operands, whose row is to be right by the facts of an assignment
  abbrev an : Opcode → List Operand → Instruction
  an opcode os = record { opcode = opcode; operands = os }

  abbrev FitsRight : Opcode → List Operand → Type 0
  FitsRight opcode os = Facts code instance l found w (record { opcode = opcode; operands = os }) at s (newest p.frames) → Result (action_by l.instructions opcode os)

  -- operands that are sizes, callees and labels

  call_ext : (a i : Operand) → IsGood defined kind.Import i → FitsRight op.CallExt (a ∷ i ∷ [])
  call_ext a i gi h =
      as_import (λ i. FitsRight op.CallExt (a ∷ i ∷ [])) (λ e h. external_row e (never_returns e) refl (h.raises refl) h.on) i gi.0 h

  select_val : (a f o : Operand) → IsGood defined kind.Source a → IsGood defined kind.Label f → IsGood defined kind.List o → FitsRight op.SelectVal (a ∷ f ∷ o ∷ [])
  select_val a f o ga gf go h =
      as_list (λ o. IsGood defined kind.List o → FitsRight op.SelectVal (a ∷ f ∷ o ∷ [])) (λ as' go h. rows.select_value_row here a f as' ga gf go h.values h.jumps h.raises)
      o go.0 go h

  select_tuple_arity : (a f o : Operand) → IsGood defined kind.Source a → IsGood defined kind.Label f → IsGood defined kind.List o → FitsRight op.SelectTupleArity (a ∷ f ∷ o ∷ [])
  select_tuple_arity a f o ga gf go h =
      as_list (λ o. IsGood defined kind.List o → FitsRight op.SelectTupleArity (a ∷ f ∷ o ∷ [])) (λ as' go h. rows.select_size_row here a f as' ga gf go h.values h.jumps h.raises)
      o go.0 go h

  allocate : (n m : Operand) → IsGood defined kind.FrameSize n → FitsRight op.Allocate (n ∷ m ∷ [])
  allocate n m gn h =
      as_size (λ n. FitsRight op.Allocate (n ∷ m ∷ []))
      (λ k h. rows.allocated_row here (an op.Allocate (operand.One (argument.Number k) ∷ m ∷ [])) k h.on refl (h.raises refl))
      n gn.0 h

  allocate_heap : (n m o : Operand) → IsGood defined kind.FrameSize n → FitsRight op.AllocateHeap (n ∷ m ∷ o ∷ [])
  allocate_heap n m o gn h =
      as_size (λ n. FitsRight op.AllocateHeap (n ∷ m ∷ o ∷ []))
      (λ k h. rows.allocated_row here (an op.AllocateHeap (operand.One (argument.Number k) ∷ m ∷ o ∷ [])) k h.on refl (h.raises refl))
      n gn.0 h

  deallocate : (n : Operand) → IsGood defined kind.Number n → FitsRight op.Deallocate (n ∷ [])
  deallocate n gn h =
      as_number (λ n. FitsRight op.Deallocate (n ∷ [])) (λ k h. rows.deallocated_row here (an op.Deallocate (operand.One (argument.Number k) ∷ [])) k h.on refl) n gn.0 h

  trim : (m n : Operand) → IsGood defined kind.Number m → IsGood defined kind.Number n → FitsRight op.Trim (m ∷ n ∷ [])
  trim m n gm gn h =
      as_number (λ m. FitsRight op.Trim (m ∷ n ∷ []))
      (λ j h. as_number (λ n. FitsRight op.Trim (operand.One (argument.Number j) ∷ n ∷ []))
      (λ k h. rows.trimmed_row here (an op.Trim (operand.One (argument.Number j) ∷ operand.One (argument.Number k) ∷ [])) j k h.on refl)
      n gn.0 h)
      m gm.0 h

  init_yregs : (o : Operand) → IsGood defined kind.List o → FitsRight op.InitYregs (o ∷ [])
  init_yregs o go h = as_list (λ o. FitsRight op.InitYregs (o ∷ [])) (λ as' h. rows.cleared_row here as' h.there h.on h.raises) o go.0 h

  pub fits_right : (opcode : Opcode) (os : List Operand) → is_row_by opcode ≡ true → AreGood defined (kinds_of opcode) os → FitsRight opcode os
  fits_right op.Label os r g h = absurd (true≢false (sym r))
  fits_right op.Line os r g h = absurd (true≢false (sym r))
  fits_right op.IntCodeEnd os r g h = rows.wrong_shape here (h.raises refl)
  fits_right op.Call os r g h = two defined (FitsRight op.Call) kind.Arity kind.Label (λ a f ga gf h. called_row a f gf (h.raises refl) h.begins h.on) os g h
  fits_right op.CallOnly os r g h =
      two defined (FitsRight op.CallOnly) kind.Arity kind.Label (λ a f ga gf h. called_only_row (an op.CallOnly (a ∷ f ∷ [])) a f gf h.begins h.on) os g h
  fits_right op.CallLast os r g h =
      three defined (FitsRight op.CallLast) kind.Arity kind.Label kind.Number (λ a f n ga gf gn h. called_last_row (an op.CallLast (a ∷ f ∷ n ∷ [])) a f n gf gn h.begins h.on) os g h
  fits_right op.CallExt os r g h = two defined (FitsRight op.CallExt) kind.Arity kind.Import (λ a i ga gi h. call_ext a i gi h) os g h
  fits_right op.CallExtOnly os r g h =
      two defined (FitsRight op.CallExtOnly) kind.Arity kind.Import (λ a i ga gi h. external_only_row (an op.CallExtOnly (a ∷ i ∷ [])) a i gi h.on) os g h
  fits_right op.CallExtLast os r g h =
      three defined (FitsRight op.CallExtLast) kind.Arity kind.Import kind.Number (λ a i n ga gi gn h. external_last_row (an op.CallExtLast (a ∷ i ∷ n ∷ [])) a i n gi gn h.on) os g h
  fits_right op.Apply os r g h = one defined (FitsRight op.Apply) kind.Arity (λ a ga h. applied_row a ga (h.raises refl) h.on) os g h
  fits_right op.ApplyLast os r g h =
      two defined (FitsRight op.ApplyLast) kind.Arity kind.Number (λ a n ga gn h. applied_last_row (an op.ApplyLast (a ∷ n ∷ [])) a n ga gn h.on) os g h
  fits_right op.Jump os r g h =
      one defined (FitsRight op.Jump) kind.Label (λ f gf h. to_label_row (λ t. Control (control.Jump t)) f gf h.jumps (λ t k e. ((tt, tt, refl, (e, tt)), goes_label row t k))) os g h
  fits_right op.Return os r g h = returned_row (an op.Return os) h.on
  fits_right op.SelectVal os r g h = three defined (FitsRight op.SelectVal) kind.Source kind.Label kind.List (λ a f o ga gf go h. select_val a f o ga gf go h) os g h
  fits_right op.SelectTupleArity os r g h =
      three defined (FitsRight op.SelectTupleArity) kind.Source kind.Label kind.List (λ a f o ga gf go h. select_tuple_arity a f o ga gf go h) os g h
  fits_right op.Allocate os r g h = two defined (FitsRight op.Allocate) kind.FrameSize kind.Number (λ n m gn gm h. allocate n m gn h) os g h
  fits_right op.AllocateHeap os r g h =
      three defined (FitsRight op.AllocateHeap) kind.FrameSize kind.Number kind.Number (λ n m o gn gm go h. allocate_heap n m o gn h) os g h
  fits_right op.Deallocate os r g h = one defined (FitsRight op.Deallocate) kind.Number (λ n gn h. deallocate n gn h) os g h
  fits_right op.Trim os r g h = two defined (FitsRight op.Trim) kind.Number kind.Number (λ m n gm gn h. trim m n gm gn h) os g h
  fits_right op.InitYregs os r g h = one defined (FitsRight op.InitYregs) kind.List (λ o go h. init_yregs o go h) os g h
  fits_right op.TestHeap os r g h =
      two defined (FitsRight op.TestHeap) kind.Number kind.Number (λ m n gm gn h. ((tt, tt, refl, tt), goes_next row s p (has, behind, run) (rows.on_same here h.on))) os g h
  fits_right op.Bif0 os r g h = two defined (FitsRight op.Bif0) (kind.Native 0) kind.Register (λ i d gi gd h. rows.computed_none here i d gi gd h.there h.on) os g h
  fits_right op.Bif1 os r g h =
      four defined (FitsRight op.Bif1) kind.FailLabel (kind.Native 1) kind.Source kind.Register (λ f i a d gf gi ga gd h. rows.computed_one here f i a d gf gi ga gd h.values h.there h.jumps h.raises h.on) os g h
  fits_right op.Bif2 os r g h =
      five defined (FitsRight op.Bif2) kind.FailLabel (kind.Native 2) kind.Source kind.Source kind.Register (λ f i a b d gf gi ga gb gd h. rows.computed_two here f i a b d gf gi ga gb gd h.values h.there h.jumps h.raises h.on) os g h
  fits_right op.GcBif1 os r g h =
      five defined (FitsRight op.GcBif1) kind.FailLabel kind.Number (kind.Native 1) kind.Source kind.Register (λ f n i a d gf gn gi ga gd h. rows.computed_one here f i a d gf gi ga gd h.values h.there h.jumps h.raises h.on) os g h
  fits_right op.GcBif2 os r g h =
      six defined (FitsRight op.GcBif2) kind.FailLabel kind.Number (kind.Native 2) kind.Source kind.Source kind.Register (λ f n i a b d gf gn gi ga gb gd h. rows.computed_two here f i a b d gf gi ga gb gd h.values h.there h.jumps h.raises h.on) os g h
  fits_right op.IsLt os r g h =
      three defined (FitsRight op.IsLt) kind.Label kind.Source kind.Source (λ f a b gf ga gb h. rows.compared here Less f a b gf ga gb h.values h.jumps h.on) os g h
  fits_right op.IsGe os r g h =
      three defined (FitsRight op.IsGe) kind.Label kind.Source kind.Source (λ f a b gf ga gb h. rows.compared here GreaterOrEqual f a b gf ga gb h.values h.jumps h.on) os g h
  fits_right op.IsEq os r g h =
      three defined (FitsRight op.IsEq) kind.Label kind.Source kind.Source (λ f a b gf ga gb h. rows.compared here Equal f a b gf ga gb h.values h.jumps h.on) os g h
  fits_right op.IsNe os r g h =
      three defined (FitsRight op.IsNe) kind.Label kind.Source kind.Source (λ f a b gf ga gb h. rows.compared here NotEqual f a b gf ga gb h.values h.jumps h.on) os g h
  fits_right op.IsEqExact os r g h =
      three defined (FitsRight op.IsEqExact) kind.Label kind.Source kind.Source (λ f a b gf ga gb h. rows.compared here Equal f a b gf ga gb h.values h.jumps h.on) os g h
  fits_right op.IsNeExact os r g h =
      three defined (FitsRight op.IsNeExact) kind.Label kind.Source kind.Source (λ f a b gf ga gb h. rows.compared here NotEqual f a b gf ga gb h.values h.jumps h.on) os g h
  fits_right op.IsInteger os r g h =
      two defined (FitsRight op.IsInteger) kind.Label kind.Source (λ f a gf ga h. rows.of_type here type.Integer f a gf ga h.values h.jumps h.on) os g h
  fits_right op.IsFloat os r g h =
      two defined (FitsRight op.IsFloat) kind.Label kind.Source (λ f a gf ga h. rows.of_no_type here type.Float f a (λ t. refl) gf ga h.values h.jumps) os g h
  fits_right op.IsNumber os r g h =
      two defined (FitsRight op.IsNumber) kind.Label kind.Source (λ f a gf ga h. rows.of_type here type.Number f a gf ga h.values h.jumps h.on) os g h
  fits_right op.IsAtom os r g h =
      two defined (FitsRight op.IsAtom) kind.Label kind.Source (λ f a gf ga h. rows.of_type here type.Atom f a gf ga h.values h.jumps h.on) os g h
  fits_right op.IsPid os r g h =
      two defined (FitsRight op.IsPid) kind.Label kind.Source (λ f a gf ga h. rows.of_type here type.Pid f a gf ga h.values h.jumps h.on) os g h
  fits_right op.IsReference os r g h =
      two defined (FitsRight op.IsReference) kind.Label kind.Source (λ f a gf ga h. rows.of_type here type.Reference f a gf ga h.values h.jumps h.on) os g h
  fits_right op.IsPort os r g h =
      two defined (FitsRight op.IsPort) kind.Label kind.Source (λ f a gf ga h. rows.of_no_type here type.Port f a (λ t. refl) gf ga h.values h.jumps) os g h
  fits_right op.IsNil os r g h =
      two defined (FitsRight op.IsNil) kind.Label kind.Source (λ f a gf ga h. rows.of_type here type.Nil f a gf ga h.values h.jumps h.on) os g h
  fits_right op.IsBinary os r g h =
      two defined (FitsRight op.IsBinary) kind.Label kind.Source (λ f a gf ga h. rows.of_no_type here type.Binary f a (λ t. refl) gf ga h.values h.jumps) os g h
  fits_right op.IsList os r g h =
      two defined (FitsRight op.IsList) kind.Label kind.Source (λ f a gf ga h. rows.of_type here type.List f a gf ga h.values h.jumps h.on) os g h
  fits_right op.IsNonemptyList os r g h =
      two defined (FitsRight op.IsNonemptyList) kind.Label kind.Source (λ f a gf ga h. rows.of_type here type.NonemptyList f a gf ga h.values h.jumps h.on) os g h
  fits_right op.IsTuple os r g h =
      two defined (FitsRight op.IsTuple) kind.Label kind.Source (λ f a gf ga h. rows.of_type here type.Tuple f a gf ga h.values h.jumps h.on) os g h
  fits_right op.IsFunction os r g h =
      two defined (FitsRight op.IsFunction) kind.Label kind.Source (λ f a gf ga h. rows.of_no_type here type.Function f a (λ t. refl) gf ga h.values h.jumps) os g h
  fits_right op.IsBoolean os r g h =
      two defined (FitsRight op.IsBoolean) kind.Label kind.Source (λ f a gf ga h. rows.of_type here type.Boolean f a gf ga h.values h.jumps h.on) os g h
  fits_right op.IsMap os r g h =
      two defined (FitsRight op.IsMap) kind.Label kind.Source (λ f a gf ga h. rows.of_no_type here type.Map f a (λ t. refl) gf ga h.values h.jumps) os g h
  fits_right op.TestArity os r g h =
      three defined (FitsRight op.TestArity) kind.Label kind.Source kind.Number (λ f a n gf ga gn h. sized_row f a n gf ga gn h.values h.jumps h.on) os g h
  fits_right op.IsTaggedTuple os r g h =
      four defined (FitsRight op.IsTaggedTuple) kind.Label kind.Source kind.Number kind.Atom (λ f a n o gf ga gn go h. tagged_row f a n o gf ga gn go h.values h.jumps h.on) os g h
  fits_right op.Move os r g h = two defined (FitsRight op.Move) kind.Source kind.Register (λ a d ga gd h. rows.moved here a d ga gd h.values (h.there, h.on)) os g h
  fits_right op.Swap os r g h = two defined (FitsRight op.Swap) kind.Register kind.Register (λ d e gd ge h. rows.swapped here d e gd ge h.values (h.there, h.on)) os g h
  fits_right op.GetList os r g h =
      three defined (FitsRight op.GetList) kind.Source kind.Register kind.Register (λ a d e ga gd ge h. rows.took_list here a d e ga gd ge (h.raises refl) h.values (h.there, h.on)) os g h
  fits_right op.GetHd os r g h =
      two defined (FitsRight op.GetHd) kind.Source kind.Register (λ a d ga gd h. rows.took_head here a d ga gd (h.raises refl) h.values (h.there, h.on)) os g h
  fits_right op.GetTl os r g h =
      two defined (FitsRight op.GetTl) kind.Source kind.Register (λ a d ga gd h. rows.took_tail here a d ga gd (h.raises refl) h.values (h.there, h.on)) os g h
  fits_right op.GetTupleElement os r g h =
      three defined (FitsRight op.GetTupleElement) kind.Source kind.Number kind.Register (λ a n d ga gn gd h. rows.took_element here a n d ga gn gd (h.raises refl) h.values (h.there, h.on)) os g h
  fits_right op.PutList os r g h =
      three defined (FitsRight op.PutList) kind.Source kind.Source kind.Register (λ a b d ga gb gd h. rows.paired here a b d ga gb gd (h.raises refl) h.values (h.there, h.on)) os g h
  fits_right op.PutTuple2 os r g h =
      two defined (FitsRight op.PutTuple2) kind.Register kind.List (λ d o gd go h. rows.tupled here d o gd go (h.raises refl) h.values (h.there, h.on)) os g h
  fits_right op.UpdateRecord os r g h =
      five defined (FitsRight op.UpdateRecord) kind.Atom kind.Number kind.Source kind.Register kind.List (λ t n a d o gt gn ga gd go h. rows.updated_record here t n a d o gn ga gd go (h.raises refl) h.values (h.there, h.on)) os g h
  fits_right op.FuncInfo os r g h = ((tt, tt, refl, tt), faulted row (h.raises refl) FunctionClause)
  fits_right op.IfEnd os r g h = ((tt, tt, refl, tt), faulted row (h.raises refl) IfClause)
  fits_right op.TryCaseEnd os r g h =
      one defined (FitsRight op.TryCaseEnd) kind.Source (λ a ga h. rows.clause_raised here clause.TryClause a ga (h.raises refl) h.values) os g h
  fits_right op.Badmatch os r g h =
      one defined (FitsRight op.Badmatch) kind.Source (λ a ga h. rows.clause_raised here clause.Badmatch a ga (h.raises refl) h.values) os g h
  fits_right op.CaseEnd os r g h =
      one defined (FitsRight op.CaseEnd) kind.Source (λ a ga h. rows.clause_raised here clause.CaseClause a ga (h.raises refl) h.values) os g h
  fits_right op.Badrecord os r g h =
      one defined (FitsRight op.Badrecord) kind.Source (λ a ga h. rows.clause_raised here clause.Badrecord a ga (h.raises refl) h.values) os g h
  fits_right op.Raise os r g h =
      two defined (FitsRight op.Raise) kind.Source kind.Source (λ a b ga gb h. rows.again_raised here a b ga gb (h.raises refl) h.values) os g h
  fits_right op.RawRaise os r g h = ((tt, tt, refl, tt), raised_raw row (h.raises refl) (rows.on_same here h.on) (class_in (read_x p.x 0)))
  fits_right op.Catch os r g h = two defined (FitsRight op.Catch) kind.Register kind.Label (λ d f gd gf h. rows.catch_row here d f gd gf h.tagged h.there h.on) os g h
  fits_right op.Try os r g h = two defined (FitsRight op.Try) kind.Register kind.Label (λ d f gd gf h. rows.catch_row here d f gd gf h.tagged h.there h.on) os g h
  fits_right op.CatchEnd os r g h = one defined (FitsRight op.CatchEnd) kind.Register (λ d gd h. rows.catch_ended_row here d gd (h.there, h.on)) os g h
  fits_right op.TryEnd os r g h = one defined (FitsRight op.TryEnd) kind.Register (λ d gd h. rows.try_ended_row here d gd (h.there, h.on)) os g h
  fits_right op.TryCase os r g h = one defined (FitsRight op.TryCase) kind.Register (λ d gd h. rows.try_case_row here d gd (h.raises refl) (h.there, h.on)) os g h
  fits_right op.BuildStacktrace os r g h = ((tt, tt, refl, tt), goes_next row s (put_x p 0 nil_term) (has, behind, run) (rows.on_same here h.on))
  fits_right op.Send os r g h = ((tt, tt, refl, tt), sent row (h.raises refl) (rows.on_same here h.on) (read_x p.x 0))
  fits_right op.LoopRec os r g h = two defined (FitsRight op.LoopRec) kind.Label kind.Register (λ f d gf gd h. peeked_row f d gf gd h.jumps (h.there, h.on)) os g h
  fits_right op.LoopRecEnd os r g h =
      one defined (FitsRight op.LoopRecEnd) kind.Label (λ f gf h. to_label_row (λ t. Messaging (messaging.Skip t)) f gf h.jumps (λ t k e. ((tt, tt, refl, (e, tt)), with_message row (h.raises refl) (message_at p.mailbox) _ (skipped row (with_next p.mailbox) t k)))) os g h
  fits_right op.RemoveMessage os r g h = ((tt, tt, refl, tt), with_message row (h.raises refl) (message_at p.mailbox) _ (goes_next row s (record p { mailbox = with_removed p.mailbox; deadline = None }) (has, behind, run) (rows.on_same here h.on)))
  fits_right op.Wait os r g h =
      one defined (FitsRight op.Wait) kind.Label (λ f gf h. to_label_row (λ t. Messaging (messaging.Wait t)) f gf h.jumps (λ t k e. ((tt, tt, refl, (e, tt)), waited row t k))) os g h
  fits_right op.WaitTimeout os r g h =
      two defined (FitsRight op.WaitTimeout) kind.Label kind.Source (λ f a gf ga h. waited_row f a gf ga (h.raises refl) h.values h.jumps h.on) os g h
  fits_right op.Timeout os r g h = ((tt, tt, refl, tt), goes_next row s (record p { mailbox = with_reset p.mailbox; deadline = None }) (has, behind, run) (rows.on_same here h.on))
  fits_right op.RecvMarkerBind os r g h =
      two defined (FitsRight op.RecvMarkerBind) kind.Source kind.Source (λ a b ga gb h. reads_both_row a b ga gb h.values h.on) os g h
  fits_right op.RecvMarkerClear os r g h = one defined (FitsRight op.RecvMarkerClear) kind.Source (λ a ga h. reads_row a ga h.values h.on) os g h
  fits_right op.RecvMarkerReserve os r g h = one defined (FitsRight op.RecvMarkerReserve) kind.Register (λ d gd h. reserved_row d gd (h.there, h.on)) os g h
  fits_right op.RecvMarkerUse os r g h = one defined (FitsRight op.RecvMarkerUse) kind.Source (λ a ga h. reads_row a ga h.values h.on) os g h
