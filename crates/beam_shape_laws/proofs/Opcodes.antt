-- Each instruction that an assignment fits: its row finds what it names, and leaves a process that is shaped.
use Rattle.std.proofs.Common.{◌≡◌, ℕ, ◌+◌, ◌<◌, ◌==◌, ◌&&◌, ◌||◌, nat_lt, Bool, true, false, cond, not, List, [], ◌∷◌, ◌++◌, length, refl, sym, ap, subst, ◌∙◌, true≢false, map, Option, Some, None, is_some, replicate, option_map, slice_get}
use Rattle.std.proofs.lemmas.Bool.{and_parts}
use Rattle.std.specs.List.{AllByRecursion, list_all, flat_map}
use Rattle.std.proofs.lemmas.Option.{same_Some}
use Rattle.beam_model.specs.declared.exception.ClauseFault.{ClauseFault}
use Rattle.beam_model.specs.declared.exception.Fault.TheVariants.{IllegalOperand}
use Rattle.beam_model.specs.declared.instruction.Argument.{Argument}
use Rattle.beam_model.specs.declared.instruction.Instruction.{Instruction}
use Rattle.beam_model.specs.declared.instruction.Operand.{Operand}
use Rattle.beam_model.specs.declared.native.Comparison.{Comparison}
use Rattle.beam_model.specs.declared.native.TypeTest.{TypeTest}
use Rattle.beam_model.specs.Prelude.{clause_exception, bare, sized, any, Assignment, y_in, ys_in, is_value, is_there as is_there_in, put_all, after_effect, wants_bare, allocates, drops, trims as trims_by, labels_in as labels_named, label_of_argument, label_in as label_named, is_total, may_fail, may_have, shape_of_label, begins_bare, leads_on, may_fall_through as goes_on_row, tags_a_y, is_choice, is_size, are_choices, is_register as is_register_in, built_in as native_in, IsWellFormed, Listing, row_of_label, next_row, defined_labels, is_among, is_of_type, Shape}
use Rattle.beam_model.specs.declared.native.Native.{Native}
use Rattle.beam_term.specs.Prelude.{nil_term, TermValue}
use Rattle.beam_model.specs.declared.instruction.Argument.TheVariants as argument
use Rattle.beam_model.specs.declared.instruction.Operand.TheVariants as operand
use Rattle.beam_model.specs.declared.native.Native.TheVariants as native
use Rattle.beam_model.specs.declared.opcode.Kind.TheVariants as kind
use Rattle.beam_machine.specs.declared.action.Action.{Action}
use Rattle.beam_machine.specs.declared.action.Choice.{Choice}
use Rattle.beam_machine.specs.declared.action.SizeChoice.{SizeChoice}
use Rattle.beam_machine.specs.declared.action.OnFault.TheVariants.{Raises, Goes as GoesTo}
use Rattle.beam_machine.specs.declared.action.Register.{Register}
use Rattle.beam_machine.specs.declared.action.Source.{Source}
use Rattle.beam_machine.specs.declared.process.Slot.TheVariants.{Value}
use Rattle.beam_machine.specs.declared.process.Status.TheVariants.{Running}
use Rattle.beam_machine.specs.Prelude.{source_in, register_in, label_in, number_in, given, illegal_action, target_of, on_fault, test_of_type, test_of_comparison, computes_0, computes_1, computes_2, bif0, of_one, of_two, from_to, swap, get_list, get_element, put_list, put_tuple, update_record, select_value, select_size, clear, catch', with_register, raise_clause, raise_again, choices_in, size_choices_in, Code, listing_of, Process, read, read_all, put_y, dropped, held_in, perform, chosen, decides}
use Rattle.beam_machine.specs.declared.action.Action.TheVariants.{Stack, Catching, Control}
use Rattle.beam_machine.specs.declared.action.Catching.TheVariants as catching
use Rattle.beam_machine.specs.declared.action.Control.TheVariants as control
use Rattle.beam_machine.specs.declared.action.Data.TheVariants as data'
use Rattle.beam_machine.specs.declared.action.Register.TheVariants as register
use Rattle.beam_machine.specs.declared.action.Stack.TheVariants as stack
use Rattle.beam_machine.specs.declared.action.Test.TheVariants as test
use Rattle.beam_shape_laws.specs.Finds.{newest, HasValue, IsThere, HasRow, fault_targets, Finds}
use Rattle.beam_shape_laws.specs.Shaped.{HasShape, WaitBehind}
use Rattle.beam_shape_laws.proofs.Landing.{fits_label, begins_label, next_fits, defined_row}
use Rattle.beam_shape_laws.proofs.Operands.{no_choices, no_sizes, IsGood, as_import, as_list, as_label, given_number, given_register, value_there, given_source, given_elements, given_updates, given_label, given_choices, given_sizes, given_registers, nullary_known, unary_known, binary_known}
use Rattle.beam_shape_laws.proofs.Actions.{Right, goes_label, y_of, put_none, Comes, Enters, Row, next_place, On, Reached, Begins, Caught, changed, raised, faulted, stored, stored_made, stored_two, with_one_right, with_two_right, tested, Fails, computed_0, computed_1, computed_2, split_right, open_right, with_one_caught, stored_tuple, updated, allocated, trimmed, dropped_bare, dropped_some, all_cleared, tagged, catch_ended, handled, raised_again, chosen_reached, selected, selected_size}
use Rattle.beam_shape_laws.proofs.Standing.{row_there, stands_some, put_y_stands, size_there, trim_there, bare_slots, bare_there}
use Rattle.beam_shape_laws.proofs.Small.{some_of, in_parts}

-- a row of a framed listing in the node's code, and a process that is at it
pub record Before : Type 0 where
  pub code : Code
  pub enter : Enters code
  pub instance : ℕ
  pub l : Listing
  pub found : listing_of code instance ≡ Some l
  pub w : IsWellFormed l
  pub at : ℕ
  pub inside : at < length l.instructions
  pub s : Shape
  pub p : Process
  pub has : HasShape instance l.instructions s (newest p.frames)
  pub behind : WaitBehind code p.frames
  pub run : p.status ≡ Running

module _ (here : Before) where
  open here use {code, enter, instance, l, found, w, at, inside, s, p, has, behind, run}

  abbrev pub instrs : List Instruction
  instrs = l.instructions

  abbrev pub shapes : Assignment
  shapes = w.framed.shapes

  abbrev pub next : ℕ
  next = next_row at instrs

  abbrev pub defined : List ℕ
  defined = defined_labels instrs

  abbrev pub row : Row
  row = record { code = code; instance = instance; instrs = instrs; next = next; s = s; p = p; has = has; behind = behind; run = run }

  -- the row finds what it names, and leaves a process that is shaped
  abbrev pub Result : Action → Type 0
  Result a = Finds a p × Comes code (perform code a (next_place row) p)

  -- ---- where it goes

  pub on_of : (t : Shape) → may_have t (shapes next) ≡ true → On row t
  on_of t e = next_fits code instance l found w t at inside e

  pub on_same : may_have (put_all None [] s) (shapes next) ≡ true → On row s
  on_same e = on_of s (subst (λ t. may_have t (shapes next) ≡ true) (put_none s) e)

  abbrev pub reach : ℕ → Bool
  reach label = may_have s (shape_of_label shapes instrs label)

  pub reached : (n : ℕ) → reach n ≡ true → Reached row (row_of_label n 0 instrs)
  reached n e = fits_label code instance l found w s (newest p.frames) n e has

  -- a label has a row
  pub has_row : (n : ℕ) → Reached row (target_of instrs n) → HasRow (target_of instrs n)
  has_row n k = row_there code instance (newest p.frames) (target_of instrs n) k

  pub has_entry : (n : ℕ) → Begins row (target_of instrs n) → HasRow (target_of instrs n)
  has_entry n k = row_there code instance None (target_of instrs n) k

  pub begins : (n : ℕ) → (begins_bare shapes instrs n && true) ≡ true → Begins row (target_of instrs n)
  begins n e = begins_label code instance l found w n (and_parts (begins_bare shapes instrs n) true e).0

  -- ---- operands

  pub with_source : (o : Operand) (rest : List ℕ) (does : Source → Action) → IsGood defined kind.Source o → list_all (is_value s) (ys_in o ++ rest) ≡ true
      → ((v : Source) → HasValue p v → list_all (is_value s) rest ≡ true → Result (does v)) → Result (given (source_in o) does)
  with_source o rest does g h k = given_source instance instrs s p has Result o rest does g.0 h k

  pub into_register : (o : Operand) (does : Register → Action) → IsGood defined kind.Register o → ((d : Register) → ys_in o ≡ y_of d → Result (does d)) → Result (given (register_in o) does)
  into_register o does g k = given_register Result o does g.0 k

  pub with_label : (o : Operand) (rest : List ℕ) (does : ℕ → Action) → IsGood defined kind.Label o → list_all reach (labels_named o ++ rest) ≡ true
      → ((n : ℕ) → Reached row (target_of instrs n) → list_all reach rest ≡ true → Result (does n)) → Result (given (label_in o) does)
  with_label o rest does g h k = given_label instrs defined reach (Reached row) reached Result o rest does g.0 g.2 h k

  pub with_count : (o : Operand) (does : ℕ → Action) → IsGood defined kind.Number o → ((n : ℕ) → Result (does n)) → Result (given (number_in o) does)
  with_count o does g k = given_number Result o does g.0 k

  slot_there : (n : ℕ) → is_there_in s n ≡ true → IsThere p (register.Y n)
  slot_there n e = stands_some code instance instrs (put_all None (n ∷ []) s) (put_y p p.frames n (Value nil_term)) (put_y_stands code instance instrs s p p.frames n None (Value nil_term) has behind run e tt)

  register_there : (d : Register) (rest : List ℕ) → list_all (is_there_in s) (y_of d ++ rest) ≡ true → IsThere p d
  register_there (register.X n) rest h = refl
  register_there (register.Y n) rest h = slot_there n (and_parts (is_there_in s n) (list_all (is_there_in s) rest) h).0

  pub there_first : (d : Register) (ds rest : List ℕ) → ds ≡ y_of d → list_all (is_there_in s) (ds ++ rest) ≡ true → IsThere p d
  there_first d ds rest e h = register_there d rest (subst (λ ns. list_all (is_there_in s) (ns ++ rest) ≡ true) e h)

  there_second : (d : Register) (ds es rest : List ℕ) → es ≡ y_of d → list_all (is_there_in s) (ds ++ (es ++ rest)) ≡ true → IsThere p d
  there_second d ds es rest e h = there_first d es rest e (in_parts (is_there_in s) ds (es ++ rest) h).1

  all_there : (rs : List Register) → list_all (is_there_in s) (flat_map y_of rs) ≡ true → AllByRecursion (IsThere p) rs
  all_there [] h = tt
  all_there (r ∷ rest) h = (register_there r (flat_map y_of rest) h, all_there rest (in_parts (is_there_in s) (y_of r) (flat_map y_of rest) h).1)

  register_read : (d : Register) (rest : List ℕ) → list_all (is_value s) (y_of d ++ rest) ≡ true → HasValue p (held_in d) × (list_all (is_value s) rest ≡ true)
  register_read (register.X n) rest h = (refl, h)
  register_read (register.Y n) rest h = value_there instance instrs s p has n rest h

  read_first : (d : Register) (ds rest : List ℕ) → ds ≡ y_of d → list_all (is_value s) (ds ++ rest) ≡ true → HasValue p (held_in d) × (list_all (is_value s) rest ≡ true)
  read_first d ds rest e h = register_read d rest (subst (λ ns. list_all (is_value s) (ns ++ rest) ≡ true) e h)

  pub wrong_shape : Caught row → Result illegal_action
  wrong_shape c = ((tt, tt, refl, tt), faulted row c IllegalOperand)

  -- ---- tests

  abbrev pub NoneWritten : Type 0
  NoneWritten = may_have (put_all None [] s) (shapes next) ≡ true

  pub compared : (comparison : Comparison) (f a b : Operand) → IsGood defined kind.Label f → IsGood defined kind.Source a → IsGood defined kind.Source b
      → list_all (is_value s) (ys_in a ++ (ys_in b ++ [])) ≡ true → list_all reach (labels_named f ++ []) ≡ true → NoneWritten → Result (test_of_comparison instrs comparison (f ∷ a ∷ b ∷ []))
  compared comparison f a b gf ga gb v j on =
      with_label f [] _ gf j (λ n k e. with_source a (ys_in b ++ []) _ ga v (λ x hx v. with_source b [] _ gb v (λ y hy e.
      (((hx, (hy, tt)), tt, refl, (has_row n k, tt)), tested row (test.Compare comparison x y) (target_of instrs n) (hx, (hy, tt)) k (on_same on)))))

  pub of_type : (type : TypeTest) (f a : Operand) → IsGood defined kind.Label f → IsGood defined kind.Source a
      → list_all (is_value s) (ys_in a ++ []) ≡ true → list_all reach (labels_named f ++ []) ≡ true → NoneWritten → Result (test_of_type instrs type (f ∷ a ∷ []))
  of_type type f a gf ga v j on =
      with_label f [] _ gf j (λ n k e. with_source a [] _ ga v (λ x hx e. (((hx, tt), tt, refl, (has_row n k, tt)), tested row (test.IsOfType type x) (target_of instrs n) (hx, tt) k (on_same on))))

  -- a test of a type that no term has goes to its label
  pub of_no_type : (type : TypeTest) (f a : Operand) → ((t : TermValue) → is_of_type type t ≡ false) → IsGood defined kind.Label f → IsGood defined kind.Source a
      → list_all (is_value s) (ys_in a ++ []) ≡ true → list_all reach (labels_named f ++ []) ≡ true → Result (test_of_type instrs type (f ∷ a ∷ []))
  of_no_type type f a none gf ga v j =
      with_label f [] _ gf j (λ n k e. with_source a [] _ ga v (λ x hx e. (
        ((hx, tt), tt, refl, (has_row n k, tt)),
        with_one_right row (read p x) _ hx (λ t. subst (λ b. Right row (decides p (next_place row) (target_of instrs n) b)) (sym (none t)) (goes_label row (target_of instrs n) k)),
      )))

  -- ---- natives of instructions

  -- a native's row without a value goes to its label, or may raise
  fail_goes : (n : ℕ) (b total : Bool) → list_all reach (cond total [] (cond b [] (n ∷ []) ++ [])) ≡ true → (((b && not total) || false) ≡ true → Caught row) → total ≡ false
      → Fails row (cond b Raises (GoesTo (target_of instrs n)))
  fail_goes n true total j c e = c (ap (λ t. not t || false) e)
  fail_goes n false total j c e = reached n (and_parts (reach n) true (subst (λ t. list_all reach (cond t [] (n ∷ [])) ≡ true) e j)).0

  -- a label that is defined has a row, whether the row goes there or not
  fault_there : (n : ℕ) (b : Bool) → (b || (nat_lt 0 n && is_among n defined)) ≡ true → AllByRecursion HasRow (fault_targets (cond b Raises (GoesTo (target_of instrs n))))
  fault_there n true d = tt
  fault_there n false d = (defined_row n 0 instrs (and_parts (nat_lt 0 n) (is_among n defined) d).1, tt)

  -- a row may go to its fail label where its built-in function has no value for some arguments
  abbrev pub MayJump : Operand → Operand → Type 0
  MayJump f i = list_all reach (cond (is_total (native_in i)) [] (labels_named f ++ [])) ≡ true

  pub computed_none : (i d : Operand) → IsGood defined (kind.Native 0) i → IsGood defined kind.Register d
      → list_all (is_there_in s) (ys_in d ++ []) ≡ true → may_have (put_all None (ys_in d ++ []) s) (shapes next) ≡ true → Result (bif0 (i ∷ d ∷ []))
  computed_none i d gi gd t on =
      as_import (λ i. IsGood defined (kind.Native 0) i → Result (bif0 (i ∷ d ∷ [])))
      (λ i gi.
      let known = nullary_known i gi.1 in
      into_register d _ gd (λ r e. subst (λ o. Result (computes_0 o r Raises)) (sym known.1)
      ((tt, (there_first r (ys_in d) [] e t, tt), refl, tt), computed_0 row known.0 r Raises (stored row r (ys_in d) e t (on_of _ on)))))
      i gi.0 gi

  jumps_as : (n : ℕ) {o q : Option Native} → o ≡ q → list_all reach (cond (is_total o) [] (labels_named (operand.One (argument.Label n)) ++ [])) ≡ true
      → list_all reach (cond (is_total q) [] (cond (n == 0) [] (n ∷ []) ++ [])) ≡ true
  jumps_as n e j = subst (λ o. list_all reach (cond (is_total o) [] (labels_named (operand.One (argument.Label n)) ++ [])) ≡ true) e j

  pub computed_one : (f i a d : Operand) → IsGood defined kind.FailLabel f → IsGood defined (kind.Native 1) i → IsGood defined kind.Source a → IsGood defined kind.Register d
      → list_all (is_value s) (ys_in a ++ []) ≡ true → list_all (is_there_in s) (ys_in d ++ []) ≡ true
      → MayJump f i → ((may_fail f i || false) ≡ true → Caught row)
      → may_have (put_all None (ys_in d ++ []) s) (shapes next) ≡ true → Result (of_one instrs f i a d)
  computed_one f i a d gf gi ga gd v t j c on =
      as_label (λ f. IsGood defined kind.FailLabel f → MayJump f i → ((may_fail f i || false) ≡ true → Caught row) → Result (of_one instrs f i a d))
      (λ n gf j c. as_import (λ i. IsGood defined (kind.Native 1) i → MayJump (operand.One (argument.Label n)) i → ((may_fail (operand.One (argument.Label n)) i || false) ≡ true → Caught row) → Result (of_one instrs (operand.One (argument.Label n)) i a d))
      (λ i gi j c.
      let known = unary_known i gi.1 in
      with_source a [] _ ga v (λ x hx e. into_register d _ gd (λ r e. subst (λ o. Result (computes_1 o x r (on_fault instrs n))) (sym known.1) (
        ((hx, tt), (there_first r (ys_in d) [] e t, tt), refl, fault_there n (n == 0) gf.2),
        with_one_right row (read p x) _ hx (λ a. computed_1 row known.0 a r (on_fault instrs n) (stored row r (ys_in d) e t (on_of _ on))
            (fail_goes n (n == 0) (is_total (Some (native.Unary known.0))) (jumps_as n known.1 j) (λ e. c (ap (λ o. ((n == 0) && not (is_total o)) || false) known.1 ∙ e)))),
      ))))
      i gi.0 gi j c)
      f gf.0 gf j c

  pub computed_two : (f i a b d : Operand) → IsGood defined kind.FailLabel f → IsGood defined (kind.Native 2) i → IsGood defined kind.Source a → IsGood defined kind.Source b → IsGood defined kind.Register d
      → list_all (is_value s) (ys_in a ++ (ys_in b ++ [])) ≡ true → list_all (is_there_in s) (ys_in d ++ []) ≡ true
      → MayJump f i → ((may_fail f i || false) ≡ true → Caught row)
      → may_have (put_all None (ys_in d ++ []) s) (shapes next) ≡ true → Result (of_two instrs f i a b d)
  computed_two f i a b d gf gi ga gb gd v t j c on =
      as_label (λ f. IsGood defined kind.FailLabel f → MayJump f i → ((may_fail f i || false) ≡ true → Caught row) → Result (of_two instrs f i a b d))
      (λ n gf j c. as_import (λ i. IsGood defined (kind.Native 2) i → MayJump (operand.One (argument.Label n)) i → ((may_fail (operand.One (argument.Label n)) i || false) ≡ true → Caught row) → Result (of_two instrs (operand.One (argument.Label n)) i a b d))
      (λ i gi j c.
      let known = binary_known i gi.1 in
      with_source a (ys_in b ++ []) _ ga v (λ x hx v. with_source b [] _ gb v (λ y hy e. into_register d _ gd (λ r e. subst (λ o. Result (computes_2 o x y r (on_fault instrs n))) (sym known.1) (
        ((hx, (hy, tt)), (there_first r (ys_in d) [] e t, tt), refl, fault_there n (n == 0) gf.2),
        with_two_right row (read p x) (read p y) _ hx hy (λ a b. computed_2 row known.0 a b r (on_fault instrs n) (stored row r (ys_in d) e t (on_of _ on))
            (fail_goes n (n == 0) (is_total (Some (native.Binary known.0))) (jumps_as n known.1 j) (λ e. c (ap (λ o. ((n == 0) && not (is_total o)) || false) known.1 ∙ e)))),
      )))))
      i gi.0 gi j c)
      f gf.0 gf j c

  -- ---- data

  abbrev pub Written : Operand → Type 0
  Written d = (list_all (is_there_in s) (ys_in d ++ []) ≡ true) × (may_have (put_all None (ys_in d ++ []) s) (shapes next) ≡ true)

  abbrev pub BothWritten : Operand → Operand → Type 0
  BothWritten d e = (list_all (is_there_in s) (ys_in d ++ (ys_in e ++ [])) ≡ true) × (may_have (put_all None (ys_in d ++ (ys_in e ++ [])) s) (shapes next) ≡ true)

  pub moved : (a d : Operand) → IsGood defined kind.Source a → IsGood defined kind.Register d → list_all (is_value s) (ys_in a ++ []) ≡ true → Written d
      → Result (from_to (λ s d. data'.Move s d) (a ∷ d ∷ []))
  moved a d ga gd v t =
      with_source a [] _ ga v (λ x hx _. into_register d _ gd (λ r e.
      (((hx, tt), (there_first r (ys_in d) [] e t.0, tt), refl, tt), with_one_right row (read p x) _ hx (stored row r (ys_in d) e t.0 (on_of _ t.1)))))

  pub took_head : (a d : Operand) → IsGood defined kind.Source a → IsGood defined kind.Register d → Caught row → list_all (is_value s) (ys_in a ++ []) ≡ true → Written d
      → Result (from_to (λ s d. data'.GetHead s d) (a ∷ d ∷ []))
  took_head a d ga gd c v t =
      with_source a [] _ ga v (λ x hx _. into_register d _ gd (λ r e.
      (((hx, tt), (there_first r (ys_in d) [] e t.0, tt), refl, tt), with_one_right row (read p x) _ hx (λ t'. split_right row c t' _ (λ h _. stored row r (ys_in d) e t.0 (on_of _ t.1) h)))))

  pub took_tail : (a d : Operand) → IsGood defined kind.Source a → IsGood defined kind.Register d → Caught row → list_all (is_value s) (ys_in a ++ []) ≡ true → Written d
      → Result (from_to (λ s d. data'.GetTail s d) (a ∷ d ∷ []))
  took_tail a d ga gd c v t =
      with_source a [] _ ga v (λ x hx _. into_register d _ gd (λ r e.
      (((hx, tt), (there_first r (ys_in d) [] e t.0, tt), refl, tt), with_one_right row (read p x) _ hx (λ t'. split_right row c t' _ (λ _ u. stored row r (ys_in d) e t.0 (on_of _ t.1) u)))))

  pub swapped : (d e : Operand) → IsGood defined kind.Register d → IsGood defined kind.Register e → list_all (is_value s) (ys_in d ++ (ys_in e ++ [])) ≡ true → BothWritten d e → Result (swap (d ∷ e ∷ []))
  swapped d e gd ge v t =
      into_register d _ gd (λ r f. into_register e _ ge (λ q g.
      let first = read_first r (ys_in d) (ys_in e ++ []) f v in
      let second = read_first q (ys_in e) [] g first.1 in (
        ((first.0, (second.0, tt)), (there_first r (ys_in d) (ys_in e ++ []) f t.0, (there_second q (ys_in d) (ys_in e) [] g t.0, tt)), refl, tt),
        with_two_right row (read p (held_in r)) (read p (held_in q)) _ first.0 second.0 (λ a b. stored_two row r q (ys_in d) (ys_in e) f g t.0 (on_of _ t.1) b a),
      )))

  pub took_list : (a d e : Operand) → IsGood defined kind.Source a → IsGood defined kind.Register d → IsGood defined kind.Register e → Caught row → list_all (is_value s) (ys_in a ++ []) ≡ true → BothWritten d e
      → Result (get_list (a ∷ d ∷ e ∷ []))
  took_list a d e ga gd ge c v t =
      with_source a [] _ ga v (λ x hx _. into_register d _ gd (λ r f. into_register e _ ge (λ q g. (
        ((hx, tt), (there_first r (ys_in d) (ys_in e ++ []) f t.0, (there_second q (ys_in d) (ys_in e) [] g t.0, tt)), refl, tt),
        with_one_right row (read p x) _ hx (λ t'. split_right row c t' _ (λ h u. stored_two row r q (ys_in d) (ys_in e) f g t.0 (on_of _ t.1) h u)),
      ))))

  pub took_element : (a n d : Operand) → IsGood defined kind.Source a → IsGood defined kind.Number n → IsGood defined kind.Register d → Caught row → list_all (is_value s) (ys_in a ++ []) ≡ true → Written d
      → Result (get_element (a ∷ n ∷ d ∷ []))
  took_element a n d ga gn gd c v t =
      with_source a [] _ ga v (λ x hx _. with_count n _ gn (λ i. into_register d _ gd (λ r e. (
        ((hx, tt), (there_first r (ys_in d) [] e t.0, tt), refl, tt),
        with_one_right row (read p x) _ hx (λ t'. open_right row c t' _ (λ items. with_one_caught row c (slice_get items i) _ (stored row r (ys_in d) e t.0 (on_of _ t.1)))),
      ))))

  pub paired : (a b d : Operand) → IsGood defined kind.Source a → IsGood defined kind.Source b → IsGood defined kind.Register d → Caught row → list_all (is_value s) (ys_in a ++ (ys_in b ++ [])) ≡ true → Written d
      → Result (put_list (a ∷ b ∷ d ∷ []))
  paired a b d ga gb gd c v t =
      with_source a (ys_in b ++ []) _ ga v (λ x hx v. with_source b [] _ gb v (λ y hy _. into_register d _ gd (λ r e. (
        ((hx, (hy, tt)), (there_first r (ys_in d) [] e t.0, tt), refl, tt),
        with_two_right row (read p x) (read p y) _ hx hy (λ h u. stored_made row c r (stored row r (ys_in d) e t.0 (on_of _ t.1)) _),
      ))))

  pub tupled : (d o : Operand) → IsGood defined kind.Register d → IsGood defined kind.List o → Caught row → list_all (is_value s) (ys_in o ++ []) ≡ true → Written d → Result (put_tuple (d ∷ o ∷ []))
  tupled d o gd go c v t =
      as_list (λ o. list_all (is_value s) (ys_in o ++ []) ≡ true → Result (put_tuple (d ∷ o ∷ [])))
      (λ as' v. into_register d _ gd (λ r e. given_elements instance instrs s p has Result as' [] _ (wrong_shape c) v (λ vs hvs.
      ((hvs, (there_first r (ys_in d) [] e t.0, tt), refl, tt), stored_tuple row c r (stored row r (ys_in d) e t.0 (on_of _ t.1)) (read_all p vs)))))
      o go.0 v

  pub updated_record : (hint n a d o : Operand) → IsGood defined kind.Number n → IsGood defined kind.Source a → IsGood defined kind.Register d → IsGood defined kind.List o → Caught row
      → list_all (is_value s) (ys_in a ++ (ys_in o ++ [])) ≡ true → Written d → Result (update_record (hint ∷ n ∷ a ∷ d ∷ o ∷ []))
  updated_record hint n a d o gn ga gd go c v t =
      as_list (λ o. list_all (is_value s) (ys_in a ++ (ys_in o ++ [])) ≡ true → Result (update_record (hint ∷ n ∷ a ∷ d ∷ o ∷ [])))
      (λ as' v. with_count n _ gn (λ size. with_source a (flat_map y_in as' ++ []) _ ga v (λ x hx v. into_register d _ gd (λ r e.
      given_updates instance instrs s p has Result as' [] _ (wrong_shape c) v (λ us hus. (
        ((hx, hus), (there_first r (ys_in d) [] e t.0, tt), refl, tt),
        with_one_right row (read p x) _ hx (λ t'. open_right row c t' _ (λ items. updated row c size r us items (stored row r (ys_in d) e t.0 (on_of _ t.1)))),
      ))))))
      o go.0 v

  -- ---- frames

  -- the row finds the frame that it needs, and the next row, if it goes there, may have the shape that it leaves
  abbrev pub LeavesOn : Instruction → Option Shape → Type 0
  LeavesOn i o = leads_on shapes i next (option_map (put_all None []) o) ≡ true

  pub made_some : (i : Instruction) (g : Shape → Shape) (o : Option Shape) → leads_on shapes i next (option_map g o) ≡ true → is_some o ≡ true
  made_some i g None e = absurd (true≢false (sym e))
  made_some i g (Some t) e = refl

  pub left_fits : (i : Instruction) (o : Option Shape) → LeavesOn i o → goes_on_row i ≡ true → (t : Shape) → o ≡ Some t → may_have t (shapes next) ≡ true
  left_fits i None e g t is = absurd (true≢false (sym e))
  left_fits i (Some u) e g t is =
      let on : may_have (put_all None [] u) (shapes next) ≡ true = ap (λ b. not b || may_have (put_all None [] u) (shapes next)) (sym g) ∙ e in
      subst (λ t. may_have t (shapes next) ≡ true) (put_none u ∙ same_Some u t is) on

  pub wants_bare_is : (t : Shape) → is_some (after_effect wants_bare t) ≡ true → t ≡ bare
  wants_bare_is bare e = refl
  wants_bare_is (sized ts) e = absurd (true≢false (sym e))
  wants_bare_is any e = absurd (true≢false (sym e))

  allocates_is : (n : ℕ) (t : Shape) → is_some (after_effect (allocates n) t) ≡ true → t ≡ bare
  allocates_is n bare e = refl
  allocates_is n (sized ts) e = absurd (true≢false (sym e))
  allocates_is n any e = absurd (true≢false (sym e))

  pub drops_to : (n : ℕ) (t : Shape) → is_some (after_effect (drops n) t) ≡ true → after_effect (drops n) t ≡ Some bare
  drops_to n bare e = absurd (true≢false (sym e))
  drops_to n any e = absurd (true≢false (sym e))
  drops_to n (sized ts) e = go (length ts == n) e
    where
      go : (b : Bool) → is_some (cond b (Some bare) None) ≡ true → cond b (Some bare) None ≡ Some bare
      go true e = refl
      go false e = absurd (true≢false (sym e))

  pub has_bare : s ≡ bare → HasShape instance instrs bare (newest p.frames)
  has_bare e = subst (λ t. HasShape instance instrs t (newest p.frames)) e has

  pub no_slots : s ≡ bare → newest p.frames ≡ None
  no_slots e = bare_slots code instance instrs (newest p.frames) (has_bare e)

  pub allocated_row : (i : Instruction) (n : ℕ) → LeavesOn i (after_effect (allocates n) s) → goes_on_row i ≡ true → Caught row → Result (Stack (stack.Allocate n))
  allocated_row i n on g c =
      let is = allocates_is n s (made_some i (put_all None []) (after_effect (allocates n) s) on) in
      let h = has_bare is in
      ((tt, tt, bare_there code instance instrs p.frames h behind, tt), allocated row n h (on_of (sized (replicate n None)) (left_fits i (after_effect (allocates n) s) on g (sized (replicate n None)) (ap (after_effect (allocates n)) is))) c)

  pub deallocated_row : (i : Instruction) (n : ℕ) → LeavesOn i (after_effect (drops n) s) → goes_on_row i ≡ true → Result (Stack (stack.Deallocate n))
  deallocated_row i n on g =
      let some = made_some i (put_all None []) (after_effect (drops n) s) on in
      let size = size_there code instance instrs s p.frames n has some in
      ((tt, tt, dropped_some row n size, tt), changed row bare (dropped n p p.frames) (dropped_bare row n size) (on_of bare (left_fits i (after_effect (drops n) s) on g bare (drops_to n s some))))

  pub trimmed_row : (i : Instruction) (m n : ℕ) → LeavesOn i (after_effect (trims_by m n) s) → goes_on_row i ≡ true → Result (Stack (stack.Trim m n))
  trimmed_row i m n on g =
      let some = made_some i (put_all None []) (after_effect (trims_by m n) s) on in
      ((tt, tt, dropped_some row (m + n) (trim_there code instance instrs s p.frames m n has some), tt), trimmed row m n some (λ u e. on_of u (left_fits i (after_effect (trims_by m n) s) on g u e)))

  pub cleared_row : (as' : List Argument) → list_all (is_there_in s) (flat_map y_in as' ++ []) ≡ true → may_have (put_all None (flat_map y_in as' ++ []) s) (shapes next) ≡ true
      → (not (list_all is_register_in as') ≡ true → Caught row) → Result (clear (operand.List as' ∷ []))
  cleared_row as' t on c =
      given_registers Result as' _ (λ e. wrong_shape (c e)) (λ rs e.
      let every : list_all (is_there_in s) (flat_map y_of rs) ≡ true = subst (λ ns. list_all (is_there_in s) ns ≡ true) e (in_parts (is_there_in s) (flat_map y_in as') [] t).0 in
      ((tt, all_there rs every, refl, tt), all_cleared row rs (flat_map y_in as') e t (on_of _ on)))

  -- ---- exceptions

  pub clause_raised : (fault : ClauseFault) (a : Operand) → IsGood defined kind.Source a → Caught row → list_all (is_value s) (ys_in a ++ []) ≡ true → Result (raise_clause fault (a ∷ []))
  clause_raised fault a ga c v = with_source a [] _ ga v (λ x hx _. (((hx, tt), tt, refl, tt), with_one_right row (read p x) _ hx (λ t. raised row c (clause_exception fault t))))

  pub again_raised : (a b : Operand) → IsGood defined kind.Source a → IsGood defined kind.Source b → Caught row → list_all (is_value s) (ys_in a ++ (ys_in b ++ [])) ≡ true → Result (raise_again (a ∷ b ∷ []))
  again_raised a b ga gb c v =
      with_source a (ys_in b ++ []) _ ga v (λ x hx v. with_source b [] _ gb v (λ y hy _.
      (((hx, (hy, tt)), tt, refl, tt), with_two_right row (read p x) (read p y) _ hx hy (λ t u. raised_again row c _ u))))

  pub catch_row : (d f : Operand) → IsGood defined kind.Register d → IsGood defined kind.Label f → tags_a_y (label_named f) (ys_in d ++ []) ≡ true → list_all (is_there_in s) (ys_in d ++ []) ≡ true
      → may_have (put_all (label_named f) (ys_in d ++ []) s) (shapes next) ≡ true → Result (catch' instrs (d ∷ f ∷ []))
  catch_row (operand.One (argument.Y m)) (operand.One (argument.Label n)) gd gf tags t on =
      let known = and_parts (nat_lt 0 n) (is_among n defined) gf.2 in
      let is = some_of (row_of_label n 0 instrs) (defined_row n 0 instrs known.1) in
      let there = (and_parts (is_there_in s m) true t).0 in
      subst (λ o. Result (Catching (catching.Catch (register.Y m) n o))) (sym is.1)
      ((tt, (slot_there m there, tt), refl, (refl, tt)), tagged row m n is.0 there is.1 (on_of _ on))
  catch_row (operand.One (argument.X m)) (operand.One (argument.Label n)) gd gf tags t on = absurd (true≢false (sym tags))
  catch_row d (operand.One (argument.Label n)) gd gf tags t on = absurd (true≢false (sym gd.0))
  catch_row d f gd gf tags t on = absurd (true≢false (sym gf.0))

  pub catch_ended_row : (d : Operand) → IsGood defined kind.Register d → Written d → Result (with_register (λ d. Catching (catching.CatchEnd d)) (d ∷ []))
  catch_ended_row d gd t = into_register d _ gd (λ r e. ((tt, (there_first r (ys_in d) [] e t.0, tt), refl, tt), catch_ended row r (ys_in d) e t.0 (on_of _ t.1)))

  pub try_ended_row : (d : Operand) → IsGood defined kind.Register d → Written d → Result (with_register (λ d. Catching (catching.TryEnd d)) (d ∷ []))
  try_ended_row d gd t = into_register d _ gd (λ r e. ((tt, (there_first r (ys_in d) [] e t.0, tt), refl, tt), stored row r (ys_in d) e t.0 (on_of _ t.1) nil_term))

  pub try_case_row : (d : Operand) → IsGood defined kind.Register d → Caught row → Written d → Result (with_register (λ d. Catching (catching.TryCase d)) (d ∷ []))
  try_case_row d gd c t = into_register d _ gd (λ r e. ((tt, (there_first r (ys_in d) [] e t.0, tt), refl, tt), handled row c r (ys_in d) e t.0 (on_of _ t.1)))

  -- ---- choices

  choices_there : (cs : List Choice) → AllByRecursion (λ c. Reached row c.target) cs → AllByRecursion HasRow (map (λ c. c.target) cs)
  choices_there [] k = tt
  choices_there (c ∷ cs) k = (row_there code instance (newest p.frames) c.target k.0, choices_there cs k.1)

  sizes_there : (cs : List SizeChoice) → AllByRecursion (λ c. Reached row c.target) cs → AllByRecursion HasRow (map (λ c. c.target) cs)
  sizes_there [] k = tt
  sizes_there (c ∷ cs) k = (row_there code instance (newest p.frames) c.target k.0, sizes_there cs k.1)

  -- a row may go to its labels if its list is one of choices
  abbrev pub MayChoose : Operand → List Argument → Bool → Type 0
  MayChoose f as' b = list_all reach (cond (not b || false) [] (labels_named f ++ (flat_map label_of_argument as' ++ []))) ≡ true

  pub select_value_row : (a f : Operand) (as' : List Argument) → IsGood defined kind.Source a → IsGood defined kind.Label f → IsGood defined kind.List (operand.List as')
      → list_all (is_value s) (ys_in a ++ (flat_map y_in as' ++ [])) ≡ true → MayChoose f as' (are_choices is_choice as')
      → (not (are_choices is_choice as') ≡ true → Caught row) → Result (select_value instrs (a ∷ f ∷ operand.List as' ∷ []))
  select_value_row a f as' ga gf go v j c = at (are_choices is_choice as') refl j
    where
      -- each label of a list of choices may be reached; a list that isn't one raises before anything is compared
      at : (b : Bool) → are_choices is_choice as' ≡ b → MayChoose f as' b → Result (select_value instrs (a ∷ f ∷ operand.List as' ∷ []))
      at true e j =
          with_source a (flat_map y_in as' ++ []) _ ga v (λ x hx v. with_label f (flat_map label_of_argument as' ++ []) _ gf j (λ n k j.
          given_choices instrs defined reach (Reached row) reached instance s p has Result as' [] [] _ (λ e. wrong_shape (c e)) go.2 v j (λ cs hcs.
          (((hx, hcs.0), tt, refl, (has_row n k, choices_there cs hcs.1)), with_one_right row (read p x) _ hx (λ t. selected row (chosen p t cs (target_of instrs n)) (chosen_reached row t cs (target_of instrs n) hcs.0 hcs.1 k))))))
      at false e j =
          with_source a (flat_map y_in as' ++ []) _ ga v (λ x hx v.
          as_label (λ f. Result (given (label_in f) (λ n. given (choices_in instrs as') (λ cs. Control (control.SelectValue x cs (target_of instrs n))))))
          (λ n. subst (λ o. Result (given o (λ cs. Control (control.SelectValue x cs (target_of instrs n))))) (sym (no_choices instrs as' e)) (wrong_shape (c (ap not e))))
          f gf.0)

  pub select_size_row : (a f : Operand) (as' : List Argument) → IsGood defined kind.Source a → IsGood defined kind.Label f → IsGood defined kind.List (operand.List as')
      → list_all (is_value s) (ys_in a ++ (flat_map y_in as' ++ [])) ≡ true → MayChoose f as' (are_choices is_size as')
      → (not (are_choices is_size as') ≡ true → Caught row) → Result (select_size instrs (a ∷ f ∷ operand.List as' ∷ []))
  select_size_row a f as' ga gf go v j c = at (are_choices is_size as') refl j
    where
      at : (b : Bool) → are_choices is_size as' ≡ b → MayChoose f as' b → Result (select_size instrs (a ∷ f ∷ operand.List as' ∷ []))
      at true e j =
          with_source a (flat_map y_in as' ++ []) _ ga v (λ x hx v. with_label f (flat_map label_of_argument as' ++ []) _ gf j (λ n k j.
          given_sizes instrs defined reach (Reached row) reached Result as' [] _ (λ e. wrong_shape (c e)) go.2 j (λ cs hcs.
          (((hx, tt), tt, refl, (has_row n k, sizes_there cs hcs)), with_one_right row (read p x) _ hx (λ t. selected_size row t cs (target_of instrs n) hcs k)))))
      at false e j =
          with_source a (flat_map y_in as' ++ []) _ ga v (λ x hx v.
          as_label (λ f. Result (given (label_in f) (λ n. given (size_choices_in instrs as') (λ cs. Control (control.SelectSize x cs (target_of instrs n))))))
          (λ n. subst (λ o. Result (given o (λ cs. Control (control.SelectSize x cs (target_of instrs n))))) (sym (no_sizes instrs as' e)) (wrong_shape (c (ap not e))))
          f gf.0)
