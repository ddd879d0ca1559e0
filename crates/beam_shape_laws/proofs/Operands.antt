-- Operands of their kinds: the parts of actions that are made of them, and the registers and labels that they name.
use Rattle.std.proofs.Common.{◌≡◌, ℕ, ◌==◌, ◌&&◌, nat_lt, Bool, true, false, cond, not, List, [], ◌∷◌, ◌++◌, length, refl, sym, ap, subst, ◌∙◌, true≢false, append_assoc, arith, eqb-true, Option, Some, None, is_some, map, option_map, option_and_then}
use Rattle.std.proofs.lemmas.Bool.{and_parts}
use Rattle.std.proofs.lemmas.Bool.Decides.{nat_tests}
use Rattle.std.specs.List.{AllByRecursion, list_all, flat_map, zip}
use Rattle.beam_model.specs.declared.function.Import.{Import}
use Rattle.beam_model.specs.declared.instruction.Argument.{Argument}
use Rattle.beam_model.specs.declared.instruction.Instruction.{Instruction}
use Rattle.beam_model.specs.declared.instruction.Operand.{Operand}
use Rattle.beam_model.specs.declared.native.Binary.{Binary}
use Rattle.beam_model.specs.declared.native.Native.{Native}
use Rattle.beam_model.specs.declared.native.Nullary.{Nullary}
use Rattle.beam_model.specs.declared.native.Unary.{Unary}
use Rattle.beam_model.specs.declared.opcode.Kind.{Kind}
use Rattle.beam_model.specs.Prelude.{is_value, y_in, ys_in, labels_in as labels_named, label_of_argument, is_choice, is_size, are_choices, is_register as is_register_in, row_of_label, is_among, is_within, is_known, is_native, is_defined, is_defined_in, is_argument_defined, is_label_operand, is_source_operand, is_register_operand, is_number_operand, is_arity, is_frame_size, is_atom_operand, is_import_operand, is_list_operand, all_operands, look_up, nullary_names, unary_names, binary_names, native_named, is_built_in, allowed, is_erlang, built_in_of, Shape}
use Rattle.beam_term.specs.Prelude.{atom_term}
use Rattle.beam_model.specs.declared.instruction.Argument.TheVariants as argument
use Rattle.beam_model.specs.declared.instruction.Operand.TheVariants as operand
use Rattle.beam_model.specs.declared.native.Native.TheVariants as native
use Rattle.beam_machine.specs.declared.action.Action.{Action}
use Rattle.beam_machine.specs.declared.action.Choice.{Choice}
use Rattle.beam_machine.specs.declared.action.Register.{Register}
use Rattle.beam_machine.specs.declared.action.SizeChoice.{SizeChoice}
use Rattle.beam_machine.specs.declared.action.Source.{Source}
use Rattle.beam_machine.specs.declared.action.Update.{Update}
use Rattle.beam_machine.specs.Prelude.{source_by, source_in, register_by, register_in, label_in, number_in, atom_in, import_in, before, all_by, choices_in, size_choices_in, choice, update, updates_in, given, illegal_action, Process}
use Rattle.beam_machine.specs.declared.action.Register.TheVariants as register
use Rattle.beam_machine.specs.declared.action.Source.TheVariants as source
use Rattle.beam_shape_laws.specs.Finds.{newest, HasValue}
use Rattle.beam_shape_laws.specs.Shaped.{HasShape}
use Rattle.beam_shape_laws.proofs.Standing.{read_there}
use Rattle.beam_shape_laws.proofs.Actions.{y_of}
use Rattle.beam_shape_laws.proofs.Small.{in_parts}

-- ---- operands, one by one

-- the operand is of its kind and within the limits, a native is known, and a label defined
abbrev pub IsGood : List ℕ → Kind → Operand → Type 0
IsGood defined k o = (is_within k o ≡ true) × (is_known k o ≡ true) × (is_defined defined k o ≡ true)

abbrev pub AreGood : List ℕ → List Kind → List Operand → Type 0
AreGood defined [] [] = Unit {0}
AreGood defined (k ∷ ks) (o ∷ os) = IsGood defined k o × AreGood defined ks os
AreGood defined _ _ = ⊥

abbrev Pass : (Kind → Operand → Bool) → List Kind → List Operand → Type 0
Pass test ks os = list_all (λ (p : Kind × Operand). test p.0 p.1) (zip ks os) ≡ true

module _ (defined : List ℕ) where
  each_good : (ks : List Kind) (os : List Operand) → length ks ≡ length os → Pass is_within ks os → Pass is_known ks os → Pass (is_defined defined) ks os → AreGood defined ks os
  each_good [] [] e a b c = tt
  each_good [] (o ∷ os) e a b c = absurd (omega (arith, e))
  each_good (k ∷ ks) [] e a b c = absurd (omega (arith, e))
  each_good (k ∷ ks) (o ∷ os) e a b c =
      let x = and_parts (is_within k o) (list_all (λ (p : Kind × Operand). is_within p.0 p.1) (zip ks os)) a in
      let y = and_parts (is_known k o) (list_all (λ (p : Kind × Operand). is_known p.0 p.1) (zip ks os)) b in
      let z = and_parts (is_defined defined k o) (list_all (λ (p : Kind × Operand). is_defined defined p.0 p.1) (zip ks os)) c in
      ((x.0, y.0, z.0), each_good ks os (omega (arith, e)) x.1 y.1 z.1)

  pub all_good : (ks : List Kind) (os : List Operand) → all_operands is_within ks os ≡ true → all_operands is_known ks os ≡ true → all_operands (is_defined defined) ks os ≡ true → AreGood defined ks os
  all_good ks os a b c =
      let many : Bool = length ks == length os in
      let x = and_parts many (list_all (λ (p : Kind × Operand). is_within p.0 p.1) (zip ks os)) a in
      let y = and_parts many (list_all (λ (p : Kind × Operand). is_known p.0 p.1) (zip ks os)) b in
      let z = and_parts many (list_all (λ (p : Kind × Operand). is_defined defined p.0 p.1) (zip ks os)) c in
      each_good ks os (eqb-true (length ks) (length os) x.0) x.1 y.1 z.1

  -- ---- as many operands as kinds

  pub none : (P : List Operand → Type 0) → P [] → (os : List Operand) → AreGood defined [] os → P os
  none P k [] g = k
  none P k (o ∷ os) g = absurd g

  pub one : (P : List Operand → Type 0) (a : Kind) → ((o : Operand) → IsGood defined a o → P (o ∷ [])) → (os : List Operand) → AreGood defined (a ∷ []) os → P os
  one P a k [] g = absurd g
  one P a k (o ∷ os) g = none (λ os. P (o ∷ os)) (k o g.0) os g.1

  pub two : (P : List Operand → Type 0) (a b : Kind) → ((o q : Operand) → IsGood defined a o → IsGood defined b q → P (o ∷ q ∷ [])) → (os : List Operand) → AreGood defined (a ∷ b ∷ []) os → P os
  two P a b k [] g = absurd g
  two P a b k (o ∷ os) g = one (λ os. P (o ∷ os)) b (λ q. k o q g.0) os g.1

  pub three : (P : List Operand → Type 0) (a b c : Kind) → ((o q r : Operand) → IsGood defined a o → IsGood defined b q → IsGood defined c r → P (o ∷ q ∷ r ∷ []))
      → (os : List Operand) → AreGood defined (a ∷ b ∷ c ∷ []) os → P os
  three P a b c k [] g = absurd g
  three P a b c k (o ∷ os) g = two (λ os. P (o ∷ os)) b c (λ q r. k o q r g.0) os g.1

  pub four : (P : List Operand → Type 0) (a b c d : Kind) → ((o q r t : Operand) → IsGood defined a o → IsGood defined b q → IsGood defined c r → IsGood defined d t → P (o ∷ q ∷ r ∷ t ∷ []))
      → (os : List Operand) → AreGood defined (a ∷ b ∷ c ∷ d ∷ []) os → P os
  four P a b c d k [] g = absurd g
  four P a b c d k (o ∷ os) g = three (λ os. P (o ∷ os)) b c d (λ q r t. k o q r t g.0) os g.1

  pub five : (P : List Operand → Type 0) (a b c d e : Kind)
      → ((o q r t u : Operand) → IsGood defined a o → IsGood defined b q → IsGood defined c r → IsGood defined d t → IsGood defined e u → P (o ∷ q ∷ r ∷ t ∷ u ∷ []))
      → (os : List Operand) → AreGood defined (a ∷ b ∷ c ∷ d ∷ e ∷ []) os → P os
  five P a b c d e k [] g = absurd g
  five P a b c d e k (o ∷ os) g = four (λ os. P (o ∷ os)) b c d e (λ q r t u. k o q r t u g.0) os g.1

  pub six : (P : List Operand → Type 0) (a b c d e f : Kind)
      → ((o q r t u v : Operand) → IsGood defined a o → IsGood defined b q → IsGood defined c r → IsGood defined d t → IsGood defined e u → IsGood defined f v → P (o ∷ q ∷ r ∷ t ∷ u ∷ v ∷ []))
      → (os : List Operand) → AreGood defined (a ∷ b ∷ c ∷ d ∷ e ∷ f ∷ []) os → P os
  six P a b c d e f k [] g = absurd g
  six P a b c d e f k (o ∷ os) g = five (λ os. P (o ∷ os)) b c d e f (λ q r t u v. k o q r t u v g.0) os g.1

-- ---- numbers, atoms, imports, lists, registers

pub as_number : (P : Operand → Type 0) → ((n : ℕ) → P (operand.One (argument.Number n))) → (o : Operand) → is_number_operand o ≡ true → P o
as_number P k (operand.One (argument.Number n)) e = k n
as_number P k _ e = absurd (true≢false (sym e))

pub as_size : (P : Operand → Type 0) → ((n : ℕ) → P (operand.One (argument.Number n))) → (o : Operand) → is_frame_size o ≡ true → P o
as_size P k (operand.One (argument.Number n)) e = k n
as_size P k _ e = absurd (true≢false (sym e))

pub as_arity : (P : Operand → Type 0) → ((n : ℕ) → P (operand.One (argument.Number n))) → (o : Operand) → is_arity o ≡ true → P o
as_arity P k (operand.One (argument.Number n)) e = k n
as_arity P k _ e = absurd (true≢false (sym e))

pub as_import : (P : Operand → Type 0) → ((i : Import) → P (operand.Import i)) → (o : Operand) → is_import_operand o ≡ true → P o
as_import P k (operand.Import i) e = k i
as_import P k _ e = absurd (true≢false (sym e))

pub as_list : (P : Operand → Type 0) → ((as' : List Argument) → P (operand.List as')) → (o : Operand) → is_list_operand o ≡ true → P o
as_list P k (operand.List as') e = k as'
as_list P k _ e = absurd (true≢false (sym e))

pub as_label : (P : Operand → Type 0) → ((n : ℕ) → P (operand.One (argument.Label n))) → (o : Operand) → is_label_operand o ≡ true → P o
as_label P k (operand.One (argument.Label n)) e = k n
as_label P k _ e = absurd (true≢false (sym e))

pub given_number : (R : Action → Type 0) (o : Operand) (does : ℕ → Action) → is_number_operand o ≡ true → ((n : ℕ) → R (does n)) → R (given (number_in o) does)
given_number R o does e k = as_number (λ o. R (given (number_in o) does)) k o e

pub given_arity : (R : Action → Type 0) (o : Operand) (does : ℕ → Action) → is_arity o ≡ true → ((n : ℕ) → R (does n)) → R (given (number_in o) does)
given_arity R o does e k = as_arity (λ o. R (given (number_in o) does)) k o e

pub given_atom : (R : Action → Type 0) (o : Operand) (does : List ℕ → Action) → is_atom_operand o ≡ true → ((text : List ℕ) → R (does text)) → R (given (atom_in o) does)
given_atom R (operand.One (argument.Term (atom_term text))) does e k = k text
given_atom R _ does e k = absurd (true≢false (sym e))

pub given_import : (R : Action → Type 0) (o : Operand) (does : Import → Action) → is_import_operand o ≡ true → ((i : Import) → R (does i)) → R (given (import_in o) does)
given_import R o does e k = as_import (λ o. R (given (import_in o) does)) k o e

pub given_register : (R : Action → Type 0) (o : Operand) (does : Register → Action) → is_register_operand o ≡ true → ((d : Register) → ys_in o ≡ y_of d → R (does d)) → R (given (register_in o) does)
given_register R (operand.One (argument.X n)) does e k = k (register.X n) refl
given_register R (operand.One (argument.Y n)) does e k = k (register.Y n) refl
given_register R _ does e k = absurd (true≢false (sym e))

-- ---- sources

module _ (instance : ℕ) (instrs : List Instruction) (s : Shape) (p : Process) (has : HasShape instance instrs s (newest p.frames)) where
  pub value_there : (n : ℕ) (rest : List ℕ) → (is_value s n && list_all (is_value s) rest) ≡ true → HasValue p (source.Y n) × (list_all (is_value s) rest ≡ true)
  value_there n rest e =
      let both = and_parts (is_value s n) (list_all (is_value s) rest) e in
      (read_there instance instrs s p.frames n has both.0, both.1)

  pub given_source : (R : Action → Type 0) (o : Operand) (rest : List ℕ) (does : Source → Action) → is_source_operand o ≡ true → list_all (is_value s) (ys_in o ++ rest) ≡ true
      → ((v : Source) → HasValue p v → list_all (is_value s) rest ≡ true → R (does v)) → R (given (source_in o) does)
  given_source R (operand.One (argument.Term t)) rest does e h k = k (source.Constant t) refl h
  given_source R (operand.One (argument.X n)) rest does e h k = k (source.X n) refl h
  given_source R (operand.One (argument.Y n)) rest does e h k = let both = value_there n rest h in k (source.Y n) both.0 both.1
  given_source R _ rest does e h k = absurd (true≢false (sym e))

  -- ---- lists

  abbrev pub AreRead : List Source → Type 0
  AreRead vs = AllByRecursion (HasValue p) vs

  abbrev IsRead : Option Source → Type 0
  IsRead None = Unit {0}
  IsRead (Some v) = HasValue p v

  argument_read : (a : Argument) (rest : List ℕ) → list_all (is_value s) (y_in a ++ rest) ≡ true → IsRead (source_by a) × (list_all (is_value s) rest ≡ true)
  argument_read (argument.Term t) rest h = (refl, h)
  argument_read (argument.X n) rest h = (refl, h)
  argument_read (argument.Y n) rest h = value_there n rest h
  argument_read (argument.Label n) rest h = (tt, h)
  argument_read (argument.Number n) rest h = (tt, h)

  abbrev AreReadIf : Option (List Source) → Type 0
  AreReadIf None = Unit {0}
  AreReadIf (Some vs) = AreRead vs

  read_before : (o : Option Source) (r : Option (List Source)) → IsRead o → AreReadIf r → AreReadIf (before o r)
  read_before None r h k = tt
  read_before (Some v) None h k = tt
  read_before (Some v) (Some vs) h k = (h, k)

  all_read : (as' : List Argument) (rest : List ℕ) → list_all (is_value s) (flat_map y_in as' ++ rest) ≡ true → AreReadIf (all_by source_by as')
  all_read [] rest h = tt
  all_read (a ∷ as') rest h =
      let this = argument_read a (flat_map y_in as' ++ rest) (subst (λ ns. list_all (is_value s) ns ≡ true) (append_assoc (y_in a) (flat_map y_in as') rest) h) in
      read_before (source_by a) (all_by source_by as') this.0 (all_read as' rest this.1)

  pub given_elements : (R : Action → Type 0) (as' : List Argument) (rest : List ℕ) (does : List Source → Action) → R illegal_action → list_all (is_value s) (flat_map y_in as' ++ rest) ≡ true
      → ((vs : List Source) → AreRead vs → R (does vs)) → R (given (all_by source_by as') does)
  given_elements R as' rest does w h k = go (all_by source_by as') (all_read as' rest h)
    where
      go : (o : Option (List Source)) → AreReadIf o → R (given o does)
      go None r = w
      go (Some vs) r = k vs r

  -- updates: positions and values

  abbrev AreUpdatesRead : Option (List Update) → Type 0
  AreUpdatesRead None = Unit {0}
  AreUpdatesRead (Some us) = AreRead (map (λ u. u.value) us)

  update_before : (n : ℕ) (o : Option Source) (r : Option (List Update)) → IsRead o → AreUpdatesRead r → AreUpdatesRead (before (update n o) r)
  update_before n None r h k = tt
  update_before n (Some v) None h k = tt
  update_before n (Some v) (Some us) h k = (h, k)

  updates_read : (as' : List Argument) (rest : List ℕ) → list_all (is_value s) (flat_map y_in as' ++ rest) ≡ true → AreUpdatesRead (updates_in as')
  updates_read [] rest h = tt
  updates_read (argument.Number n ∷ a ∷ as') rest h =
      let this = argument_read a (flat_map y_in as' ++ rest) (subst (λ ns. list_all (is_value s) ns ≡ true) (append_assoc (y_in a) (flat_map y_in as') rest) h) in
      update_before n (source_by a) (updates_in as') this.0 (updates_read as' rest this.1)
  updates_read _ rest h = tt

  pub given_updates : (R : Action → Type 0) (as' : List Argument) (rest : List ℕ) (does : List Update → Action) → R illegal_action → list_all (is_value s) (flat_map y_in as' ++ rest) ≡ true
      → ((us : List Update) → AreRead (map (λ u. u.value) us) → R (does us)) → R (given (updates_in as') does)
  given_updates R as' rest does w h k = go (updates_in as') (updates_read as' rest h)
    where
      go : (o : Option (List Update)) → AreUpdatesRead o → R (given o does)
      go None r = w
      go (Some us) r = k us r

-- ---- labels

positive : (n : ℕ) → nat_lt 0 n ≡ true → (n == 0) ≡ false
positive n e = grind (arith, nat_tests)

module _ (instrs : List Instruction) (defined : List ℕ) (reach : ℕ → Bool) (Reached : Option ℕ → Type 0) (lands : (n : ℕ) → reach n ≡ true → Reached (row_of_label n 0 instrs)) where
  label_reached : (n : ℕ) (rest : List ℕ) → is_argument_defined defined (argument.Label n) ≡ true → list_all reach (label_of_argument (argument.Label n) ++ rest) ≡ true
      → Reached (row_of_label n 0 instrs) × (list_all reach rest ≡ true)
  label_reached n rest d h =
      let above = and_parts (nat_lt 0 n) (is_among n defined) d in
      let both = and_parts (reach n) (list_all reach rest) (subst (λ b. list_all reach (cond b [] (n ∷ []) ++ rest) ≡ true) (positive n above.0) h) in
      (lands n both.0, both.1)

  pub given_label : (R : Action → Type 0) (o : Operand) (rest : List ℕ) (does : ℕ → Action) → is_label_operand o ≡ true → is_defined_in defined o ≡ true → list_all reach (labels_named o ++ rest) ≡ true
      → ((n : ℕ) → Reached (row_of_label n 0 instrs) → list_all reach rest ≡ true → R (does n)) → R (given (label_in o) does)
  given_label R (operand.One (argument.Label n)) rest does e d h k = let both = label_reached n rest d h in k n both.0 both.1
  given_label R _ rest does e d h k = absurd (true≢false (sym e))

  -- ---- choices

  module _ (instance : ℕ) (s : Shape) (p : Process) (has : HasShape instance instrs s (newest p.frames)) where
    abbrev pub AreChoices : List Choice → Type 0
    AreChoices cs = AreRead instance instrs s p has (map (λ c. c.value) cs) × AllByRecursion (λ c. Reached c.target) cs

    abbrev AreChoicesIf : Option (List Choice) → Type 0
    AreChoicesIf None = Unit {0}
    AreChoicesIf (Some cs) = AreChoices cs

    choice_before : (n : ℕ) (o : Option Source) (r : Option (List Choice)) → IsRead instance instrs s p has o → Reached (row_of_label n 0 instrs) → AreChoicesIf r → AreChoicesIf (before (choice instrs o n) r)
    choice_before n None r h k c = tt
    choice_before n (Some v) None h k c = tt
    choice_before n (Some v) (Some cs) h k c = ((h, c.0), (k, c.1))

    choices_read : (as' : List Argument) (rest more : List ℕ) → list_all (is_argument_defined defined) as' ≡ true → list_all (is_value s) (flat_map y_in as' ++ rest) ≡ true
        → list_all reach (flat_map label_of_argument as' ++ more) ≡ true → AreChoicesIf (choices_in instrs as')
    choices_read [] rest more d h r = (tt, tt)
    choices_read (a ∷ argument.Label n ∷ as') rest more d h r =
        let def = and_parts (is_argument_defined defined a) (is_argument_defined defined (argument.Label n) && list_all (is_argument_defined defined) as') d in
        let def' = and_parts (is_argument_defined defined (argument.Label n)) (list_all (is_argument_defined defined) as') def.1 in
        let this = argument_read instance instrs s p has a (flat_map y_in as' ++ rest) (subst (λ ns. list_all (is_value s) ns ≡ true) (append_assoc (y_in a) (flat_map y_in as') rest) h) in
        let behind = in_parts reach (label_of_argument a) ((label_of_argument (argument.Label n) ++ flat_map label_of_argument as') ++ more)
        (subst (λ ns. list_all reach ns ≡ true) (append_assoc (label_of_argument a) (label_of_argument (argument.Label n) ++ flat_map label_of_argument as') more) r) in
        let there = label_reached n (flat_map label_of_argument as' ++ more) def'.0 (subst (λ ns. list_all reach ns ≡ true) (append_assoc (label_of_argument (argument.Label n)) (flat_map label_of_argument as') more) behind.1) in
        choice_before n (source_by a) (choices_in instrs as') this.0 there.0 (choices_read as' rest more def'.1 this.1 there.1)
    choices_read _ rest more d h r = tt

    some_source : (a : Argument) → is_choice a ≡ true → is_some (source_by a) ≡ true
    some_source (argument.Term t) e = refl
    some_source (argument.X n) e = refl
    some_source (argument.Y n) e = refl
    some_source _ e = absurd (true≢false (sym e))

    some_before : (n : ℕ) (o : Option Source) (r : Option (List Choice)) → is_some o ≡ true → is_some r ≡ true → is_some (before (choice instrs o n) r) ≡ true
    some_before n None r e f = e
    some_before n (Some v) None e f = f
    some_before n (Some v) (Some cs) e f = refl

    some_choices : (as' : List Argument) → are_choices is_choice as' ≡ true → is_some (choices_in instrs as') ≡ true
    some_choices [] e = refl
    some_choices (a ∷ argument.Label n ∷ as') e =
        let both = and_parts (is_choice a) (are_choices is_choice as') e in
        some_before n (source_by a) (choices_in instrs as') (some_source a both.0) (some_choices as' both.1)
    some_choices _ e = absurd (true≢false (sym e))

    pub given_choices : (R : Action → Type 0) (as' : List Argument) (rest more : List ℕ) (does : List Choice → Action) → (not (are_choices is_choice as') ≡ true → R illegal_action)
        → list_all (is_argument_defined defined) as' ≡ true → list_all (is_value s) (flat_map y_in as' ++ rest) ≡ true
        → list_all reach (flat_map label_of_argument as' ++ more) ≡ true → ((cs : List Choice) → AreChoices cs → R (does cs)) → R (given (choices_in instrs as') does)
    given_choices R as' rest more does w d h r k = go (choices_in instrs as') (choices_read as' rest more d h r) (some_choices as') (are_choices is_choice as') refl
      where
        go : (o : Option (List Choice)) → AreChoicesIf o → (are_choices is_choice as' ≡ true → is_some o ≡ true) → (b : Bool) → are_choices is_choice as' ≡ b → R (given o does)
        go None c t true e = absurd (true≢false (sym (t e)))
        go None c t false e = w (ap not e)
        go (Some cs) c t b e = k cs c

  -- ---- choices by size

  abbrev pub AreSizes : List SizeChoice → Type 0
  AreSizes cs = AllByRecursion (λ c. Reached c.target) cs

  abbrev AreSizesIf : Option (List SizeChoice) → Type 0
  AreSizesIf None = Unit {0}
  AreSizesIf (Some cs) = AreSizes cs

  size_before : (size n : ℕ) (r : Option (List SizeChoice)) → Reached (row_of_label n 0 instrs) → AreSizesIf r → AreSizesIf (before (Some (record { size = size; target = row_of_label n 0 instrs })) r)
  size_before size n None k c = tt
  size_before size n (Some cs) k c = (k, c)

  sizes_read : (as' : List Argument) (more : List ℕ) → list_all (is_argument_defined defined) as' ≡ true → list_all reach (flat_map label_of_argument as' ++ more) ≡ true → AreSizesIf (size_choices_in instrs as')
  sizes_read [] more d r = tt
  sizes_read (argument.Number size ∷ argument.Label n ∷ as') more d r =
      let def = and_parts (is_argument_defined defined (argument.Label n)) (list_all (is_argument_defined defined) as') d in
      let there = label_reached n (flat_map label_of_argument as' ++ more) def.0 (subst (λ ns. list_all reach ns ≡ true) (append_assoc (label_of_argument (argument.Label n)) (flat_map label_of_argument as') more) r) in
      size_before size n (size_choices_in instrs as') there.0 (sizes_read as' more def.1 there.1)
  sizes_read _ more d r = tt

  size_some : (size n : ℕ) (r : Option (List SizeChoice)) → is_some r ≡ true → is_some (before (Some (record { size = size; target = row_of_label n 0 instrs })) r) ≡ true
  size_some size n None e = e
  size_some size n (Some cs) e = refl

  some_sizes : (as' : List Argument) → are_choices is_size as' ≡ true → is_some (size_choices_in instrs as') ≡ true
  some_sizes [] e = refl
  some_sizes (argument.Number size ∷ argument.Label n ∷ as') e = size_some size n (size_choices_in instrs as') (some_sizes as' e)
  some_sizes (a ∷ argument.Label n ∷ as') e = absurd (true≢false (sym e))
  some_sizes _ e = absurd (true≢false (sym e))

  pub given_sizes : (R : Action → Type 0) (as' : List Argument) (more : List ℕ) (does : List SizeChoice → Action) → (not (are_choices is_size as') ≡ true → R illegal_action)
      → list_all (is_argument_defined defined) as' ≡ true → list_all reach (flat_map label_of_argument as' ++ more) ≡ true → ((cs : List SizeChoice) → AreSizes cs → R (does cs))
      → R (given (size_choices_in instrs as') does)
  given_sizes R as' more does w d r k = go (size_choices_in instrs as') (sizes_read as' more d r) (some_sizes as') (are_choices is_size as') refl
    where
      go : (o : Option (List SizeChoice)) → AreSizesIf o → (are_choices is_size as' ≡ true → is_some o ≡ true) → (b : Bool) → are_choices is_size as' ≡ b → R (given o does)
      go None c t true e = absurd (true≢false (sym (t e)))
      go None c t false e = w (ap not e)
      go (Some cs) c t b e = k cs c

-- ---- lists that aren't choices

no_source : (a : Argument) → is_choice a ≡ false → source_by a ≡ None
no_source (argument.Term t) e = absurd (true≢false e)
no_source (argument.X n) e = absurd (true≢false e)
no_source (argument.Y n) e = absurd (true≢false e)
no_source _ e = refl

before_none : {A : Type 0} (o : Option A) → before o None ≡ None
before_none None = refl
before_none (Some x) = refl

pub no_choices : (instrs : List Instruction) (as' : List Argument) → are_choices is_choice as' ≡ false → choices_in instrs as' ≡ None
no_choices instrs [] e = absurd (true≢false e)
no_choices instrs (a ∷ argument.Label n ∷ as') e = at (no_choices instrs as') (is_choice a) refl e
  where
    at : (are_choices is_choice as' ≡ false → choices_in instrs as' ≡ None) → (b : Bool) → is_choice a ≡ b → (b && are_choices is_choice as') ≡ false
        → before (choice instrs (source_by a) n) (choices_in instrs as') ≡ None
    at more true f e = ap (before (choice instrs (source_by a) n)) (more e) ∙ before_none (choice instrs (source_by a) n)
    at more false f e = ap (λ o. before (choice instrs o n) (choices_in instrs as')) (no_source a f)
no_choices instrs _ e = refl

pub no_sizes : (instrs : List Instruction) (as' : List Argument) → are_choices is_size as' ≡ false → size_choices_in instrs as' ≡ None
no_sizes instrs [] e = absurd (true≢false e)
no_sizes instrs (argument.Number size ∷ argument.Label n ∷ as') e = ap (before (Some (record { size = size; target = row_of_label n 0 instrs }))) (no_sizes instrs as' e)
no_sizes instrs _ e = refl

-- ---- lists of registers

abbrev AreRegisters : List Argument → Option (List Register) → Type 0
AreRegisters as' None = list_all is_register_in as' ≡ false
AreRegisters as' (Some rs) = flat_map y_in as' ≡ flat_map y_of rs

registers_before : (as' : List Argument) (r : Option (List Register)) (a : Argument) (d : Register) → y_in a ≡ y_of d → is_register_in a ≡ true → AreRegisters as' r → AreRegisters (a ∷ as') (before (Some d) r)
registers_before as' None a d e b k = ap (λ c. c && list_all is_register_in as') b ∙ k
registers_before as' (Some rs) a d e b k = ap (λ ns. ns ++ flat_map y_in as') e ∙ ap (λ ns. y_of d ++ ns) k

registers_are : (as' : List Argument) → AreRegisters as' (all_by register_by as')
registers_are [] = refl
registers_are (argument.X n ∷ as') = registers_before as' (all_by register_by as') (argument.X n) (register.X n) refl refl (registers_are as')
registers_are (argument.Y n ∷ as') = registers_before as' (all_by register_by as') (argument.Y n) (register.Y n) refl refl (registers_are as')
registers_are (argument.Term t ∷ as') = refl
registers_are (argument.Label n ∷ as') = refl
registers_are (argument.Number n ∷ as') = refl

pub given_registers : (R : Action → Type 0) (as' : List Argument) (does : List Register → Action) → (not (list_all is_register_in as') ≡ true → R illegal_action)
    → ((rs : List Register) → flat_map y_in as' ≡ flat_map y_of rs → R (does rs)) → R (given (all_by register_by as') does)
given_registers R as' does w k = go (all_by register_by as') (registers_are as')
  where
    go : (o : Option (List Register)) → AreRegisters as' o → R (given o does)
    go None e = w (ap not e)
    go (Some rs) e = k rs e

-- ---- natives

abbrev pub IsNullary : Option Native → Type 0
IsNullary o = (f : Nullary) × (o ≡ Some (native.Nullary f))

abbrev pub IsUnary : Option Native → Type 0
IsUnary o = (f : Unary) × (o ≡ Some (native.Unary f))

abbrev pub IsBinary : Option Native → Type 0
IsBinary o = (f : Binary) × (o ≡ Some (native.Binary f))

only_some : {A : Type 0} (b : Bool) (x : A) → is_some (cond b (Some x) None) ≡ true → cond b (Some x) None ≡ Some x
only_some true x e = refl
only_some false x e = absurd (true≢false (sym e))

nullary_of : (o : Option Nullary) → is_some (option_and_then allowed (option_map native.Nullary o)) ≡ true → IsNullary (option_and_then allowed (option_map native.Nullary o))
nullary_of None e = absurd (true≢false (sym e))
nullary_of (Some f) e = (f, refl)

unary_of : (o : Option Unary) → is_some (option_and_then allowed (option_map native.Unary o)) ≡ true → IsUnary (option_and_then allowed (option_map native.Unary o))
unary_of None e = absurd (true≢false (sym e))
unary_of (Some f) e = (f, only_some (is_built_in (native.Unary f)) (native.Unary f) e)

binary_of : (o : Option Binary) → is_some (option_and_then allowed (option_map native.Binary o)) ≡ true → IsBinary (option_and_then allowed (option_map native.Binary o))
binary_of None e = absurd (true≢false (sym e))
binary_of (Some f) e = (f, only_some (is_built_in (native.Binary f)) (native.Binary f) e)

named_0 : (name : List ℕ) → native_named name 0 ≡ option_map native.Nullary (look_up name nullary_names)
named_0 name = refl

named_1 : (name : List ℕ) → native_named name 1 ≡ option_map native.Unary (look_up name unary_names)
named_1 name = refl

named_2 : (name : List ℕ) → native_named name 2 ≡ option_map native.Binary (look_up name binary_names)
named_2 name = refl

-- the native of that name, where an instruction may call it
abbrev Named : List ℕ → ℕ → Option Native
Named name n = option_and_then allowed (native_named name n)

known_in : (Q : Option Native → Type 0) (i : Import) (n : ℕ) → (is_some (Named i.function n) ≡ true → Q (Named i.function n)) → is_native n (operand.Import i) ≡ true → Q (built_in_of i)
unfolding built_in_of
known_in Q i n k e =
    let both = and_parts (is_some (built_in_of i)) (i.arity == n) e in
    go (is_erlang i.«module») (subst (λ m. is_some (Named i.function m) ≡ true → Q (Named i.function m)) (sym (eqb-true i.arity n both.1)) k) both.0
  where
    go : (b : Bool) → (is_some (Named i.function i.arity) ≡ true → Q (Named i.function i.arity)) → is_some (cond b (Named i.function i.arity) None) ≡ true → Q (cond b (Named i.function i.arity) None)
    go true k e = k e
    go false k e = absurd (true≢false (sym e))

pub nullary_known : (i : Import) → is_native 0 (operand.Import i) ≡ true → IsNullary (built_in_of i)
nullary_known i e = known_in IsNullary i 0 (nullary_of (look_up i.function nullary_names)) e

pub unary_known : (i : Import) → is_native 1 (operand.Import i) ≡ true → IsUnary (built_in_of i)
unary_known i e = known_in IsUnary i 1 (unary_of (look_up i.function unary_names)) e

pub binary_known : (i : Import) → is_native 2 (operand.Import i) ≡ true → IsBinary (built_in_of i)
binary_known i e = known_in IsBinary i 2 (binary_of (look_up i.function binary_names)) e
