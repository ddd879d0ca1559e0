-- The form of an instruction is read as that instruction.
use Rattle.std.proofs.Common.{◌≡◌, ◌≢◌, inl, inr, ◌⊎◌, ℕ, Bool, true, false, List, [], ◌∷◌, ◌++◌, length, Option, Some, refl, sym, ap, subst, ◌∙◌, arith, codes, ◌==◌, not, eqb-true, length-append}
use Rattle.std.proofs.lemmas.Bool.{and_parts}
use Rattle.beam_lemmas.proofs.SameText.{text_is}
use Rattle.beam_model.specs.declared.instruction.Operand.{Operand}
use Rattle.beam_model.specs.declared.instruction.Instruction.{Instruction}
use Rattle.beam_model.specs.declared.item.Item.{Item}
use Rattle.beam_model.specs.declared.opcode.Opcode.{Opcode}
use Rattle.beam_model.specs.declared.opcode.Kind.{Kind}
use Rattle.beam_model.specs.Prelude.{same_text, shape_of, name_of, kinds_of, headed_of, is_plain_shape, is_test_shape, plain_of, test_of, raise_by, raise_of_text, counted, bif0_of, bif_by, is_raise_call, bif_of, gc_bif_of, line_instruction, instruction_by, item_by, bare_item, item_of}
use Rattle.beam_model.specs.declared.instruction.Operand.TheVariants as operand
use Rattle.beam_model.specs.declared.item.Item.TheVariants as item
use Rattle.beam_model.specs.declared.opcode.Opcode.TheVariants as op
use Rattle.beam_model.specs.declared.opcode.Kind.TheVariants as kind
use Rattle.beam_model.specs.declared.shape.Shape.{Shape}
use Rattle.beam_model.specs.declared.shape.Shape.TheVariants as shape
use Rattle.beam_model.specs.ListingForms.{is_end}
use Rattle.beam_listing.specs.Prelude.{AreListed, IsAtom, IsHeaded, IsLabel, IsCall, IsPlainForm, IsTestForm, IsBif0Form, IsBifForm, IsGcBifForm, IsRaiseBif, IsRaiseForm, IsLineForm, IsShaped, IsInstructionForm}
use Rattle.beam_listing.specs.OperandForm.{AreOperands}
use Rattle.beam_listing.proofs.Bracketed.{list_read}
use Rattle.beam_listing.proofs.Names.{named_again}
use Rattle.beam_listing.proofs.OperandMeans.{letter, label_read, operands_read}
use Rattle.beam_listing.proofs.PartMeans.{atom_read, headed_read, braced}
use Rattle.beam_listing.proofs.Written.{made, is_special, either_true, plain_names, plain_item, as_item, headed_item}

abbrev found : Instruction → Option Item
found i = Some (item.Instruction i)

-- a form in braces is read by its name
pub item_read : (form name part : List ℕ) (parts : List (List ℕ)) (x : Item) → IsHeaded name (part ∷ parts) form → item_by name (part ∷ parts) ≡ Some x → item_of form ≡ Some x
item_read form name part parts x is e =
    let b = braced name (part ∷ parts) form is in
    ap item_of b.parts ∙ headed_item b.others name (part ∷ parts) (ap headed_of (sym b.parts) ∙ headed_read form name part parts is) ∙ e

-- ---- a name and operands

goes_on : (o : Opcode) → o ≢ op.IntCodeEnd → is_end o ≡ false
goes_on op.IntCodeEnd h = absurd (h refl)
goes_on _ h = refl

plain_read : (i : Instruction) (parts : List (List ℕ)) → i.opcode ≢ op.IntCodeEnd → is_plain_shape (shape_of i.opcode) ≡ true → AreOperands (kinds_of i.opcode) i.operands parts
    → plain_of (name_of i.opcode) parts ≡ Some i
unfolding plain_of
plain_read i parts goes plain are =
    let ends = goes_on i.opcode goes in
    rw (named_again i.opcode, ends, plain, operands_read [] i.operands (kinds_of i.opcode) parts are) refl

letter_item : (c : ℕ) (cs : List ℕ) → (c == 123) ≡ false → item_of (c ∷ cs) ≡ bare_item (c ∷ cs)
unfolding item_of
letter_item c cs e = rw e refl

bare_read : (name form : List ℕ) (i : Instruction) → IsAtom name form → plain_of name [] ≡ Some i → bare_item form ≡ found i
unfolding bare_item
bare_read name form i is e = rw (atom_read form name is, e) refl

named_read : (i : Instruction) (part : List ℕ) (parts : List (List ℕ)) → is_plain_shape (shape_of i.opcode) ≡ true → plain_of (name_of i.opcode) (part ∷ parts) ≡ Some i
    → item_by (name_of i.opcode) (part ∷ parts) ≡ found i
unfolding as_item
named_read i part parts plain e =
    plain_item (name_of i.opcode) (part ∷ parts) (either_true (is_plain_shape (shape_of i.opcode)) (not (is_special (name_of i.opcode))) (plain_names i.opcode) plain) ∙ ap as_item e

call_read : (i : Instruction) (form : List ℕ) (parts : List (List ℕ)) → is_plain_shape (shape_of i.opcode) ≡ true → IsCall (name_of i.opcode) parts form → plain_of (name_of i.opcode) parts ≡ Some i
    → item_of form ≡ found i
call_read i form [] plain is e =
    let l = letter (name_of i.opcode) form is in
    ap item_of l.parts ∙ letter_item l.first l.others l.brace ∙ ap bare_item (sym l.parts) ∙ bare_read (name_of i.opcode) form i is e
call_read i form (part ∷ parts) plain is e = item_read form (name_of i.opcode) part parts (item.Instruction i) is (named_read i part parts plain e)

plain_form : (i : Instruction) (form : List ℕ) → shape_of i.opcode ≡ shape.Plain → IsPlainForm i form → item_of form ≡ found i
plain_form i form e is =
    let plain : is_plain_shape (shape_of i.opcode) ≡ true = ap is_plain_shape e in
    call_read i form is.parts plain is.is_call (plain_read i is.parts is.goes_on plain is.are_operands)

-- ---- tests

test_read : (i : Instruction) (form : List ℕ) (is : IsTestForm i form) → is_test_shape (shape_of i.opcode) ≡ true → test_of (is.name ∷ is.fail ∷ is.list ∷ []) ≡ Some i
unfolding test_of
test_read i form is test =
    rw (atom_read is.name (name_of i.opcode) is.is_name, named_again i.opcode, list_read is.arguments is.list is.are_arguments, test, operands_read [] i.operands (kinds_of i.opcode) (is.fail ∷ is.arguments) is.are_operands) refl

test_item : (parts : List (List ℕ)) (i : Instruction) → test_of parts ≡ Some i → item_by (codes "test") parts ≡ found i
unfolding item_by instruction_by
test_item parts i e = rw e refl

test_form : (i : Instruction) (form : List ℕ) → shape_of i.opcode ≡ shape.Test → IsTestForm i form → item_of form ≡ found i
test_form i form e is =
    item_read form (codes "test") is.name (is.fail ∷ is.list ∷ []) (item.Instruction i) is.in_braces (test_item (is.name ∷ is.fail ∷ is.list ∷ []) i (test_read i form is (ap is_test_shape e)))

-- ---- the opcodes of the other shapes

raise_opcode : (o : Opcode) → shape_of o ≡ shape.Raise → o ≡ op.Raise
raise_opcode op.Raise e = refl
raise_opcode _ e = absurd cc

bif0_opcode : (o : Opcode) → shape_of o ≡ shape.Bif0 → o ≡ op.Bif0
bif0_opcode op.Bif0 e = refl
bif0_opcode _ e = absurd cc

bif_opcode : (o : Opcode) → shape_of o ≡ shape.Bif → (o ≡ op.Bif1) ⊎ (o ≡ op.Bif2)
bif_opcode op.Bif1 e = inl refl
bif_opcode op.Bif2 e = inr refl
bif_opcode _ e = absurd cc

gc_bif_opcode : (o : Opcode) → shape_of o ≡ shape.GcBif → (o ≡ op.GcBif1) ⊎ (o ≡ op.GcBif2)
gc_bif_opcode op.GcBif1 e = inl refl
gc_bif_opcode op.GcBif2 e = inr refl
gc_bif_opcode _ e = absurd cc

-- as many texts as kinds
count_read : (ks : List Kind) (os : List Operand) (texts : List (List ℕ)) → AreOperands ks os texts → length texts ≡ length ks
count_read [] [] [] are = refl
count_read (k ∷ ks) (o ∷ os) (text ∷ texts) are = omega (arith, count_read ks os texts are.1)
count_read _ _ _ are = absurd are

-- an instruction by the opcode that it has
by_opcode : (P : Instruction → Type 0) (i : Instruction) (o : Opcode) → i.opcode ≡ o → P (made o i.operands) → P i
by_opcode P i o e is = subst (λ (p : Opcode). P (made p i.operands)) (sym e) is

-- the operands of an opcode that an instruction has
moved : (i : Instruction) (o : Opcode) (texts : List (List ℕ)) → i.opcode ≡ o → AreOperands (kinds_of i.opcode) i.operands texts → AreOperands (kinds_of o) i.operands texts
moved i o texts e are = subst (λ (p : Opcode). AreOperands (kinds_of p) i.operands texts) e are

-- ---- raise

raise_by_read : (os : List Operand) (parts : List (List ℕ)) → AreOperands (kinds_of op.Raise) os parts → raise_by parts ≡ Some (made op.Raise os)
unfolding raise_by
raise_by_read os parts are = rw (operands_read [] os (kinds_of op.Raise) parts are) refl

raise_item : (list : List ℕ) (parts : List (List ℕ)) (i : Instruction) → AreListed parts list → raise_by parts ≡ Some i → item_by (codes "raise") (list ∷ []) ≡ found i
unfolding item_by instruction_by raise_of_text
raise_item list parts i are e = rw (list_read parts list are, e) refl

raise_call : (name fail list dest : List ℕ) (parts : List (List ℕ)) (i : Instruction) → IsAtom (codes "raise") name → AreListed parts list → length parts ≡ 2 → raise_by parts ≡ Some i
    → item_by (codes "bif") (name ∷ fail ∷ list ∷ dest ∷ []) ≡ found i
unfolding item_by instruction_by bif_of
raise_call name fail list dest parts i is are count e = rw (atom_read name (codes "raise") is, list_read parts list are, count, e) refl

raise_made : (os : List Operand) (form list : List ℕ) (parts : List (List ℕ)) → IsHeaded (codes "raise") (list ∷ []) form ⊎ IsRaiseBif list form → AreListed parts list
    → AreOperands (kinds_of op.Raise) os parts → item_of form ≡ found (made op.Raise os)
raise_made os form list parts (inl is) are operands =
    item_read form (codes "raise") list [] (item.Instruction (made op.Raise os)) is (raise_item list parts (made op.Raise os) are (raise_by_read os parts operands))
raise_made os form list parts (inr is) are operands =
    item_read form (codes "bif") is.name (is.fail ∷ list ∷ is.dest ∷ []) (item.Instruction (made op.Raise os)) is.in_braces
    (raise_call is.name is.fail list is.dest parts (made op.Raise os) is.is_name are (count_read (kinds_of op.Raise) os parts operands) (raise_by_read os parts operands))

raise_form : (i : Instruction) (form : List ℕ) → shape_of i.opcode ≡ shape.Raise → IsRaiseForm i form → item_of form ≡ found i
raise_form i form e is =
    let o = raise_opcode i.opcode e in
    by_opcode (λ (j : Instruction). item_of form ≡ found j) i op.Raise o (raise_made i.operands form is.list is.arguments is.is_raise is.are_arguments (moved i op.Raise is.arguments o is.are_operands))

-- ---- natives

first_native : (n : ℕ) (ks : List Kind) (os : List Operand) (name : List ℕ) (texts : List (List ℕ)) → AreOperands (kind.Native n ∷ ks) os (name ∷ texts) → (w : List ℕ) × IsAtom w name
first_native n ks (operand.Import i ∷ os) name texts are = (i.function, are.0.is_function)
first_native n ks (operand.One a ∷ os) name texts are = absurd are.0
first_native n ks (operand.List ms ∷ os) name texts are = absurd are.0
first_native n ks [] name texts are = absurd are

second_native : (n : ℕ) (k : Kind) (ks : List Kind) (os : List Operand) (text name : List ℕ) (texts : List (List ℕ)) → AreOperands (k ∷ kind.Native n ∷ ks) os (text ∷ name ∷ texts) → (w : List ℕ) × IsAtom w name
second_native n k ks [] text name texts are = absurd are
second_native n k ks (o ∷ os) text name texts are = first_native n ks os name texts are.1

bif_item : (name fail list dest w : List ℕ) (parts : List (List ℕ)) (i : Instruction) → IsAtom w name → AreListed parts list → is_raise_call w parts ≡ false → bif_by name fail parts dest ≡ Some i
    → item_by (codes "bif") (name ∷ fail ∷ list ∷ dest ∷ []) ≡ found i
unfolding item_by instruction_by bif_of
bif_item name fail list dest w parts i is are other e = rw (atom_read name w is, list_read parts list are, other, e) refl

bif0_read : (name fail dest : List ℕ) (os : List Operand) → IsLabel 0 fail → AreOperands (kinds_of op.Bif0) os (name ∷ dest ∷ []) → bif_by name fail [] dest ≡ Some (made op.Bif0 os)
unfolding bif_by bif0_of
bif0_read name fail dest os label are = rw (label_read fail 0 label, operands_read [] os (kinds_of op.Bif0) (name ∷ dest ∷ []) are) refl

bif0_form : (i : Instruction) (form : List ℕ) → shape_of i.opcode ≡ shape.Bif0 → IsBif0Form i form → item_of form ≡ found i
bif0_form i form e is =
    let o = bif0_opcode i.opcode e in
    let are = moved i op.Bif0 (is.name ∷ is.dest ∷ []) o is.are_operands in
    let native = first_native 0 (kind.Register ∷ []) i.operands is.name (is.dest ∷ []) are in
    by_opcode (λ (j : Instruction). item_of form ≡ found j) i op.Bif0 o
    (item_read form (codes "bif") is.name (is.fail ∷ is.list ∷ is.dest ∷ []) (item.Instruction (made op.Bif0 i.operands)) is.in_braces
    (bif_item is.name is.fail is.list is.dest native.0 [] (made op.Bif0 i.operands) native.1 is.no_arguments refl (bif0_read is.name is.fail is.dest i.operands is.no_fail are)))

bif1_read : (name fail dest : List ℕ) (parts : List (List ℕ)) (os : List Operand) → AreOperands (kinds_of op.Bif1) os (fail ∷ name ∷ (parts ++ (dest ∷ [])))
    → bif_by name fail parts dest ≡ Some (made op.Bif1 os)
unfolding bif_by counted
bif1_read name fail dest (a ∷ []) os are = rw (operands_read [] os (kinds_of op.Bif1) (fail ∷ name ∷ a ∷ dest ∷ []) are) refl
bif1_read name fail dest [] os are = absurd (omega (arith, count_read (kinds_of op.Bif1) os (fail ∷ name ∷ dest ∷ []) are))
bif1_read name fail dest (a ∷ b ∷ cs) os are =
    absurd (omega (arith, count_read (kinds_of op.Bif1) os (fail ∷ name ∷ a ∷ b ∷ (cs ++ (dest ∷ []))) are, length-append cs (dest ∷ [])))

bif2_read : (name fail dest : List ℕ) (parts : List (List ℕ)) (os : List Operand) → AreOperands (kinds_of op.Bif2) os (fail ∷ name ∷ (parts ++ (dest ∷ [])))
    → bif_by name fail parts dest ≡ Some (made op.Bif2 os)
unfolding bif_by counted
bif2_read name fail dest (a ∷ b ∷ []) os are = rw (operands_read [] os (kinds_of op.Bif2) (fail ∷ name ∷ a ∷ b ∷ dest ∷ []) are) refl
bif2_read name fail dest [] os are = absurd (omega (arith, count_read (kinds_of op.Bif2) os (fail ∷ name ∷ dest ∷ []) are))
bif2_read name fail dest (a ∷ []) os are = absurd (omega (arith, count_read (kinds_of op.Bif2) os (fail ∷ name ∷ a ∷ dest ∷ []) are))
bif2_read name fail dest (a ∷ b ∷ c ∷ ds) os are =
    absurd (omega (arith, count_read (kinds_of op.Bif2) os (fail ∷ name ∷ a ∷ b ∷ c ∷ (ds ++ (dest ∷ []))) are, length-append ds (dest ∷ [])))

no_raise_read : (w name : List ℕ) (parts : List (List ℕ)) → IsAtom w name → (length parts ≡ 2 → IsAtom (codes "raise") name → ⊥) → is_raise_call w parts ≡ false
no_raise_read w name parts is none = by (is_raise_call w parts) refl
  where
    by : (b : Bool) → is_raise_call w parts ≡ b → b ≡ false
    by false e = refl
    by true e =
        let both = and_parts (length parts == 2) (same_text w (codes "raise")) e in
        absurd (none (eqb-true (length parts) 2 both.0) (subst (λ (v : List ℕ). IsAtom v name) (text_is w (codes "raise") both.1) is))

bif_made : (i : Instruction) (form : List ℕ) (is : IsBifForm i form) (o : Opcode) (n : ℕ) (k : Kind) (ks : List Kind) → i.opcode ≡ o → kinds_of o ≡ k ∷ kind.Native n ∷ ks
    → bif_by is.name is.fail is.arguments is.dest ≡ Some (made o i.operands) → item_of form ≡ found i
bif_made i form is o n k ks e kinds read =
    let texts : List (List ℕ) = is.arguments ++ (is.dest ∷ []) in
    let are : AreOperands (k ∷ kind.Native n ∷ ks) i.operands (is.fail ∷ is.name ∷ texts) = subst (λ (all : List Kind). AreOperands all i.operands (is.fail ∷ is.name ∷ texts)) kinds (moved i o (is.fail ∷ is.name ∷ texts) e is.are_operands) in
    let native = second_native n k ks i.operands is.fail is.name texts are in
    by_opcode (λ (j : Instruction). item_of form ≡ found j) i o e
    (item_read form (codes "bif") is.name (is.fail ∷ is.list ∷ is.dest ∷ []) (item.Instruction (made o i.operands)) is.in_braces
    (bif_item is.name is.fail is.list is.dest native.0 is.arguments (made o i.operands) native.1 is.are_arguments (no_raise_read native.0 is.name is.arguments native.1 is.no_raise) read))

bif_form : (i : Instruction) (form : List ℕ) → shape_of i.opcode ≡ shape.Bif → IsBifForm i form → item_of form ≡ found i
bif_form i form e is = by (bif_opcode i.opcode e)
  where
    texts : List (List ℕ)
    texts = is.fail ∷ is.name ∷ (is.arguments ++ (is.dest ∷ []))

    by : (i.opcode ≡ op.Bif1) ⊎ (i.opcode ≡ op.Bif2) → item_of form ≡ found i
    by (inl o) = bif_made i form is op.Bif1 1 kind.FailLabel _ o refl (bif1_read is.name is.fail is.dest is.arguments i.operands (moved i op.Bif1 texts o is.are_operands))
    by (inr o) = bif_made i form is op.Bif2 2 kind.FailLabel _ o refl (bif2_read is.name is.fail is.dest is.arguments i.operands (moved i op.Bif2 texts o is.are_operands))

-- ---- natives that take memory

gc_bif1_read : (name fail live list dest : List ℕ) (parts : List (List ℕ)) (os : List Operand) → AreListed parts list
    → AreOperands (kinds_of op.GcBif1) os (fail ∷ live ∷ name ∷ (parts ++ (dest ∷ []))) → gc_bif_of (name ∷ fail ∷ live ∷ list ∷ dest ∷ []) ≡ Some (made op.GcBif1 os)
unfolding gc_bif_of counted
gc_bif1_read name fail live list dest (a ∷ []) os are operands =
    rw (list_read (a ∷ []) list are, operands_read [] os (kinds_of op.GcBif1) (fail ∷ live ∷ name ∷ a ∷ dest ∷ []) operands) refl
gc_bif1_read name fail live list dest [] os are operands = absurd (omega (arith, count_read (kinds_of op.GcBif1) os (fail ∷ live ∷ name ∷ dest ∷ []) operands))
gc_bif1_read name fail live list dest (a ∷ b ∷ cs) os are operands =
    absurd (omega (arith, count_read (kinds_of op.GcBif1) os (fail ∷ live ∷ name ∷ a ∷ b ∷ (cs ++ (dest ∷ []))) operands, length-append cs (dest ∷ [])))

gc_bif2_read : (name fail live list dest : List ℕ) (parts : List (List ℕ)) (os : List Operand) → AreListed parts list
    → AreOperands (kinds_of op.GcBif2) os (fail ∷ live ∷ name ∷ (parts ++ (dest ∷ []))) → gc_bif_of (name ∷ fail ∷ live ∷ list ∷ dest ∷ []) ≡ Some (made op.GcBif2 os)
unfolding gc_bif_of counted
gc_bif2_read name fail live list dest (a ∷ b ∷ []) os are operands =
    rw (list_read (a ∷ b ∷ []) list are, operands_read [] os (kinds_of op.GcBif2) (fail ∷ live ∷ name ∷ a ∷ b ∷ dest ∷ []) operands) refl
gc_bif2_read name fail live list dest [] os are operands = absurd (omega (arith, count_read (kinds_of op.GcBif2) os (fail ∷ live ∷ name ∷ dest ∷ []) operands))
gc_bif2_read name fail live list dest (a ∷ []) os are operands = absurd (omega (arith, count_read (kinds_of op.GcBif2) os (fail ∷ live ∷ name ∷ a ∷ dest ∷ []) operands))
gc_bif2_read name fail live list dest (a ∷ b ∷ c ∷ ds) os are operands =
    absurd (omega (arith, count_read (kinds_of op.GcBif2) os (fail ∷ live ∷ name ∷ a ∷ b ∷ c ∷ (ds ++ (dest ∷ []))) operands, length-append ds (dest ∷ [])))

gc_bif_item : (parts : List (List ℕ)) (i : Instruction) → gc_bif_of parts ≡ Some i → item_by (codes "gc_bif") parts ≡ found i
unfolding item_by instruction_by
gc_bif_item parts i e = rw e refl

gc_bif_made : (i : Instruction) (form : List ℕ) (is : IsGcBifForm i form) (o : Opcode) → i.opcode ≡ o
    → gc_bif_of (is.name ∷ is.fail ∷ is.live ∷ is.list ∷ is.dest ∷ []) ≡ Some (made o i.operands) → item_of form ≡ found i
gc_bif_made i form is o e read =
    by_opcode (λ (j : Instruction). item_of form ≡ found j) i o e
    (item_read form (codes "gc_bif") is.name (is.fail ∷ is.live ∷ is.list ∷ is.dest ∷ []) (item.Instruction (made o i.operands)) is.in_braces
    (gc_bif_item (is.name ∷ is.fail ∷ is.live ∷ is.list ∷ is.dest ∷ []) (made o i.operands) read))

gc_bif_form : (i : Instruction) (form : List ℕ) → shape_of i.opcode ≡ shape.GcBif → IsGcBifForm i form → item_of form ≡ found i
gc_bif_form i form e is = by (gc_bif_opcode i.opcode e)
  where
    texts : List (List ℕ)
    texts = is.fail ∷ is.live ∷ is.name ∷ (is.arguments ++ (is.dest ∷ []))

    by : (i.opcode ≡ op.GcBif1) ⊎ (i.opcode ≡ op.GcBif2) → item_of form ≡ found i
    by (inl o) = gc_bif_made i form is op.GcBif1 o (gc_bif1_read is.name is.fail is.live is.list is.dest is.arguments i.operands is.are_arguments (moved i op.GcBif1 texts o is.are_operands))
    by (inr o) = gc_bif_made i form is op.GcBif2 o (gc_bif2_read is.name is.fail is.live is.list is.dest is.arguments i.operands is.are_arguments (moved i op.GcBif2 texts o is.are_operands))

-- ---- lines, and all of them

line_item : (about : List ℕ) → item_by (codes "line") (about ∷ []) ≡ found line_instruction
unfolding item_by instruction_by
line_item about = refl

line_form : (i : Instruction) (form : List ℕ) → IsLineForm i form → item_of form ≡ found i
line_form i form is =
    item_read form (codes "line") is.about [] (item.Instruction line_instruction) is.in_braces (line_item is.about) ∙ ap found (sym is.same)

form_by : (s : Shape) (i : Instruction) (form : List ℕ) → shape_of i.opcode ≡ s → IsShaped s i form → item_of form ≡ found i
form_by shape.Plain i form e is = plain_form i form e is
form_by shape.Test i form e is = test_form i form e is
form_by shape.Bif0 i form e is = bif0_form i form e is
form_by shape.Bif i form e is = bif_form i form e is
form_by shape.GcBif i form e is = gc_bif_form i form e is
form_by shape.Raise i form e is = raise_form i form e is
form_by shape.Line i form e is = line_form i form is

pub instruction_read : (i : Instruction) (form : List ℕ) → IsInstructionForm i form → item_of form ≡ found i
instruction_read i form is = form_by (shape_of i.opcode) i form refl is
