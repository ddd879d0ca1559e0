-- A form that is read as an instruction is the form of that instruction.
use Rattle.std.proofs.Common.{◌≡◌, inl, inr, ◌⊎◌, ℕ, Bool, true, false, cond, List, [], ◌∷◌, ◌++◌, length, Option, Some, None, refl, sym, ap, subst, ◌∙◌, arith, codes, find, ◌==◌, ◌&&◌, nat_lt, eqb-true}
use Rattle.std.proofs.lemmas.Bool.Decides.{nat_tests}
use Rattle.std.proofs.lemmas.Bool.{and_parts}
use Rattle.std.proofs.lemmas.Option.{same_Some}
use Rattle.beam_lemmas.proofs.SameText.{text_is}
use Rattle.beam_model.specs.declared.instruction.Operand.{Operand}
use Rattle.beam_model.specs.declared.instruction.Instruction.{Instruction}
use Rattle.beam_model.specs.declared.opcode.Opcode.{Opcode}
use Rattle.beam_model.specs.Prelude.{same_text, shape_of, name_of, kinds_of, opcodes, opcode_of, opcode_named, list_parts, atom_of_text, only, label_of_text, operands_from, instruction_of_parts, is_plain_shape, is_test_shape, is_bif0_shape, is_bif_shape, is_gc_bif_shape, plain_of, test_of, raise_by, raise_of_text, counted, bif0_of, bif_by, is_raise_call, bif_of, gc_bif_of, line_instruction, instruction_by}
use Rattle.beam_model.specs.declared.opcode.Opcode.TheVariants as op
use Rattle.beam_model.specs.declared.shape.Shape.{Shape}
use Rattle.beam_model.specs.declared.shape.Shape.TheVariants as shape
use Rattle.beam_model.specs.Forms.{◌>>=◌}
use Rattle.beam_model.specs.ListingForms.{is_end}
use Rattle.beam_listing.specs.Prelude.{AreListed, IsAtom, IsHeaded, IsCall, IsRaiseBif, IsShaped, IsInstructionForm}
use Rattle.beam_listing.specs.OperandForm.{AreOperands}
use Rattle.beam_listing.proofs.Bracketed.{list_told}
use Rattle.beam_listing.proofs.OperandMeans.{label_told, operands_told}
use Rattle.beam_listing.proofs.PartMeans.{bind_some, branches, is_same, renamed, atom_told, atom_read, only_told}
use Rattle.beam_listing.proofs.Written.{made}

-- ---- opcodes

found_is : {A : Type 0} (p : A → Bool) (xs : List A) (x : A) → find p xs ≡ Some x → p x ≡ true
found_is p [] x e = absurd cc
found_is {A = A} p (y ∷ ys) x e = by (p y) refl e (λ f. found_is p ys x f)
  where
    by : (b : Bool) → p y ≡ b → cond b (Some y) (find p ys) ≡ Some x → (find p ys ≡ Some x → p x ≡ true) → p x ≡ true
    by true t f more = subst (λ (z : A). p z ≡ true) (same_Some y x f) t
    by false t f more = more f

named_is : (name : List ℕ) (o : Opcode) → opcode_named name ≡ Some o → name ≡ name_of o
named_is name o e = sym (text_is (name_of o) name (found_is (λ (p : Opcode). same_text (name_of p) name) opcodes o e))

plain_shape : (s : Shape) → is_plain_shape s ≡ true → s ≡ shape.Plain
plain_shape shape.Plain e = refl
plain_shape _ e = absurd cc

test_shape : (s : Shape) → is_test_shape s ≡ true → s ≡ shape.Test
test_shape shape.Test e = refl
test_shape _ e = absurd cc

-- ---- operands

-- the instruction of an opcode and the texts of its operands
record Made (o : Opcode) (texts : List (List ℕ)) (i : Instruction) : Type 0 where
  operands : List Operand
  same : i ≡ made o operands
  are : AreOperands (kinds_of o) operands texts

written_told : (fits : Bool) (o : Opcode) (texts : List (List ℕ)) (i : Instruction) → instruction_of_parts fits o texts ≡ Some i → (fits ≡ true) × Made o texts i
written_told false o texts i e = absurd cc
written_told true o texts i e =
    let os = bind_some (operands_from [] (kinds_of o) texts) (λ (os : List Operand). Some (made o os)) i e in
    let r = operands_told [] os.0 (kinds_of o) texts os.1 in
    (refl, record { operands = r.others; same = sym (same_Some (made o os.0) i os.2) ∙ ap (made o) r.sum; are = r.are })

shaped : (s : Shape) (o : Opcode) (texts : List (List ℕ)) (i : Instruction) (form : List ℕ) → shape_of o ≡ s → Made o texts i
    → ((os : List Operand) → AreOperands (kinds_of o) os texts → IsShaped s (made o os) form) → IsInstructionForm i form
shaped s o texts i form e m each =
    subst (λ (j : Instruction). IsInstructionForm j form) (sym m.same) (subst (λ (t : Shape). IsShaped t (made o m.operands) form) (sym e) (each m.operands m.are))

-- ---- a name and operands

pub plain_told : (name : List ℕ) (parts : List (List ℕ)) (i : Instruction) (form : List ℕ) → IsCall name parts form → plain_of name parts ≡ Some i → IsInstructionForm i form
unfolding plain_of
plain_told name parts i form is e =
    let o = bind_some (opcode_named name) (λ (o : Opcode). cond (is_end o) None (instruction_of_parts (is_plain_shape (shape_of o)) o parts)) i e in
    branches (is_end o.0) None (instruction_of_parts (is_plain_shape (shape_of o.0)) o.0 parts) i o.2 (λ ends f. absurd cc (f)) (λ goes f.
    let w = written_told (is_plain_shape (shape_of o.0)) o.0 parts i f in
    shaped shape.Plain o.0 parts i form (plain_shape (shape_of o.0) w.0) w.1 (λ os are. record {
      goes_on = λ same. let bad : false ≡ true = sym goes ∙ ap is_end same in absurd cc (bad);
      parts = parts;
      is_call = subst (λ (v : List ℕ). IsCall v parts form) (named_is name o.0 o.1) is;
      are_operands = are;
    }))

-- ---- tests

test_told : (parts : List (List ℕ)) (i : Instruction) (form : List ℕ) → IsHeaded (codes "test") parts form → test_of parts ≡ Some i → IsInstructionForm i form
unfolding test_of
test_told [] i form is e = absurd cc
test_told (a ∷ []) i form is e = absurd cc
test_told (a ∷ b ∷ []) i form is e = absurd cc
test_told (name ∷ fail ∷ list ∷ []) i form is e =
    let v = bind_some (atom_of_text name) (λ (text : List ℕ). opcode_named text >>= λ o. list_parts list >>= λ parts. instruction_of_parts (is_test_shape (shape_of o)) o (fail ∷ parts)) i e in
    let o = bind_some (opcode_named v.0) (λ (o : Opcode). list_parts list >>= λ parts. instruction_of_parts (is_test_shape (shape_of o)) o (fail ∷ parts)) i v.2 in
    let ps = bind_some (list_parts list) (λ (parts : List (List ℕ)). instruction_of_parts (is_test_shape (shape_of o.0)) o.0 (fail ∷ parts)) i o.2 in
    let w = written_told (is_test_shape (shape_of o.0)) o.0 (fail ∷ ps.0) i ps.2 in
    shaped shape.Test o.0 (fail ∷ ps.0) i form (test_shape (shape_of o.0) w.0) w.1 (λ os are. record {
      name = name;
      fail = fail;
      list = list;
      arguments = ps.0;
      in_braces = is;
      is_name = subst (λ (u : List ℕ). IsAtom u name) (named_is v.0 o.0 o.1) (atom_told name v.0 v.1);
      are_arguments = list_told ps.0 list ps.1;
      are_operands = are;
    })
test_told (a ∷ b ∷ c ∷ d ∷ ps) i form is e = absurd cc

-- ---- raise

raise_by_told : (parts : List (List ℕ)) (list form : List ℕ) (i : Instruction) → IsHeaded (codes "raise") (list ∷ []) form ⊎ IsRaiseBif list form → AreListed parts list → raise_by parts ≡ Some i
    → IsInstructionForm i form
unfolding raise_by
raise_by_told parts list form i is are e =
    let w = written_told true op.Raise parts i e in
    shaped shape.Raise op.Raise parts i form refl w.1 (λ os operands. record { list = list; arguments = parts; is_raise = is; are_arguments = are; are_operands = operands })

raise_told : (parts : List (List ℕ)) (i : Instruction) (form : List ℕ) → IsHeaded (codes "raise") parts form → (only parts >>= raise_of_text) ≡ Some i → IsInstructionForm i form
unfolding raise_of_text
raise_told parts i form is e =
    let list = bind_some (only parts) raise_of_text i e in
    let ps = bind_some (list_parts list.0) raise_by i list.2 in
    raise_by_told ps.0 list.0 form i (inl (subst (λ (all : List (List ℕ)). IsHeaded (codes "raise") all form) (only_told parts list.0 list.1) is)) (list_told ps.0 list.0 ps.1) ps.2

-- ---- natives

-- the parts of a native's form
record Native (name fail list dest : List ℕ) (parts : List (List ℕ)) (form : List ℕ) : Type 0 where
  in_braces : IsHeaded (codes "bif") (name ∷ fail ∷ list ∷ dest ∷ []) form
  are : AreListed parts list
  other : length parts ≡ 2 → IsAtom (codes "raise") name → ⊥

bif0_told : (name fail list dest : List ℕ) (i : Instruction) (form : List ℕ) → Native name fail list dest [] form → bif0_of name fail dest ≡ Some i → IsInstructionForm i form
unfolding bif0_of
bif0_told name fail list dest i form is e =
    let label = bind_some (label_of_text fail) (λ (n : ℕ). opcode_of 9 >>= λ o. instruction_of_parts (n == 0 && is_bif0_shape (shape_of o)) o (name ∷ dest ∷ [])) i e in
    let w = written_told (label.0 == 0 && true) op.Bif0 (name ∷ dest ∷ []) i label.2 in
    let none : label.0 ≡ 0 = eqb-true label.0 0 (and_parts (label.0 == 0) true w.0).0 in
    shaped shape.Bif0 op.Bif0 (name ∷ dest ∷ []) i form refl w.1 (λ os operands. record {
      name = name;
      fail = fail;
      list = list;
      dest = dest;
      in_braces = is.in_braces;
      no_arguments = is.are;
      no_fail = label_told fail 0 (label.1 ∙ ap (λ (n : ℕ). Some n) none);
      are_operands = operands;
    })

bif_made : (o : Opcode) (name fail list dest : List ℕ) (parts : List (List ℕ)) (i : Instruction) (form : List ℕ) → shape_of o ≡ shape.Bif → Native name fail list dest parts form
    → Made o (fail ∷ name ∷ (parts ++ (dest ∷ []))) i → IsInstructionForm i form
bif_made o name fail list dest parts i form e is m =
    shaped shape.Bif o (fail ∷ name ∷ (parts ++ (dest ∷ []))) i form e m (λ os operands. record {
      name = name;
      fail = fail;
      list = list;
      dest = dest;
      arguments = parts;
      in_braces = is.in_braces;
      are_arguments = is.are;
      no_raise = is.other;
      are_operands = operands;
    })

-- no native takes three arguments or more
none_counted : (first : ℕ) (a b c : List ℕ) (ds : List (List ℕ)) → counted first (length (a ∷ b ∷ c ∷ ds)) ≡ None
unfolding counted
none_counted first a b c ds = let e : nat_lt (length (a ∷ b ∷ c ∷ ds)) 3 ≡ false = grind (arith, nat_tests) in rw e refl

bif_by_told : (name fail list : List ℕ) (parts : List (List ℕ)) (dest : List ℕ) (i : Instruction) (form : List ℕ) → Native name fail list dest parts form → bif_by name fail parts dest ≡ Some i
    → IsInstructionForm i form
unfolding bif_by counted
bif_by_told name fail list [] dest i form is e = bif0_told name fail list dest i form is e
bif_by_told name fail list (a ∷ []) dest i form is e = bif_made op.Bif1 name fail list dest (a ∷ []) i form refl is (written_told true op.Bif1 (fail ∷ name ∷ a ∷ dest ∷ []) i e).1
bif_by_told name fail list (a ∷ b ∷ []) dest i form is e = bif_made op.Bif2 name fail list dest (a ∷ b ∷ []) i form refl is (written_told true op.Bif2 (fail ∷ name ∷ a ∷ b ∷ dest ∷ []) i e).1
bif_by_told name fail list (a ∷ b ∷ c ∷ ds) dest i form is e =
    let none = none_counted 9 a b c ds in
    let texts : List (List ℕ) = fail ∷ name ∷ ((a ∷ b ∷ c ∷ ds) ++ dest ∷ []) in
    let bad : None ≡ Some i = sym (ap (λ (found : Option Opcode). found >>= λ o. instruction_of_parts (is_bif_shape (shape_of o)) o texts) none) ∙ e in
    absurd cc (bad)

no_raise_told : (w name : List ℕ) (parts : List (List ℕ)) → IsAtom w name → is_raise_call w parts ≡ false → length parts ≡ 2 → IsAtom (codes "raise") name → ⊥
no_raise_told w name parts is other count raise =
    let same : w ≡ codes "raise" = same_Some w (codes "raise") (sym (atom_read name w is) ∙ atom_read name (codes "raise") raise) in
    let call : is_raise_call w parts ≡ true = rw (count, is_same w (codes "raise") same) refl in
    let bad : true ≡ false = sym call ∙ other in
    cc (bad)

bif_told : (parts : List (List ℕ)) (i : Instruction) (form : List ℕ) → IsHeaded (codes "bif") parts form → bif_of parts ≡ Some i → IsInstructionForm i form
unfolding bif_of
bif_told [] i form is e = absurd cc
bif_told (a ∷ []) i form is e = absurd cc
bif_told (a ∷ b ∷ []) i form is e = absurd cc
bif_told (a ∷ b ∷ c ∷ []) i form is e = absurd cc
bif_told (name ∷ fail ∷ list ∷ dest ∷ []) i form is e =
    let w = bind_some (atom_of_text name) (λ (text : List ℕ). list_parts list >>= λ parts. cond (is_raise_call text parts) (raise_by parts) (bif_by name fail parts dest)) i e in
    let ps = bind_some (list_parts list) (λ (parts : List (List ℕ)). cond (is_raise_call w.0 parts) (raise_by parts) (bif_by name fail parts dest)) i w.2 in
    let are = list_told ps.0 list ps.1 in
    let atom = atom_told name w.0 w.1 in
    branches (is_raise_call w.0 ps.0) (raise_by ps.0) (bif_by name fail ps.0 dest) i ps.2
    (λ call f.
    let raise = text_is w.0 (codes "raise") (and_parts (length ps.0 == 2) (same_text w.0 (codes "raise")) call).1 in
    raise_by_told ps.0 list form i (inr (record { name = name; fail = fail; dest = dest; in_braces = is; is_name = subst (λ (v : List ℕ). IsAtom v name) raise atom })) are f)
    (λ other f. bif_by_told name fail list ps.0 dest i form (record { in_braces = is; are = are; other = no_raise_told w.0 name ps.0 atom other }) f)
bif_told (a ∷ b ∷ c ∷ d ∷ x ∷ ps) i form is e = absurd cc

-- ---- natives that take memory

gc_bif_made : (o : Opcode) (name fail live list dest : List ℕ) (parts : List (List ℕ)) (i : Instruction) (form : List ℕ) → shape_of o ≡ shape.GcBif
    → IsHeaded (codes "gc_bif") (name ∷ fail ∷ live ∷ list ∷ dest ∷ []) form → AreListed parts list → Made o (fail ∷ live ∷ name ∷ (parts ++ (dest ∷ []))) i → IsInstructionForm i form
gc_bif_made o name fail live list dest parts i form e is are m =
    shaped shape.GcBif o (fail ∷ live ∷ name ∷ (parts ++ (dest ∷ []))) i form e m (λ os operands. record {
      name = name;
      fail = fail;
      live = live;
      list = list;
      dest = dest;
      arguments = parts;
      in_braces = is;
      are_arguments = are;
      are_operands = operands;
    })

gc_counted : (name fail live list dest : List ℕ) (parts : List (List ℕ)) (i : Instruction) (form : List ℕ) → IsHeaded (codes "gc_bif") (name ∷ fail ∷ live ∷ list ∷ dest ∷ []) form → AreListed parts list
    → (counted 123 (length parts) >>= λ o. instruction_of_parts (is_gc_bif_shape (shape_of o)) o (fail ∷ live ∷ name ∷ (parts ++ (dest ∷ [])))) ≡ Some i → IsInstructionForm i form
unfolding counted
gc_counted name fail live list dest [] i form is are e = absurd cc (e)
gc_counted name fail live list dest (a ∷ []) i form is are e =
    gc_bif_made op.GcBif1 name fail live list dest (a ∷ []) i form refl is are (written_told true op.GcBif1 (fail ∷ live ∷ name ∷ a ∷ dest ∷ []) i e).1
gc_counted name fail live list dest (a ∷ b ∷ []) i form is are e =
    gc_bif_made op.GcBif2 name fail live list dest (a ∷ b ∷ []) i form refl is are (written_told true op.GcBif2 (fail ∷ live ∷ name ∷ a ∷ b ∷ dest ∷ []) i e).1
gc_counted name fail live list dest (a ∷ b ∷ c ∷ ds) i form is are e =
    let none = none_counted 123 a b c ds in
    let texts : List (List ℕ) = fail ∷ live ∷ name ∷ ((a ∷ b ∷ c ∷ ds) ++ dest ∷ []) in
    let bad : None ≡ Some i = sym (ap (λ (found : Option Opcode). found >>= λ o. instruction_of_parts (is_gc_bif_shape (shape_of o)) o texts) none) ∙ e in
    absurd cc (bad)

gc_bif_told : (parts : List (List ℕ)) (i : Instruction) (form : List ℕ) → IsHeaded (codes "gc_bif") parts form → gc_bif_of parts ≡ Some i → IsInstructionForm i form
unfolding gc_bif_of
gc_bif_told (name ∷ fail ∷ live ∷ list ∷ dest ∷ []) i form is e =
    let ps = bind_some (list_parts list) (λ (parts : List (List ℕ)). counted 123 (length parts) >>= λ o. instruction_of_parts (is_gc_bif_shape (shape_of o)) o (fail ∷ live ∷ name ∷ (parts ++ (dest ∷ [])))) i e in
    gc_counted name fail live list dest ps.0 i form is (list_told ps.0 list ps.1) ps.2
gc_bif_told _ i form is e = absurd cc (e)

-- ---- lines, and all of them

line_told : (parts : List (List ℕ)) (i : Instruction) (form : List ℕ) → IsHeaded (codes "line") parts form → (only parts >>= λ about. Some line_instruction) ≡ Some i → IsInstructionForm i form
line_told parts i form is e =
    let about = bind_some (only parts) (λ (about : List ℕ). Some line_instruction) i e in
    let same = same_Some line_instruction i about.2 in
    let line : IsInstructionForm line_instruction form =
    record { about = about.0; in_braces = subst (λ (ps : List (List ℕ)). IsHeaded (codes "line") ps form) (only_told parts about.0 about.1) is; same = refl } in
    subst (λ (j : Instruction). IsInstructionForm j form) same line

pub instruction_told : (name : List ℕ) (parts : List (List ℕ)) (i : Instruction) (form : List ℕ) → IsHeaded name parts form → IsCall name parts form → instruction_by name parts ≡ Some i → IsInstructionForm i form
unfolding instruction_by
instruction_told name parts i form is call e =
    branches (same_text name (codes "test")) (test_of parts) _ i e (λ same f. test_told parts i form (renamed name (codes "test") parts form same is) f) (λ a f.
    branches (same_text name (codes "bif")) (bif_of parts) _ i f (λ same g. bif_told parts i form (renamed name (codes "bif") parts form same is) g) (λ b g.
    branches (same_text name (codes "gc_bif")) (gc_bif_of parts) _ i g (λ same h. gc_bif_told parts i form (renamed name (codes "gc_bif") parts form same is) h) (λ c h.
    branches (same_text name (codes "raise")) (only parts >>= raise_of_text) _ i h (λ same k. raise_told parts i form (renamed name (codes "raise") parts form same is) k) (λ d k.
    branches (same_text name (codes "line")) (only parts >>= λ about. Some line_instruction) (plain_of name parts) i k (λ same l. line_told parts i form (renamed name (codes "line") parts form same is) l) (λ x l.
    plain_told name parts i form call l)))))
