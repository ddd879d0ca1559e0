-- Each instruction that is read is one that a file spells: the operand of a line is 0.
use Rattle.std.proofs.Common.{◌≡◌, ℕ, Bool, true, false, List, [], ◌∷◌, ◌++◌, length, Some, refl, ap, Option, None, codes, if◌then◌else◌, ◌==◌, ◌&&◌}
use Rattle.std.proofs.lemmas.Bool.{and_parts}
use Rattle.beam_model.specs.declared.instruction.Operand.{Operand}
use Rattle.beam_model.specs.declared.instruction.Instruction.{Instruction}
use Rattle.beam_model.specs.declared.item.Item.{Item}
use Rattle.beam_model.specs.declared.opcode.Opcode.{Opcode}
use Rattle.beam_model.specs.Prelude.{without_line_number, listed_operands, same_text, shape_of, kinds_of, opcode_of, opcode_named, list_parts, atom_of_text, headed_of, only, label_of_text, operands_from, instruction_of_parts, is_plain_shape, is_test_shape, is_bif0_shape, is_bif_shape, is_gc_bif_shape, is_raise_shape, plain_of, test_of, raise_by, raise_of_text, counted, bif0_of, bif_by, is_raise_call, bif_of, gc_bif_of, line_instruction, instruction_by, function_of_parts, item_by, bare_item, item_of}
use Rattle.beam_model.specs.declared.item.Item.TheVariants as item
use Rattle.beam_model.specs.declared.opcode.Opcode.TheVariants as op
use Rattle.beam_model.specs.Forms.{◌>>=◌}
use Rattle.beam_model.specs.ListingForms.{is_end}

abbrev IsSpelled : Option Instruction → Type 0
IsSpelled None = Unit {0}
IsSpelled (Some i) = without_line_number i ≡ i

bound : {A : Type 0} (o : Option A) (f : A → Option Instruction) → ((x : A) → IsSpelled (f x)) → IsSpelled (o >>= f)
bound None f each = tt
bound (Some x) f each = each x

pick : (b : Bool) (o p : Option Instruction) → IsSpelled o → IsSpelled p → IsSpelled (if b then o else p)
pick true o p first second = first
pick false o p first second = second

-- ---- by shapes

abbrev made : Opcode → List Operand → Instruction
made o os = record { opcode = o; operands = os }

abbrev IsNoLine : Opcode → Type 0
IsNoLine o = (os : List Operand) → listed_operands o os ≡ os

plain_is : (o : Opcode) → is_plain_shape (shape_of o) ≡ true → IsNoLine o
plain_is op.Line e os = absurd cc
plain_is _ e os = refl

test_is : (o : Opcode) → is_test_shape (shape_of o) ≡ true → IsNoLine o
test_is op.Line e os = absurd cc
test_is _ e os = refl

raise_is : (o : Opcode) → is_raise_shape (shape_of o) ≡ true → IsNoLine o
raise_is op.Line e os = absurd cc
raise_is _ e os = refl

bif0_is : (o : Opcode) → is_bif0_shape (shape_of o) ≡ true → IsNoLine o
bif0_is op.Line e os = absurd cc
bif0_is _ e os = refl

bif_is : (o : Opcode) → is_bif_shape (shape_of o) ≡ true → IsNoLine o
bif_is op.Line e os = absurd cc
bif_is _ e os = refl

gc_bif_is : (o : Opcode) → is_gc_bif_shape (shape_of o) ≡ true → IsNoLine o
gc_bif_is op.Line e os = absurd cc
gc_bif_is _ e os = refl

written_spelled : (fits : Bool) (o : Opcode) (texts : List (List ℕ)) → (fits ≡ true → IsNoLine o) → IsSpelled (instruction_of_parts fits o texts)
written_spelled true o texts none = bound (operands_from [] (kinds_of o) texts) (λ os. Some (made o os)) (λ os. ap (made o) (none refl os))
written_spelled false o texts none = tt

-- ---- instructions

plain_spelled : (name : List ℕ) (parts : List (List ℕ)) → IsSpelled (plain_of name parts)
unfolding plain_of
plain_spelled name parts =
    bound (opcode_named name) (λ o. if is_end o then None else instruction_of_parts (is_plain_shape (shape_of o)) o parts)
    (λ o. pick (is_end o) None (instruction_of_parts (is_plain_shape (shape_of o)) o parts) tt (written_spelled (is_plain_shape (shape_of o)) o parts (plain_is o)))

test_spelled : (parts : List (List ℕ)) → IsSpelled (test_of parts)
unfolding test_of
test_spelled [] = tt
test_spelled (a ∷ []) = tt
test_spelled (a ∷ b ∷ []) = tt
test_spelled (name ∷ fail ∷ arguments ∷ []) =
    bound (atom_of_text name) (λ text. opcode_named text >>= λ o. list_parts arguments >>= λ parts. instruction_of_parts (is_test_shape (shape_of o)) o (fail ∷ parts)) (λ text.
    bound (opcode_named text) (λ o. list_parts arguments >>= λ parts. instruction_of_parts (is_test_shape (shape_of o)) o (fail ∷ parts)) (λ o.
    bound (list_parts arguments) (λ parts. instruction_of_parts (is_test_shape (shape_of o)) o (fail ∷ parts)) (λ parts. written_spelled (is_test_shape (shape_of o)) o (fail ∷ parts) (test_is o))))
test_spelled (a ∷ b ∷ c ∷ d ∷ rest) = tt

raise_by_spelled : (parts : List (List ℕ)) → IsSpelled (raise_by parts)
unfolding raise_by
raise_by_spelled parts = bound (opcode_of 108) (λ o. instruction_of_parts (is_raise_shape (shape_of o)) o parts) (λ o. written_spelled (is_raise_shape (shape_of o)) o parts (raise_is o))

raise_spelled : (list : List ℕ) → IsSpelled (raise_of_text list)
unfolding raise_of_text
raise_spelled list = bound (list_parts list) (λ parts. raise_by parts) raise_by_spelled

bif0_spelled : (name fail dest : List ℕ) → IsSpelled (bif0_of name fail dest)
unfolding bif0_of
bif0_spelled name fail dest =
    bound (label_of_text fail) (λ label. opcode_of 9 >>= λ o. instruction_of_parts (label == 0 && is_bif0_shape (shape_of o)) o (name ∷ dest ∷ [])) (λ label.
    bound (opcode_of 9) (λ o. instruction_of_parts (label == 0 && is_bif0_shape (shape_of o)) o (name ∷ dest ∷ [])) (λ o.
    written_spelled (label == 0 && is_bif0_shape (shape_of o)) o (name ∷ dest ∷ []) (λ fits. bif0_is o (and_parts (label == 0) (is_bif0_shape (shape_of o)) fits).1)))

bif_by_spelled : (name fail : List ℕ) (parts : List (List ℕ)) (dest : List ℕ) → IsSpelled (bif_by name fail parts dest)
unfolding bif_by
bif_by_spelled name fail [] dest = bif0_spelled name fail dest
bif_by_spelled name fail (part ∷ parts) dest =
    let texts : List (List ℕ) = (fail ∷ name ∷ []) ++ (part ∷ parts) ++ dest ∷ [] in
    bound (counted 9 (length (part ∷ parts))) (λ o. instruction_of_parts (is_bif_shape (shape_of o)) o texts) (λ o. written_spelled (is_bif_shape (shape_of o)) o texts (bif_is o))

bif_spelled : (parts : List (List ℕ)) → IsSpelled (bif_of parts)
unfolding bif_of
bif_spelled [] = tt
bif_spelled (a ∷ []) = tt
bif_spelled (a ∷ b ∷ []) = tt
bif_spelled (a ∷ b ∷ c ∷ []) = tt
bif_spelled (name ∷ fail ∷ arguments ∷ dest ∷ []) =
    bound (atom_of_text name) (λ text. list_parts arguments >>= λ parts. if is_raise_call text parts then raise_by parts else bif_by name fail parts dest) (λ text.
    bound (list_parts arguments) (λ parts. if is_raise_call text parts then raise_by parts else bif_by name fail parts dest) (λ parts.
    pick (is_raise_call text parts) (raise_by parts) (bif_by name fail parts dest) (raise_by_spelled parts) (bif_by_spelled name fail parts dest)))
bif_spelled (a ∷ b ∷ c ∷ d ∷ e ∷ rest) = tt

gc_bif_spelled : (parts : List (List ℕ)) → IsSpelled (gc_bif_of parts)
unfolding gc_bif_of
gc_bif_spelled [] = tt
gc_bif_spelled (a ∷ []) = tt
gc_bif_spelled (a ∷ b ∷ []) = tt
gc_bif_spelled (a ∷ b ∷ c ∷ []) = tt
gc_bif_spelled (a ∷ b ∷ c ∷ d ∷ []) = tt
gc_bif_spelled (name ∷ fail ∷ live ∷ arguments ∷ dest ∷ []) =
    bound (list_parts arguments) (λ parts. counted 123 (length parts) >>= λ o. instruction_of_parts (is_gc_bif_shape (shape_of o)) o ((fail ∷ live ∷ name ∷ []) ++ parts ++ dest ∷ [])) (λ parts.
    bound (counted 123 (length parts)) (λ o. instruction_of_parts (is_gc_bif_shape (shape_of o)) o ((fail ∷ live ∷ name ∷ []) ++ parts ++ dest ∷ [])) (λ o.
    written_spelled (is_gc_bif_shape (shape_of o)) o ((fail ∷ live ∷ name ∷ []) ++ parts ++ dest ∷ []) (gc_bif_is o)))
gc_bif_spelled (a ∷ b ∷ c ∷ d ∷ e ∷ f ∷ rest) = tt

instruction_spelled : (name : List ℕ) (parts : List (List ℕ)) → IsSpelled (instruction_by name parts)
unfolding instruction_by
instruction_spelled name parts =
    pick (same_text name (codes "test")) _ _ (test_spelled parts)
    (pick (same_text name (codes "bif")) _ _ (bif_spelled parts)
    (pick (same_text name (codes "gc_bif")) _ _ (gc_bif_spelled parts)
    (pick (same_text name (codes "raise")) _ _ (bound (only parts) (λ list. raise_of_text list) (λ list. raise_spelled list))
    (pick (same_text name (codes "line")) _ _ (bound (only parts) (λ about. Some line_instruction) (λ about. refl))
    (plain_spelled name parts)))))

-- ---- forms

-- an instruction among the forms of a listing
abbrev pub IsItem : Item → Type 0
IsItem (item.Instruction i) = without_line_number i ≡ i
IsItem (item.Function f) = Unit {0}
IsItem item.Remark = Unit {0}

abbrev pub MayBeItem : Option Item → Type 0
MayBeItem None = Unit {0}
MayBeItem (Some x) = IsItem x

item_bound : {A : Type 0} (o : Option A) (f : A → Option Item) → ((x : A) → MayBeItem (f x)) → MayBeItem (o >>= f)
item_bound None f each = tt
item_bound (Some x) f each = each x

item_pick : (b : Bool) (o p : Option Item) → MayBeItem o → MayBeItem p → MayBeItem (if b then o else p)
item_pick true o p first second = first
item_pick false o p first second = second

as_item : (o : Option Instruction) → IsSpelled o → MayBeItem (o >>= λ i. Some (item.Instruction i))
as_item None is = tt
as_item (Some i) is = is

item_by_is : (name : List ℕ) (parts : List (List ℕ)) → MayBeItem (item_by name parts)
unfolding item_by
item_by_is name parts =
    item_pick (same_text name (codes "function")) _ _ (item_bound (function_of_parts parts) (λ function. Some (item.Function function)) (λ function. tt))
    (item_pick (same_text name (codes "%")) _ _ (item_bound (only parts) (λ about. Some item.Remark) (λ about. tt))
    (as_item (instruction_by name parts) (instruction_spelled name parts)))

bare_is : (text : List ℕ) → MayBeItem (bare_item text)
unfolding bare_item
bare_is text = item_bound (atom_of_text text) (λ name. plain_of name [] >>= λ i. Some (item.Instruction i)) (λ name. as_item (plain_of name []) (plain_spelled name []))

pub item_is : (text : List ℕ) → MayBeItem (item_of text)
unfolding item_of
item_is [] = tt
item_is (c ∷ cs) = item_pick (c == 123) _ _ (item_bound (headed_of (c ∷ cs)) (λ h. item_by h.0 h.1) (λ h. item_by_is h.0 h.1)) (bare_is (c ∷ cs))
