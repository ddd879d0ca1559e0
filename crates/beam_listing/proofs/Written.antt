-- Printed instructions are read again.
use Rattle.std.proofs.Common.{◌≡◌, ℕ, Bool, true, false, cond, List, [], ◌∷◌, ◌++◌, length, Some, refl, sym, ap, ◌∙◌, subst, append_assoc, arith, Option, codes, not, ◌||◌, ◌==◌}
use Rattle.std.specs.List.{list_any}
use Rattle.std.specs.Str.{is_utf8, chars}
use Rattle.beam_model.specs.declared.instruction.Argument.TheVariants as argument
use Rattle.beam_model.specs.declared.instruction.Operand.{Operand}
use Rattle.beam_model.specs.declared.instruction.Instruction.{Instruction}
use Rattle.beam_model.specs.declared.item.Item.{Item}
use Rattle.beam_model.specs.declared.opcode.Opcode.{Opcode}
use Rattle.beam_model.specs.declared.opcode.Kind.{Kind}
use Rattle.beam_model.specs.Prelude.{same_text, is_reserved, atom_text, kinds_of, name_of, shape_of, list_parts, operand_text, operands_text, plain_text, line_text, test_text, headed_of, operands_from, is_plain_shape, is_test_shape, plain_of, test_of, instruction_by, item_by, bare_item, item_of}
use Rattle.beam_model.specs.declared.instruction.Operand.TheVariants as operand
use Rattle.beam_model.specs.declared.item.Item.TheVariants as item
use Rattle.beam_model.specs.declared.opcode.Opcode.TheVariants as op
use Rattle.beam_model.specs.declared.opcode.Kind.TheVariants as kind
use Rattle.beam_model.specs.Forms.{◌>>=◌}
use Rattle.beam_model.specs.ListingForms.{is_end}
use Rattle.beam_listing.proofs.Traces.{Brackets, square, brace, right}
use Rattle.beam_listing.proofs.Elements.{IsPart, AreParts, closed, parts_again}
use Rattle.beam_listing.proofs.Operands.{IsWord, word, word_part, atom_part, atom_whole}
use Rattle.beam_listing.proofs.Members.{list_part, tuple_part, name_headed, tuple_headed, two}
use Rattle.beam_listing.proofs.Under.{AreUnder, text_under, texts_under, operands_again, parts_under}
use Rattle.beam_listing.proofs.Names.{name_lawful, named_again}

abbrev pub plain_texts : List Operand → List (List ℕ)
plain_texts [] = []
plain_texts (o ∷ os) = operand_text o ∷ plain_texts os

pub operands_closed : (b : Brackets) (before : List ℕ) (os : List Operand) → operands_text before os ++ right b ∷ [] ≡ closed b before (plain_texts os)
operands_closed b before [] = refl
operands_closed b before (o ∷ os) =
    append_assoc (before ++ operand_text o) (operands_text (44 ∷ []) os) (right b ∷ []) ∙ ap (λ (t : List ℕ). before ++ operand_text o ++ t) (operands_closed b (44 ∷ []) os)

-- the text of an instruction, which is read as that instruction
pub record IsWritten (text : List ℕ) (i : Instruction) : Type 0 where
  pub part : IsPart text
  pub item : item_of text ≡ Some (item.Instruction i)

-- a form in braces
pub tuple_written : (text : List ℕ) (ps : List (List ℕ)) (i : Instruction) → text ≡ 123 ∷ closed brace [] ps → AreParts ps
    → item_of (123 ∷ closed brace [] ps) ≡ Some (item.Instruction i) → IsWritten text i
tuple_written text ps i e are read = record { part = subst IsPart (sym e) (tuple_part ps are); item = ap item_of e ∙ read }

-- ---- a name and its operands

unfoldable pub is_plain_kind : Kind → Bool
is_plain_kind (kind.Native n) = false
is_plain_kind _ = true

unfoldable pub are_plain : List Kind → Bool
are_plain [] = true
are_plain (k ∷ ks) = cond (is_plain_kind k) (are_plain ks) false

text_plain : (k : Kind) (o : Operand) → is_plain_kind k ≡ true → text_under k o ≡ operand_text o
unfolding is_plain_kind
text_plain (kind.Native n) o e = absurd cc
text_plain _ o e = refl

both_plain : (a b : Bool) → cond a b false ≡ true → (a ≡ true) × (b ≡ true)
both_plain true b e = (refl, e)
both_plain false b e = absurd cc

texts_plain : (ks : List Kind) (os : List Operand) → are_plain ks ≡ true → AreUnder ks os → texts_under ks os ≡ plain_texts os
unfolding are_plain
texts_plain [] [] e are = refl
texts_plain [] (o ∷ os) e are = absurd are
texts_plain (k ∷ ks) [] e are = absurd are
texts_plain (k ∷ ks) (o ∷ os) e are =
    let both = both_plain (is_plain_kind k) (are_plain ks) e in
    ap (λ (t : List ℕ). t ∷ texts_under ks os) (text_plain k o both.0) ∙ ap (λ (ts : List (List ℕ)). operand_text o ∷ ts) (texts_plain ks os both.1 are.1)

pub either_true : (a b : Bool) → (not a || b) ≡ true → a ≡ true → b ≡ true
either_true true b e is = e
either_true false b e is = absurd cc

plain_is : (w : List ℕ) (o : Operand) (os : List Operand) → plain_text w (o ∷ os) ≡ 123 ∷ closed brace [] (w ∷ plain_texts (o ∷ os))
plain_is w o os =
    ap (λ (t : List ℕ). 123 ∷ t) (append_assoc w (operands_text (44 ∷ []) (o ∷ os)) (125 ∷ []) ∙ ap (λ (t : List ℕ). w ++ t) (operands_closed brace (44 ∷ []) (o ∷ os)))

unfoldable pub as_item : Option Instruction → Option Item
as_item found = found >>= λ i. Some (item.Instruction i)

abbrev pub made : Opcode → List Operand → Instruction
made o os = record { opcode = o; operands = os }

plain_again : (o : Opcode) (os : List Operand) → is_end o ≡ false → is_plain_shape (shape_of o) ≡ true → AreUnder (kinds_of o) os
    → plain_of (name_of o) (texts_under (kinds_of o) os) ≡ Some (made o os)
unfolding plain_of
plain_again o os ends shape are = rw (named_again o, ends, shape, operands_again [] (kinds_of o) os are) refl

-- a name that other forms than those of plain instructions have
abbrev pub is_special : List ℕ → Bool
is_special name = list_any (same_text name) (codes "function" ∷ codes "%" ∷ codes "test" ∷ codes "bif" ∷ codes "gc_bif" ∷ codes "raise" ∷ codes "line" ∷ [])

pub plain_names : (o : Opcode) → (not (is_plain_shape (shape_of o)) || not (is_special (name_of o))) ≡ true
plain_names op.Label = refl
plain_names _ = refl

plain_kinds : (o : Opcode) → (not (is_plain_shape (shape_of o)) || are_plain (kinds_of o)) ≡ true
unfolding are_plain is_plain_kind
plain_kinds op.Label = refl
plain_kinds _ = refl

none_of : (b : Bool) (bs : Bool) → not (b || bs) ≡ true → (b ≡ false) × (not bs ≡ true)
none_of true bs e = absurd cc
none_of false bs e = (refl, e)

-- the name of an opcode that is written plainly leads to it
pub plain_item : (name : List ℕ) (ps : List (List ℕ)) → not (is_special name) ≡ true → item_by name ps ≡ as_item (plain_of name ps)
unfolding item_by instruction_by as_item
plain_item name ps e =
    let a = none_of (same_text name (codes "function")) _ e in
    let b = none_of (same_text name (codes "%")) _ a.1 in
    let c = none_of (same_text name (codes "test")) _ b.1 in
    let d = none_of (same_text name (codes "bif")) _ c.1 in
    let f = none_of (same_text name (codes "gc_bif")) _ d.1 in
    let g = none_of (same_text name (codes "raise")) _ f.1 in
    let h = none_of (same_text name (codes "line")) _ g.1 in
    rw (a.0, b.0, c.0, d.0, f.0, g.0, h.0) refl

pub headed_item : (cs w : List ℕ) (ps : List (List ℕ)) → headed_of (123 ∷ cs) ≡ Some (w, ps) → item_of (123 ∷ cs) ≡ item_by w ps
unfolding item_of
headed_item cs w ps e = rw e refl

named_written : (o : Opcode) (a : Operand) (os : List Operand) → is_end o ≡ false → is_plain_shape (shape_of o) ≡ true → AreUnder (kinds_of o) (a ∷ os)
    → IsWritten (plain_text (atom_text (name_of o)) (a ∷ os)) (made o (a ∷ os))
unfolding as_item
named_written o a os ends shape are =
    let name : List ℕ = name_of o in
    let ps : List (List ℕ) = plain_texts (a ∷ os) in
    let same : texts_under (kinds_of o) (a ∷ os) ≡ ps = texts_plain (kinds_of o) (a ∷ os) (either_true (is_plain_shape (shape_of o)) (are_plain (kinds_of o)) (plain_kinds o) shape) are in
    let parts : AreParts ps = subst AreParts same (parts_under (kinds_of o) (a ∷ os) are) in
    let read : plain_of name ps ≡ Some (made o (a ∷ os)) = ap (plain_of name) (sym same) ∙ plain_again o (a ∷ os) ends shape are in
    tuple_written (plain_text (atom_text name) (a ∷ os)) (atom_text name ∷ ps) (made o (a ∷ os)) (plain_is (atom_text name) a os) (atom_part name, parts)
    (headed_item (closed brace [] (atom_text name ∷ ps)) name ps (name_headed name (operand_text a) (plain_texts os) (name_lawful o) parts.0 parts.1)
    ∙ plain_item name ps (either_true (is_plain_shape (shape_of o)) (not (is_special name)) (plain_names o) shape) ∙ ap as_item read)

-- a name alone
name_alone : (o : Opcode) → item_of (atom_text (name_of o)) ≡ bare_item (atom_text (name_of o))
unfolding item_of is_reserved
name_alone op.Label = refl
name_alone _ = refl

no_texts : (ks : List Kind) → texts_under ks [] ≡ []
no_texts [] = refl
no_texts (k ∷ ks) = refl

bare_again : (o : Opcode) → plain_of (name_of o) [] ≡ Some (made o []) → bare_item (atom_text (name_of o)) ≡ Some (item.Instruction (made o []))
unfolding bare_item
bare_again o read = rw (atom_whole (name_of o) (name_lawful o), read) refl

bare_written : (o : Opcode) → is_end o ≡ false → is_plain_shape (shape_of o) ≡ true → AreUnder (kinds_of o) []
    → IsWritten (plain_text (atom_text (name_of o)) []) (made o [])
bare_written o ends shape are =
    let read : plain_of (name_of o) [] ≡ Some (made o []) = ap (plain_of (name_of o)) (sym (no_texts (kinds_of o))) ∙ plain_again o [] ends shape are in
    record { part = atom_part (name_of o); item = name_alone o ∙ bare_again o read }

pub plain_written : (o : Opcode) (os : List Operand) → is_end o ≡ false → is_plain_shape (shape_of o) ≡ true → AreUnder (kinds_of o) os
    → IsWritten (plain_text (atom_text (name_of o)) os) (made o os)
plain_written o [] ends shape are = bare_written o ends shape are
plain_written o (a ∷ os) ends shape are = named_written o a os ends shape are

-- ---- lines

line_word : IsWord (codes "line")
unfolding is_reserved is_utf8 chars lib.Utf8.encode
line_word = word (codes "line") refl refl (omega arith)

line_item : item_of line_text ≡ Some (item.Instruction (record { opcode = op.Line; operands = operand.One (argument.Number 0) ∷ [] }))
unfolding item_of item_by instruction_by
line_item = rw (tuple_headed (codes "line") (91 ∷ 93 ∷ []) [] line_word (list_part [] tt) tt) refl

pub line_written : IsWritten line_text (record { opcode = op.Line; operands = operand.One (argument.Number 0) ∷ [] })
line_written = record { part = tuple_part (codes "line" ∷ (91 ∷ 93 ∷ []) ∷ []) (word_part (codes "line") line_word, (list_part [] tt, tt)); item = line_item }

-- ---- tests

test_word : IsWord (codes "test")
unfolding is_reserved is_utf8 chars lib.Utf8.encode
test_word = word (codes "test") refl refl (omega arith)

unfoldable pub list_texts : List (List ℕ) → List ℕ
list_texts ps = 91 ∷ closed square [] ps

pub texts_part : (ps : List (List ℕ)) → AreParts ps → IsPart (list_texts ps)
unfolding list_texts
texts_part ps are = list_part ps are

pub texts_parts : (ps : List (List ℕ)) → AreParts ps → list_parts (list_texts ps) ≡ Some ps
unfolding list_texts
texts_parts ps are = parts_again square ps are

-- operands between square brackets, at the end of a form
pub list_end : (os : List Operand) → operands_text [] os ++ 93 ∷ 125 ∷ [] ≡ closed square [] (plain_texts os) ++ 125 ∷ []
list_end os = sym (append_assoc (operands_text [] os) (93 ∷ []) (125 ∷ [])) ∙ ap (λ (t : List ℕ). t ++ 125 ∷ []) (operands_closed square [] os)

test_is : (w : List ℕ) (l : Operand) (os : List Operand)
    → test_text w (l ∷ os) ≡ 123 ∷ closed brace [] (codes "test" ∷ w ∷ operand_text l ∷ list_texts (plain_texts os) ∷ [])
unfolding list_texts
test_is w l os =
    let r : List ℕ = operands_text [] os in
    ap (λ (t : List ℕ). codes "{test," ++ t)
    (append_assoc (w ++ 44 ∷ [] ++ operand_text l ++ 44 ∷ 91 ∷ []) r (93 ∷ 125 ∷ [])
    ∙ append_assoc (w ++ 44 ∷ [] ++ operand_text l) (44 ∷ 91 ∷ []) (r ++ 93 ∷ 125 ∷ [])
    ∙ two w (operand_text l) (44 ∷ 91 ∷ (r ++ 93 ∷ 125 ∷ []))
    ∙ ap (λ (t : List ℕ). w ++ (44 ∷ (operand_text l ++ (44 ∷ 91 ∷ t)))) (list_end os))

test_again : (o : Opcode) (l : Operand) (os : List Operand) → is_test_shape (shape_of o) ≡ true → AreParts (plain_texts os)
    → operands_from [] (kinds_of o) (operand_text l ∷ plain_texts os) ≡ Some (l ∷ os)
    → test_of (atom_text (name_of o) ∷ operand_text l ∷ list_texts (plain_texts os) ∷ []) ≡ Some (made o (l ∷ os))
unfolding test_of
test_again o l os shape parts read = rw (atom_whole (name_of o) (name_lawful o), named_again o, texts_parts (plain_texts os) parts, shape, read) refl

test_item : (ps : List (List ℕ)) → item_by (codes "test") ps ≡ as_item (test_of ps)
unfolding item_by instruction_by as_item
test_item ps = refl

test_kinds : (o : Opcode) → (not (is_test_shape (shape_of o)) || are_plain (kinds_of o)) ≡ true
unfolding are_plain is_plain_kind
test_kinds op.Label = refl
test_kinds _ = refl

labelled_written : (o : Opcode) (l : Operand) (os : List Operand) → is_test_shape (shape_of o) ≡ true → AreUnder (kinds_of o) (l ∷ os)
    → IsWritten (test_text (atom_text (name_of o)) (l ∷ os)) (made o (l ∷ os))
unfolding as_item
labelled_written o l os shape are =
    let same : texts_under (kinds_of o) (l ∷ os) ≡ plain_texts (l ∷ os) = texts_plain (kinds_of o) (l ∷ os) (either_true (is_test_shape (shape_of o)) (are_plain (kinds_of o)) (test_kinds o) shape) are in
    let parts : AreParts (plain_texts (l ∷ os)) = subst AreParts same (parts_under (kinds_of o) (l ∷ os) are) in
    let read : operands_from [] (kinds_of o) (plain_texts (l ∷ os)) ≡ Some (l ∷ os) = ap (operands_from [] (kinds_of o)) (sym same) ∙ operands_again [] (kinds_of o) (l ∷ os) are in
    let w : List ℕ = atom_text (name_of o) in
    let ps : List (List ℕ) = operand_text l ∷ list_texts (plain_texts os) ∷ [] in
    let list : IsPart (list_texts (plain_texts os)) = texts_part (plain_texts os) parts.1 in
    tuple_written (test_text w (l ∷ os)) (codes "test" ∷ w ∷ ps) (made o (l ∷ os)) (test_is w l os) (word_part (codes "test") test_word, (atom_part (name_of o), (parts.0, (list, tt))))
    (headed_item (closed brace [] (codes "test" ∷ w ∷ ps)) (codes "test") (w ∷ ps) (tuple_headed (codes "test") w ps test_word (atom_part (name_of o)) (parts.0, (list, tt)))
    ∙ test_item (w ∷ ps) ∙ ap as_item (test_again o l os shape parts.1 read))

-- a test has a label
test_labelled : (o : Opcode) → (not (is_test_shape (shape_of o)) || not (length (kinds_of o) == 0)) ≡ true
test_labelled op.Label = refl
test_labelled _ = refl

some_under : (ks : List Kind) → not (length ks == 0) ≡ true → AreUnder ks [] → ⊥
some_under [] e are = absurd cc
some_under (k ∷ ks) e are = are

pub test_written : (o : Opcode) (os : List Operand) → is_test_shape (shape_of o) ≡ true → AreUnder (kinds_of o) os
    → IsWritten (test_text (atom_text (name_of o)) os) (made o os)
test_written o [] shape are = absurd (some_under (kinds_of o) (either_true (is_test_shape (shape_of o)) (not (length (kinds_of o) == 0)) (test_labelled o) shape) are)
test_written o (l ∷ os) shape are = labelled_written o l os shape are
