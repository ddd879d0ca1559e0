-- Printed instructions of natives are read again.
use Rattle.std.proofs.Common.{◌≡◌, ℕ, true, false, List, [], ◌∷◌, ◌++◌, Some, refl, sym, ap, ◌∙◌, subst, append_assoc, arith, codes, ◌==◌, ◌&&◌}
use Rattle.std.specs.Fmt.{decimal}
use Rattle.std.specs.Str.{is_utf8, chars}
use Rattle.std.proofs.lemmas.Fmt.{decimal_digit}
use Rattle.beam_model.specs.declared.function.Import.{Import}
use Rattle.beam_model.specs.declared.instruction.Operand.{Operand}
use Rattle.beam_model.specs.declared.opcode.Opcode.{Opcode}
use Rattle.beam_model.specs.Prelude.{same_text, is_reserved, atom_text, kinds_of, tagged, operand_text, operands_text, call_text, bif0_text, bif_text, gc_bif_text, raise_text, label_of_text, raise_by, raise_of_text, counted, bif0_of, bif_by, is_raise_call, bif_of, gc_bif_of, instruction_by, item_by}
use Rattle.beam_model.specs.declared.instruction.Operand.TheVariants as operand
use Rattle.beam_model.specs.declared.opcode.Opcode.TheVariants as op
use Rattle.beam_listing.specs.Typed.{IsImport}
use Rattle.beam_listing.proofs.Traces.{square, brace}
use Rattle.beam_listing.proofs.Elements.{IsPart, AreParts, closed}
use Rattle.beam_listing.proofs.Operands.{IsWord, word, word_part, number_part, tagged_part, f_word, f_again, atom_part, atom_whole}
use Rattle.beam_listing.proofs.Members.{two, tuple_headed}
use Rattle.beam_print.proofs.Texts.{call_of_last}
use Rattle.beam_listing.proofs.Under.{IsNative, AreUnder, operand_part, operands_again}
use Rattle.beam_listing.proofs.Written.{IsWritten, plain_texts, operands_closed, list_end, as_item, made, list_texts, texts_part, texts_parts, tuple_written, headed_item}

bif_word : IsWord (codes "bif")
unfolding is_reserved is_utf8 chars lib.Utf8.encode
bif_word = word (codes "bif") refl refl (omega arith)

gc_bif_word : IsWord (codes "gc_bif")
unfolding is_reserved is_utf8 chars lib.Utf8.encode
gc_bif_word = word (codes "gc_bif") refl refl (omega arith)

raise_word : IsWord (codes "raise")
unfolding is_reserved is_utf8 chars lib.Utf8.encode
raise_word = word (codes "raise") refl refl (omega arith)

bif_item : (ps : List (List ℕ)) → item_by (codes "bif") ps ≡ as_item (bif_of ps)
unfolding item_by instruction_by as_item
bif_item ps = refl

gc_bif_item : (ps : List (List ℕ)) → item_by (codes "gc_bif") ps ≡ as_item (gc_bif_of ps)
unfolding item_by instruction_by as_item
gc_bif_item ps = refl

raise_item : (list : List ℕ) → item_by (codes "raise") (list ∷ []) ≡ as_item (raise_of_text list)
unfolding item_by instruction_by as_item
raise_item list = refl

-- ---- arguments and the last operand

-- the operands of a native: its arguments and its destination
record IsCall (i : Import) (l : Operand) (os : List Operand) (d : Operand) : Type 0 where
  native : IsImport i
  label : IsPart (operand_text l)
  arguments : AreParts (plain_texts os)
  last : IsPart (operand_text d)

call_is : (os : List Operand) (d : Operand) → call_text [] (os ++ d ∷ []) ++ 125 ∷ [] ≡ closed square [] (plain_texts os) ++ (44 ∷ (operand_text d ++ 125 ∷ []))
call_is os d =
    let s : List ℕ = operands_text [] os in
    let u : List ℕ = operand_text d in
    ap (λ (x : List ℕ). x ++ 125 ∷ []) (call_of_last [] os d)
    ∙ append_assoc (s ++ 93 ∷ 44 ∷ []) u (125 ∷ [])
    ∙ append_assoc s (93 ∷ 44 ∷ []) (u ++ 125 ∷ [])
    ∙ sym (append_assoc s (93 ∷ []) (44 ∷ (u ++ 125 ∷ [])))
    ∙ ap (λ (x : List ℕ). x ++ (44 ∷ (u ++ 125 ∷ []))) (operands_closed square [] os)

-- ---- natives with arguments

bif_parts : Operand → List Operand → Operand → List (List ℕ)
bif_parts l os d = operand_text l ∷ list_texts (plain_texts os) ∷ operand_text d ∷ []

bif_is : (w : List ℕ) (i : Import) (l : Operand) (os : List Operand) (d : Operand)
    → bif_text w (l ∷ operand.Import i ∷ (os ++ d ∷ [])) ≡ 123 ∷ closed brace [] (codes "bif" ∷ atom_text i.function ∷ bif_parts l os d)
unfolding bif_parts list_texts
bif_is w i l os d =
    let f : List ℕ = atom_text i.function in
    let s : List ℕ = operand_text l in
    let call : List ℕ = call_text [] (os ++ d ∷ []) in
    ap (λ (x : List ℕ). codes "{bif," ++ x)
    (append_assoc (f ++ 44 ∷ [] ++ s ++ 44 ∷ 91 ∷ []) call (125 ∷ [])
    ∙ append_assoc (f ++ 44 ∷ [] ++ s) (44 ∷ 91 ∷ []) (call ++ 125 ∷ [])
    ∙ two f s (44 ∷ 91 ∷ (call ++ 125 ∷ []))
    ∙ ap (λ (x : List ℕ). f ++ (44 ∷ (s ++ (44 ∷ 91 ∷ x)))) (call_is os d))

bif_again : (o : Opcode) (i : Import) (l : Operand) (os : List Operand) (d : Operand) → IsCall i l os d → is_raise_call i.function (plain_texts os) ≡ false
    → bif_by (atom_text i.function) (operand_text l) (plain_texts os) (operand_text d) ≡ Some (made o (l ∷ operand.Import i ∷ (os ++ d ∷ [])))
    → bif_of (atom_text i.function ∷ bif_parts l os d) ≡ Some (made o (l ∷ operand.Import i ∷ (os ++ d ∷ [])))
unfolding bif_of bif_parts
bif_again o i l os d is other read = rw (atom_whole i.function is.native.function, texts_parts (plain_texts os) is.arguments, other) read

bif_written : (o : Opcode) (w : List ℕ) (i : Import) (l : Operand) (os : List Operand) (d : Operand) → IsCall i l os d
    → is_raise_call i.function (plain_texts os) ≡ false
    → bif_by (atom_text i.function) (operand_text l) (plain_texts os) (operand_text d) ≡ Some (made o (l ∷ operand.Import i ∷ (os ++ d ∷ [])))
    → IsWritten (bif_text w (l ∷ operand.Import i ∷ (os ++ d ∷ []))) (made o (l ∷ operand.Import i ∷ (os ++ d ∷ [])))
unfolding as_item bif_parts
bif_written o w i l os d is other read =
    let f : List ℕ = atom_text i.function in
    let all : List Operand = l ∷ operand.Import i ∷ (os ++ d ∷ []) in
    let ps : List (List ℕ) = bif_parts l os d in
    let parts : AreParts ps = (is.label, (texts_part (plain_texts os) is.arguments, (is.last, tt))) in
    tuple_written (bif_text w all) (codes "bif" ∷ f ∷ ps) (made o all) (bif_is w i l os d) (word_part (codes "bif") bif_word, (atom_part i.function, parts))
    (headed_item (closed brace [] (codes "bif" ∷ f ∷ ps)) (codes "bif") (f ∷ ps) (tuple_headed (codes "bif") f ps bif_word (atom_part i.function) parts)
    ∙ bif_item (f ∷ ps) ∙ ap as_item (bif_again o i l os d is other read))

bif1_read : (i : Import) (l a d : Operand) → AreUnder (kinds_of op.Bif1) (l ∷ operand.Import i ∷ a ∷ d ∷ [])
    → bif_by (atom_text i.function) (operand_text l) (operand_text a ∷ []) (operand_text d) ≡ Some (made op.Bif1 (l ∷ operand.Import i ∷ a ∷ d ∷ []))
unfolding bif_by counted
bif1_read i l a d are = rw (operands_again [] (kinds_of op.Bif1) (l ∷ operand.Import i ∷ a ∷ d ∷ []) are) refl

bif2_read : (i : Import) (l a b d : Operand) → AreUnder (kinds_of op.Bif2) (l ∷ operand.Import i ∷ a ∷ b ∷ d ∷ [])
    → bif_by (atom_text i.function) (operand_text l) (operand_text a ∷ operand_text b ∷ []) (operand_text d) ≡ Some (made op.Bif2 (l ∷ operand.Import i ∷ a ∷ b ∷ d ∷ []))
unfolding bif_by counted
bif2_read i l a b d are = rw (operands_again [] (kinds_of op.Bif2) (l ∷ operand.Import i ∷ a ∷ b ∷ d ∷ []) are) refl

no_raise : (i : Import) → IsNative 2 i → same_text i.function (codes "raise") ≡ false
no_raise i is = sym (ap (λ (n : ℕ). n == 2 && same_text i.function (codes "raise")) is.arity) ∙ is.other

pub bif1_any : (w : List ℕ) (os : List Operand) → AreUnder (kinds_of op.Bif1) os → IsWritten (bif_text w os) (made op.Bif1 os)
bif1_any w [] are = absurd are
bif1_any w (l ∷ []) are = absurd are.1
bif1_any w (l ∷ operand.One x ∷ os) are = absurd (let e : false ≡ true = are.1.0.of_kind in cc)
bif1_any w (l ∷ operand.List x ∷ os) are = absurd (let e : false ≡ true = are.1.0.of_kind in cc)
bif1_any w (l ∷ operand.Import i ∷ []) are = absurd are.1.1
bif1_any w (l ∷ operand.Import i ∷ a ∷ []) are = absurd are.1.1.1
bif1_any w (l ∷ operand.Import i ∷ a ∷ d ∷ []) are =
    let rest = are.1.1 in
    let is : IsCall i l (a ∷ []) d =
    record { native = are.1.0.operand; label = operand_part l are.0.operand; arguments = (operand_part a rest.0.operand, tt); last = operand_part d rest.1.0.operand } in
    bif_written op.Bif1 w i l (a ∷ []) d is refl (bif1_read i l a d are)
bif1_any w (l ∷ operand.Import i ∷ a ∷ d ∷ o ∷ os) are = absurd are.1.1.1.1

pub bif2_any : (w : List ℕ) (os : List Operand) → AreUnder (kinds_of op.Bif2) os → IsWritten (bif_text w os) (made op.Bif2 os)
bif2_any w [] are = absurd are
bif2_any w (l ∷ []) are = absurd are.1
bif2_any w (l ∷ operand.One x ∷ os) are = absurd (let e : false ≡ true = are.1.0.of_kind in cc)
bif2_any w (l ∷ operand.List x ∷ os) are = absurd (let e : false ≡ true = are.1.0.of_kind in cc)
bif2_any w (l ∷ operand.Import i ∷ []) are = absurd are.1.1
bif2_any w (l ∷ operand.Import i ∷ a ∷ []) are = absurd are.1.1.1
bif2_any w (l ∷ operand.Import i ∷ a ∷ b ∷ []) are = absurd are.1.1.1.1
bif2_any w (l ∷ operand.Import i ∷ a ∷ b ∷ d ∷ []) are =
    let rest = are.1.1 in
    let is : IsCall i l (a ∷ b ∷ []) d = record {
      native = are.1.0.operand;
      label = operand_part l are.0.operand;
      arguments = (operand_part a rest.0.operand, (operand_part b rest.1.0.operand, tt));
      last = operand_part d rest.1.1.0.operand;
    } in
    bif_written op.Bif2 w i l (a ∷ b ∷ []) d is (no_raise i are.1.0.built_in) (bif2_read i l a b d are)
bif2_any w (l ∷ operand.Import i ∷ a ∷ b ∷ d ∷ o ∷ os) are = absurd are.1.1.1.1.1

-- ---- natives that take memory

gc_bif_parts : Operand → Operand → List Operand → Operand → List (List ℕ)
gc_bif_parts l v os d = operand_text l ∷ operand_text v ∷ list_texts (plain_texts os) ∷ operand_text d ∷ []

gc_bif_is : (w : List ℕ) (i : Import) (l v : Operand) (os : List Operand) (d : Operand)
    → gc_bif_text w (l ∷ v ∷ operand.Import i ∷ (os ++ d ∷ [])) ≡ 123 ∷ closed brace [] (codes "gc_bif" ∷ atom_text i.function ∷ gc_bif_parts l v os d)
unfolding gc_bif_parts list_texts
gc_bif_is w i l v os d =
    let f : List ℕ = atom_text i.function in
    let s : List ℕ = operand_text l in
    let t : List ℕ = operand_text v in
    let call : List ℕ = call_text [] (os ++ d ∷ []) in
    ap (λ (x : List ℕ). codes "{gc_bif," ++ x)
    (append_assoc (f ++ 44 ∷ [] ++ s ++ 44 ∷ [] ++ t ++ 44 ∷ 91 ∷ []) call (125 ∷ [])
    ∙ append_assoc (f ++ 44 ∷ [] ++ s ++ 44 ∷ [] ++ t) (44 ∷ 91 ∷ []) (call ++ 125 ∷ [])
    ∙ two (f ++ 44 ∷ [] ++ s) t (44 ∷ 91 ∷ (call ++ 125 ∷ []))
    ∙ two f s (44 ∷ (t ++ (44 ∷ 91 ∷ (call ++ 125 ∷ []))))
    ∙ ap (λ (x : List ℕ). f ++ (44 ∷ (s ++ (44 ∷ (t ++ (44 ∷ 91 ∷ x)))))) (call_is os d))

gc_bif_written : (o : Opcode) (w : List ℕ) (i : Import) (l v : Operand) (os : List Operand) (d : Operand) → IsCall i l os d → IsPart (operand_text v)
    → gc_bif_of (atom_text i.function ∷ gc_bif_parts l v os d) ≡ Some (made o (l ∷ v ∷ operand.Import i ∷ (os ++ d ∷ [])))
    → IsWritten (gc_bif_text w (l ∷ v ∷ operand.Import i ∷ (os ++ d ∷ []))) (made o (l ∷ v ∷ operand.Import i ∷ (os ++ d ∷ [])))
unfolding as_item gc_bif_parts
gc_bif_written o w i l v os d is live read =
    let f : List ℕ = atom_text i.function in
    let all : List Operand = l ∷ v ∷ operand.Import i ∷ (os ++ d ∷ []) in
    let ps : List (List ℕ) = gc_bif_parts l v os d in
    let parts : AreParts ps = (is.label, (live, (texts_part (plain_texts os) is.arguments, (is.last, tt)))) in
    tuple_written (gc_bif_text w all) (codes "gc_bif" ∷ f ∷ ps) (made o all) (gc_bif_is w i l v os d) (word_part (codes "gc_bif") gc_bif_word, (atom_part i.function, parts))
    (headed_item (closed brace [] (codes "gc_bif" ∷ f ∷ ps)) (codes "gc_bif") (f ∷ ps) (tuple_headed (codes "gc_bif") f ps gc_bif_word (atom_part i.function) parts)
    ∙ gc_bif_item (f ∷ ps) ∙ ap as_item read)

gc_bif1_read : (i : Import) (l v a d : Operand) → AreParts (operand_text a ∷ []) → AreUnder (kinds_of op.GcBif1) (l ∷ v ∷ operand.Import i ∷ a ∷ d ∷ [])
    → gc_bif_of (atom_text i.function ∷ gc_bif_parts l v (a ∷ []) d) ≡ Some (made op.GcBif1 (l ∷ v ∷ operand.Import i ∷ a ∷ d ∷ []))
unfolding gc_bif_of counted gc_bif_parts
gc_bif1_read i l v a d parts are = rw (texts_parts (operand_text a ∷ []) parts, operands_again [] (kinds_of op.GcBif1) (l ∷ v ∷ operand.Import i ∷ a ∷ d ∷ []) are) refl

gc_bif2_read : (i : Import) (l v a b d : Operand) → AreParts (operand_text a ∷ operand_text b ∷ [])
    → AreUnder (kinds_of op.GcBif2) (l ∷ v ∷ operand.Import i ∷ a ∷ b ∷ d ∷ [])
    → gc_bif_of (atom_text i.function ∷ gc_bif_parts l v (a ∷ b ∷ []) d) ≡ Some (made op.GcBif2 (l ∷ v ∷ operand.Import i ∷ a ∷ b ∷ d ∷ []))
unfolding gc_bif_of counted gc_bif_parts
gc_bif2_read i l v a b d parts are =
    rw (texts_parts (operand_text a ∷ operand_text b ∷ []) parts, operands_again [] (kinds_of op.GcBif2) (l ∷ v ∷ operand.Import i ∷ a ∷ b ∷ d ∷ []) are) refl

pub gc_bif1_any : (w : List ℕ) (os : List Operand) → AreUnder (kinds_of op.GcBif1) os → IsWritten (gc_bif_text w os) (made op.GcBif1 os)
gc_bif1_any w [] are = absurd are
gc_bif1_any w (l ∷ []) are = absurd are.1
gc_bif1_any w (l ∷ v ∷ []) are = absurd are.1.1
gc_bif1_any w (l ∷ v ∷ operand.One x ∷ os) are = absurd (let e : false ≡ true = are.1.1.0.of_kind in cc)
gc_bif1_any w (l ∷ v ∷ operand.List x ∷ os) are = absurd (let e : false ≡ true = are.1.1.0.of_kind in cc)
gc_bif1_any w (l ∷ v ∷ operand.Import i ∷ []) are = absurd are.1.1.1
gc_bif1_any w (l ∷ v ∷ operand.Import i ∷ a ∷ []) are = absurd are.1.1.1.1
gc_bif1_any w (l ∷ v ∷ operand.Import i ∷ a ∷ d ∷ []) are =
    let rest = are.1.1.1 in
    let parts : AreParts (operand_text a ∷ []) = (operand_part a rest.0.operand, tt) in
    let is : IsCall i l (a ∷ []) d = record { native = are.1.1.0.operand; label = operand_part l are.0.operand; arguments = parts; last = operand_part d rest.1.0.operand } in
    gc_bif_written op.GcBif1 w i l v (a ∷ []) d is (operand_part v are.1.0.operand) (gc_bif1_read i l v a d parts are)
gc_bif1_any w (l ∷ v ∷ operand.Import i ∷ a ∷ d ∷ o ∷ os) are = absurd are.1.1.1.1.1

pub gc_bif2_any : (w : List ℕ) (os : List Operand) → AreUnder (kinds_of op.GcBif2) os → IsWritten (gc_bif_text w os) (made op.GcBif2 os)
gc_bif2_any w [] are = absurd are
gc_bif2_any w (l ∷ []) are = absurd are.1
gc_bif2_any w (l ∷ v ∷ []) are = absurd are.1.1
gc_bif2_any w (l ∷ v ∷ operand.One x ∷ os) are = absurd (let e : false ≡ true = are.1.1.0.of_kind in cc)
gc_bif2_any w (l ∷ v ∷ operand.List x ∷ os) are = absurd (let e : false ≡ true = are.1.1.0.of_kind in cc)
gc_bif2_any w (l ∷ v ∷ operand.Import i ∷ []) are = absurd are.1.1.1
gc_bif2_any w (l ∷ v ∷ operand.Import i ∷ a ∷ []) are = absurd are.1.1.1.1
gc_bif2_any w (l ∷ v ∷ operand.Import i ∷ a ∷ b ∷ []) are = absurd are.1.1.1.1.1
gc_bif2_any w (l ∷ v ∷ operand.Import i ∷ a ∷ b ∷ d ∷ []) are =
    let rest = are.1.1.1 in
    let parts : AreParts (operand_text a ∷ operand_text b ∷ []) = (operand_part a rest.0.operand, (operand_part b rest.1.0.operand, tt)) in
    let is : IsCall i l (a ∷ b ∷ []) d = record { native = are.1.1.0.operand; label = operand_part l are.0.operand; arguments = parts; last = operand_part d rest.1.1.0.operand } in
    gc_bif_written op.GcBif2 w i l v (a ∷ b ∷ []) d is (operand_part v are.1.0.operand) (gc_bif2_read i l v a b d parts are)
gc_bif2_any w (l ∷ v ∷ operand.Import i ∷ a ∷ b ∷ d ∷ o ∷ os) are = absurd are.1.1.1.1.1.1

-- ---- natives without arguments

no_label : List ℕ
no_label = codes "{f,0}"

no_label_is : tagged (codes "f") (decimal 0) ≡ no_label
unfolding no_label
no_label_is = ap (tagged (codes "f")) (decimal_digit 0 (omega arith))

no_label_part : IsPart no_label
no_label_part = subst IsPart no_label_is (tagged_part (codes "f") (decimal 0) (word_part (codes "f") f_word) (number_part 0 (omega arith)))

no_label_again : label_of_text no_label ≡ Some 0
no_label_again = ap label_of_text (sym no_label_is) ∙ f_again 0 (omega arith)

bif0_parts : Operand → List (List ℕ)
bif0_parts d = no_label ∷ list_texts [] ∷ operand_text d ∷ []

bif0_is : (w : List ℕ) (i : Import) (d : Operand)
    → bif0_text w (operand.Import i ∷ d ∷ []) ≡ 123 ∷ closed brace [] (codes "bif" ∷ atom_text i.function ∷ bif0_parts d)
unfolding bif0_parts list_texts no_label
bif0_is w i d =
    let f : List ℕ = atom_text i.function in
    let u : List ℕ = operand_text d in
    ap (λ (x : List ℕ). codes "{bif," ++ x) (append_assoc (f ++ codes ",{f,0},[") (93 ∷ 44 ∷ u) (125 ∷ []) ∙ append_assoc f (codes ",{f,0},[") (93 ∷ 44 ∷ (u ++ 125 ∷ [])))

bif0_read : (i : Import) (d : Operand) → AreUnder (kinds_of op.Bif0) (operand.Import i ∷ d ∷ []) → IsImport i
    → bif_of (atom_text i.function ∷ bif0_parts d) ≡ Some (made op.Bif0 (operand.Import i ∷ d ∷ []))
unfolding bif_of bif_by bif0_of bif0_parts
bif0_read i d are is =
    rw (atom_whole i.function is.function, texts_parts [] tt, no_label_again, operands_again [] (kinds_of op.Bif0) (operand.Import i ∷ d ∷ []) are) refl

bif0_written : (w : List ℕ) (i : Import) (d : Operand) → AreUnder (kinds_of op.Bif0) (operand.Import i ∷ d ∷ [])
    → IsWritten (bif0_text w (operand.Import i ∷ d ∷ [])) (made op.Bif0 (operand.Import i ∷ d ∷ []))
unfolding as_item bif0_parts
bif0_written w i d are =
    let f : List ℕ = atom_text i.function in
    let all : List Operand = operand.Import i ∷ d ∷ [] in
    let ps : List (List ℕ) = bif0_parts d in
    let parts : AreParts ps = (no_label_part, (texts_part [] tt, (operand_part d are.1.0.operand, tt))) in
    tuple_written (bif0_text w all) (codes "bif" ∷ f ∷ ps) (made op.Bif0 all) (bif0_is w i d) (word_part (codes "bif") bif_word, (atom_part i.function, parts))
    (headed_item (closed brace [] (codes "bif" ∷ f ∷ ps)) (codes "bif") (f ∷ ps) (tuple_headed (codes "bif") f ps bif_word (atom_part i.function) parts)
    ∙ bif_item (f ∷ ps) ∙ ap as_item (bif0_read i d are are.0.operand))

pub bif0_any : (w : List ℕ) (os : List Operand) → AreUnder (kinds_of op.Bif0) os → IsWritten (bif0_text w os) (made op.Bif0 os)
bif0_any w [] are = absurd are
bif0_any w (operand.One x ∷ os) are = absurd (let e : false ≡ true = are.0.of_kind in cc)
bif0_any w (operand.List x ∷ os) are = absurd (let e : false ≡ true = are.0.of_kind in cc)
bif0_any w (operand.Import i ∷ []) are = absurd are.1
bif0_any w (operand.Import i ∷ d ∷ []) are = bif0_written w i d are
bif0_any w (operand.Import i ∷ d ∷ o ∷ os) are = absurd are.1.1

-- ---- raise

raise_is : (os : List Operand) → raise_text os ≡ 123 ∷ closed brace [] (codes "raise" ∷ list_texts (plain_texts os) ∷ [])
unfolding list_texts
raise_is os = ap (λ (x : List ℕ). codes "{raise,[" ++ x) (list_end os)

raise_read : (a b : Operand) → AreParts (plain_texts (a ∷ b ∷ [])) → AreUnder (kinds_of op.Raise) (a ∷ b ∷ [])
    → raise_of_text (list_texts (plain_texts (a ∷ b ∷ []))) ≡ Some (made op.Raise (a ∷ b ∷ []))
unfolding raise_of_text raise_by
raise_read a b parts are = rw (texts_parts (plain_texts (a ∷ b ∷ [])) parts, operands_again [] (kinds_of op.Raise) (a ∷ b ∷ []) are) refl

raise_written : (a b : Operand) → AreUnder (kinds_of op.Raise) (a ∷ b ∷ []) → IsWritten (raise_text (a ∷ b ∷ [])) (made op.Raise (a ∷ b ∷ []))
unfolding as_item
raise_written a b are =
    let all : List Operand = a ∷ b ∷ [] in
    let list : List ℕ = list_texts (plain_texts all) in
    let parts : AreParts (plain_texts all) = (operand_part a are.0.operand, (operand_part b are.1.0.operand, tt)) in
    let part : IsPart list = texts_part (plain_texts all) parts in
    tuple_written (raise_text all) (codes "raise" ∷ list ∷ []) (made op.Raise all) (raise_is all) (word_part (codes "raise") raise_word, (part, tt))
    (headed_item (closed brace [] (codes "raise" ∷ list ∷ [])) (codes "raise") (list ∷ []) (tuple_headed (codes "raise") list [] raise_word part tt)
    ∙ raise_item list ∙ ap as_item (raise_read a b parts are))

pub raise_any : (os : List Operand) → AreUnder (kinds_of op.Raise) os → IsWritten (raise_text os) (made op.Raise os)
raise_any [] are = absurd are
raise_any (a ∷ []) are = absurd are.1
raise_any (a ∷ b ∷ []) are = raise_written a b are
raise_any (a ∷ b ∷ o ∷ os) are = absurd are.1.1
