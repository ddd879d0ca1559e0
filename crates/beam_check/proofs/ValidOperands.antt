-- One pass over the operands tests exactly what the three rules demand of them.
use Rattle.std.proofs.Common.{◌≡◌, ℕ, Bool, ◌&&◌, true, false, List, [], ◌∷◌, length, refl, ap, sym, ◌∙◌, ◌==◌, nat_lt}
use Rattle.std.specs.List.{list_all, zip}
use Rattle.beam_model.specs.declared.instruction.Instruction.{Instruction}
use Rattle.beam_model.specs.declared.instruction.Operand.{Operand}
use Rattle.beam_model.specs.declared.opcode.Kind.{Kind}
use Rattle.beam_model.specs.Prelude.{Listing, kinds_of, defined_labels, are_new, is_known, is_within, all_operands, are_targets, are_labels_lawful, are_natives_known, are_limits_met}
use Rattle.beam_check.specs.LabelSet.{is_target, are_marked_targets}
use Rattle.beam_check.proofs.LabelTests.{Tells, all_targets_same}
use Rattle.beam_check.specs.ValidOperands.{are_valid, are_operands_valid}

apart : (a b c d e f : Bool) → ((a && b && c) && (d && e && f)) ≡ ((a && d) && (b && e) && (c && f))
apart true true true d e f = refl
apart true true false true true f = refl
apart true true false true false f = refl
apart true true false false e f = refl
apart true false c true e f = refl
apart true false c false e f = refl
apart false b c d e f = refl

three_all : {X : Type 0} (p q r : X → Bool) (xs : List X) → list_all (λ x. p x && q x && r x) xs ≡ (list_all p xs && list_all q xs && list_all r xs)
three_all p q r [] = refl
three_all p q r (x ∷ xs) = ap (λ b. (p x && q x && r x) && b) (three_all p q r xs) ∙ apart (p x) (q x) (r x) (list_all p xs) (list_all q xs) (list_all r xs)

counted_once : (n a b c : Bool) → (n && (a && b && c)) ≡ ((n && a) && (n && b) && (n && c))
counted_once true a b c = refl
counted_once false a b c = refl

abbrev known : Instruction → Bool
known i = all_operands is_known (kinds_of i.opcode) i.operands

abbrev within : Instruction → Bool
within i = all_operands is_within (kinds_of i.opcode) i.operands

one_parted : (marked : ℕ → Bool) (i : Instruction) → are_valid marked i ≡ (are_marked_targets marked i && known i && within i)
one_parted marked i =
    let pairs : List (Kind × Operand) = zip (kinds_of i.opcode) i.operands in
    let n : Bool = length (kinds_of i.opcode) == length i.operands in
    ap (λ b. n && b) (three_all (λ (p : Kind × Operand). is_target marked p.0 p.1) (λ (p : Kind × Operand). is_known p.0 p.1) (λ (p : Kind × Operand). is_within p.0 p.1) pairs)
    ∙ counted_once n (list_all (λ (p : Kind × Operand). is_target marked p.0 p.1) pairs) (list_all (λ (p : Kind × Operand). is_known p.0 p.1) pairs) (list_all (λ (p : Kind × Operand). is_within p.0 p.1) pairs)

all_parted : (marked : ℕ → Bool) (code : List Instruction) → list_all (are_valid marked) code ≡ (list_all (are_marked_targets marked) code && list_all known code && list_all within code)
all_parted marked [] = refl
all_parted marked (i ∷ code) =
    ap (λ b. b && list_all (are_valid marked) code) (one_parted marked i)
    ∙ ap (λ b. (are_marked_targets marked i && known i && within i) && b) (all_parted marked code)
    ∙ apart (are_marked_targets marked i) (known i) (within i) (list_all (are_marked_targets marked) code) (list_all known code) (list_all within code)

-- with labels that are new and below the count, the operands decide
both_hold : (a b t n w k : Bool) → a ≡ true → b ≡ true → k ≡ (t && n && w) → k ≡ ((a && b && t) && n && w)
both_hold true true t n w k e f g = g
both_hold false b t n w k e f g = absurd cc
both_hold true false t n w k e f g = absurd cc

one_fails : (a b t n w : Bool) → (a && b) ≡ false → false ≡ ((a && b && t) && n && w)
one_fails true true t n w e = absurd cc
one_fails true false t n w e = refl
one_fails false b t n w e = refl

abbrev below : Listing → Bool
below l = list_all (λ n. nat_lt n l.label_count) (defined_labels l.instructions)

pub valid_where_lawful : (l : Listing) (marked : ℕ → Bool) → Tells marked (defined_labels l.instructions) → are_new [] (defined_labels l.instructions) ≡ true → below l ≡ true → list_all (are_valid marked) l.instructions ≡ are_operands_valid l
valid_where_lawful l marked tells new below_all =
    let parted = all_parted marked l.instructions ∙ ap (λ b. b && are_natives_known l && are_limits_met l) (all_targets_same marked (defined_labels l.instructions) tells l.instructions) in
    both_hold (are_new [] (defined_labels l.instructions)) (below l) (list_all (are_targets (defined_labels l.instructions)) l.instructions) (are_natives_known l) (are_limits_met l) (list_all (are_valid marked) l.instructions) new below_all parted

pub broken_where_unlawful : (l : Listing) → (are_new [] (defined_labels l.instructions) && below l) ≡ false → false ≡ are_operands_valid l
broken_where_unlawful l e =
    one_fails (are_new [] (defined_labels l.instructions)) (below l) (list_all (are_targets (defined_labels l.instructions)) l.instructions) (are_natives_known l) (are_limits_met l) e

three : (a b c : Bool) → (a && b && c) ≡ true → (a ≡ true) × (b ≡ true) × (c ≡ true)
three true true true e = (refl, refl, refl)
three true true false e = absurd cc
three true false c e = absurd cc
three false b c e = absurd cc

pub labels_of_valid : (l : Listing) (valid : Bool) → valid ≡ are_operands_valid l → valid ≡ true → are_labels_lawful l ≡ true
labels_of_valid l valid e t = (three (are_labels_lawful l) (are_natives_known l) (are_limits_met l) (sym e ∙ t)).0

pub natives_of_valid : (l : Listing) (valid : Bool) → valid ≡ are_operands_valid l → valid ≡ true → are_natives_known l ≡ true
natives_of_valid l valid e t = (three (are_labels_lawful l) (are_natives_known l) (are_limits_met l) (sym e ∙ t)).1

pub limits_of_valid : (l : Listing) (valid : Bool) → valid ≡ are_operands_valid l → valid ≡ true → are_limits_met l ≡ true
limits_of_valid l valid e t = (three (are_labels_lawful l) (are_natives_known l) (are_limits_met l) (sym e ∙ t)).2
