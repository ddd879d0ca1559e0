-- Tests of labels by a function that marks labels are tests by the list of the marked labels.
use Rattle.std.proofs.Common.{◌≡◌, ℕ, Bool, ◌&&◌, ◌||◌, true, false, List, [], ◌∷◌, ◌++◌, length, refl, ap, sym, ◌∙◌, ◌==◌, not, nat_lt}
use Rattle.std.specs.List.{list_all, zip}
use Rattle.std.proofs.lemmas.List.Folds.{list_any-append}
use Rattle.beam_model.specs.declared.instruction.Argument.{Argument}
use Rattle.beam_model.specs.declared.instruction.Operand.{Operand}
use Rattle.beam_model.specs.declared.instruction.Instruction.{Instruction}
use Rattle.beam_model.specs.declared.opcode.Kind.{Kind}
use Rattle.beam_model.specs.Prelude.{kinds_of, is_among, are_new, is_none_label, is_argument_defined, is_defined_in, is_defined, are_targets}
use Rattle.beam_model.specs.declared.instruction.Argument.TheVariants as argument
use Rattle.beam_model.specs.declared.instruction.Operand.TheVariants as operand
use Rattle.beam_model.specs.declared.opcode.Kind.TheVariants as kind
use Rattle.beam_check.specs.LabelSet.{is_argument_marked, is_marked_in, is_target, are_marked_targets}

-- ---- labels that are named

abbrev pub Tells : (ℕ → Bool) → List ℕ → Type 0
Tells marked ns = (n : ℕ) → marked n ≡ is_among n ns

list_all_same : {X : Type 0} (p q : X → Bool) → ((x : X) → p x ≡ q x) → (xs : List X) → list_all p xs ≡ list_all q xs
list_all_same p q h [] = refl
list_all_same p q h (x ∷ xs) = ap (λ b. b && list_all p xs) (h x) ∙ ap (λ b. q x && b) (list_all_same p q h xs)

argument_same : (marked : ℕ → Bool) (ns : List ℕ) → Tells marked ns → (a : Argument) → is_argument_marked marked a ≡ is_argument_defined ns a
argument_same marked ns h (argument.Label n) = ap (λ b. nat_lt 0 n && b) (h n)
argument_same marked ns h (argument.Term t) = refl
argument_same marked ns h (argument.Number n) = refl
argument_same marked ns h (argument.X n) = refl
argument_same marked ns h (argument.Y n) = refl

operand_same : (marked : ℕ → Bool) (ns : List ℕ) → Tells marked ns → (o : Operand) → is_marked_in marked o ≡ is_defined_in ns o
operand_same marked ns h (operand.One a) = argument_same marked ns h a
operand_same marked ns h (operand.Import i) = refl
operand_same marked ns h (operand.List as') = list_all_same (is_argument_marked marked) (is_argument_defined ns) (argument_same marked ns h) as'

target_same : (marked : ℕ → Bool) (ns : List ℕ) → Tells marked ns → (k : Kind) (o : Operand) → is_target marked k o ≡ is_defined ns k o
target_same marked ns h kind.FailLabel o = ap (λ b. is_none_label o || b) (operand_same marked ns h o)
target_same marked ns h _ o = operand_same marked ns h o

targets_same : (marked : ℕ → Bool) (ns : List ℕ) → Tells marked ns → (i : Instruction) → are_marked_targets marked i ≡ are_targets ns i
targets_same marked ns h i =
    ap (λ b. (length (kinds_of i.opcode) == length i.operands) && b) (list_all_same (λ (p : Kind × Operand). is_target marked p.0 p.1) (λ (p : Kind × Operand). is_defined ns p.0 p.1) (λ (p : Kind × Operand). target_same marked ns h p.0 p.1) (zip (kinds_of i.opcode) i.operands))

pub all_targets_same : (marked : ℕ → Bool) (ns : List ℕ) → Tells marked ns → (code : List Instruction) → list_all (are_marked_targets marked) code ≡ list_all (are_targets ns) code
all_targets_same marked ns h code = list_all_same (are_marked_targets marked) (are_targets ns) (targets_same marked ns h) code

-- ---- labels that are new

-- no number is marked, and none stands twice
abbrev pub are_unmarked : (ℕ → Bool) → List ℕ → Bool
are_unmarked marked [] = true
are_unmarked marked (n ∷ rest) = not (marked n) && are_unmarked (λ m. m == n || marked m) rest

unmarked_same : (p q : ℕ → Bool) → ((n : ℕ) → p n ≡ q n) → (ns : List ℕ) → are_unmarked p ns ≡ are_unmarked q ns
unmarked_same p q h [] = refl
unmarked_same p q h (n ∷ rest) =
    ap (λ b. not b && are_unmarked (λ m. m == n || p m) rest) (h n)
    ∙ ap (λ b. not (q n) && b) (unmarked_same (λ m. m == n || p m) (λ m. m == n || q m) (λ m. ap (λ b. m == n || b) (h m)) rest)

or_swapped : (a b : Bool) → (a || b) ≡ (b || (a || false))
or_swapped true true = refl
or_swapped true false = refl
or_swapped false true = refl
or_swapped false false = refl

-- where exactly the earlier numbers are marked, no number stands among them or twice
unmarked_new : (marked : ℕ → Bool) (before ns : List ℕ) → Tells marked before → are_unmarked marked ns ≡ are_new before ns
unmarked_new marked before [] h = refl
unmarked_new marked before (n ∷ rest) h =
    let more : Tells (λ m. m == n || marked m) (before ++ n ∷ []) = λ m. or_swapped (m == n) (marked m) ∙ ap (λ b. b || (m == n || false)) (h m) ∙ sym (list_any-append (λ k. m == k) before (n ∷ [])) in
    ap (λ b. not b && are_unmarked (λ m. m == n || marked m) rest) (h n)
    ∙ ap (λ b. not (is_among n before) && b) (unmarked_new (λ m. m == n || marked m) (before ++ n ∷ []) rest more)

pub none_marked : (marked : ℕ → Bool) (ns : List ℕ) → ((n : ℕ) → marked n ≡ false) → are_unmarked marked ns ≡ are_new [] ns
none_marked marked ns h = unmarked_new marked [] ns h

pub one_more : (old new : ℕ → Bool) (label : ℕ) (ns : List ℕ) → ((n : ℕ) → new n ≡ (n == label || old n)) → true ≡ not (old label) → are_unmarked new ns ≡ are_unmarked old (label ∷ ns)
one_more old new label ns h e =
    unmarked_same new (λ m. m == label || old m) h ns ∙ ap (λ b. b && are_unmarked (λ m. m == label || old m) ns) e

or_plain : (b c : Bool) → (b || c) ≡ (b || (false || c))
or_plain true c = refl
or_plain false c = refl

or_moved : (a b c : Bool) → ((a || b) || c) ≡ (b || (a || c))
or_moved true true c = refl
or_moved true false c = refl
or_moved false b c = or_plain b c

pub among_more : (old new : ℕ → Bool) (label : ℕ) (ns : List ℕ) → ((n : ℕ) → new n ≡ (n == label || old n)) → (n : ℕ) → (new n || is_among n ns) ≡ (old n || is_among n (label ∷ ns))
among_more old new label ns h n = ap (λ b. b || is_among n ns) (h n) ∙ or_moved (n == label) (old n) (is_among n ns)
