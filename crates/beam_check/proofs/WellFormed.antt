-- A listing can be loaded exactly where it is well-formed.
use Rattle.std.proofs.Common.{◌≡◌, ℕ, Bool, true, false, List, [], ◌∷◌, length, Some, refl, sym, ap, ◌∙◌, arith, Option, None, ◌&&◌, ◌==◌, map, unwrap_or, eqb-true}
use Rattle.std.specs.List.{list_all, zip}
use Rattle.std.proofs.lemmas.Bool.{and_parts, and_from}
use Rattle.beam_lemmas.proofs.Tests.{itself}
use Rattle.beam_model.specs.declared.function.Function.{Function}
use Rattle.beam_model.specs.declared.instruction.Operand.{Operand}
use Rattle.beam_model.specs.declared.instruction.Instruction.{Instruction}
use Rattle.beam_model.specs.declared.opcode.Opcode.{Opcode}
use Rattle.beam_model.specs.declared.opcode.Kind.{Kind}
use Rattle.beam_model.specs.Prelude.{Listing, kinds_of, are_labels_lawful, are_heads_lawful, are_exports_lawful, are_natives_known, are_limits_met, are_functions_lawful, functions_of, signature_of, exported_signature, are_signatures_new, is_entry_of, is_number_operand, is_within, all_operands, IsLoadable, label, AreFunctions, IsWellFormed}
use Rattle.beam_model.specs.declared.instruction.Argument.TheVariants as argument
use Rattle.beam_model.specs.declared.instruction.Operand.TheVariants as operand
use Rattle.beam_model.specs.declared.opcode.Opcode.TheVariants as op
use Rattle.beam_model.specs.declared.opcode.Kind.TheVariants as kind
use Rattle.beam_check.proofs.FunctionsComplete.{functions_complete}
use Rattle.beam_check.proofs.FunctionsSound.{IsNumbered, AreNumbered, functions_sound}

-- ---- labels have numbers

abbrev made : Opcode → List Operand → Instruction
made o os = record { opcode = o; operands = os }

numbered_operand : (o : Operand) → is_number_operand o ≡ true → (n : ℕ) × (o ≡ operand.One (argument.Number n))
numbered_operand (operand.One (argument.Number n)) e = (n, refl)
numbered_operand (operand.One (argument.Term t)) e = absurd cc
numbered_operand (operand.One (argument.X n)) e = absurd cc
numbered_operand (operand.One (argument.Y n)) e = absurd cc
numbered_operand (operand.One (argument.Label n)) e = absurd cc
numbered_operand (operand.Import i) e = absurd cc
numbered_operand (operand.List as') e = absurd cc

counted : (os : List Operand) → all_operands is_within (kind.Number ∷ []) os ≡ true → (1 ≡ length os) × (list_all (λ (p : Kind × Operand). is_within p.0 p.1) (zip (kind.Number ∷ []) os) ≡ true)
counted os e =
    let s = and_parts (1 == length os) (list_all (λ (p : Kind × Operand). is_within p.0 p.1) (zip (kind.Number ∷ []) os)) e in
    (eqb-true 1 (length os) s.0, s.1)

numbered_label : (os : List Operand) → all_operands is_within (kind.Number ∷ []) os ≡ true → (n : ℕ) × (made op.Label os ≡ label n)
numbered_label [] e = absurd (omega (arith, (counted [] e).0))
numbered_label (o ∷ []) e =
    let n = numbered_operand o (and_parts (is_number_operand o) true (counted (o ∷ []) e).1).0 in
    (n.0, ap (λ (p : Operand). made op.Label (p ∷ [])) n.1)
numbered_label (o ∷ p ∷ os) e = absurd (omega (arith, (counted (o ∷ p ∷ os) e).0))

numbered_by : (o : Opcode) (os : List Operand) → all_operands is_within (kinds_of o) os ≡ true → IsNumbered (made o os)
numbered_by op.Label os e same = numbered_label os e
numbered_by _ os e same = absurd cc

abbrev within : Instruction → Bool
within i = all_operands is_within (kinds_of i.opcode) i.operands

numbered : (code : List Instruction) → list_all within code ≡ true → AreNumbered code
numbered [] e = tt
numbered (i ∷ code) e =
    let s = and_parts (within i) (list_all within code) e in
    (numbered_by i.opcode i.operands s.0, numbered code s.1)

-- ---- heads

record Lawful (count : ℕ) (o : Option (List Function)) : Type 0 where
  functions : List Function
  found : o ≡ Some functions
  counted : length functions ≡ count
  distinct : are_signatures_new [] (map signature_of functions) ≡ true

lawful : (count : ℕ) (o : Option (List Function)) → are_functions_lawful count o ≡ true → Lawful count o
lawful count None e = absurd cc
lawful count (Some fs) e =
    let s = and_parts (length fs == count) (are_signatures_new [] (map signature_of fs)) e in
    record { functions = fs; found = refl; counted = eqb-true (length fs) count s.0; distinct = s.1 }

-- ---- all of it

record Parts (a b c d f : Bool) : Type 0 where
  labels : a ≡ true
  heads : b ≡ true
  exports : c ≡ true
  natives : d ≡ true
  limits : f ≡ true

parts : (a b c d f : Bool) → (a && b && c && d && f) ≡ true → Parts a b c d f
parts true true true true true e = record { labels = refl; heads = refl; exports = refl; natives = refl; limits = refl }
parts false b c d f e = absurd cc
parts true false c d f e = absurd cc
parts true true false d f e = absurd cc
parts true true true false f e = absurd cc
parts true true true true false e = absurd cc

together : (a b c d f : Bool) → a ≡ true → b ≡ true → c ≡ true → d ≡ true → f ≡ true → (a && b && c && d && f) ≡ true
together a b c d f e1 e2 e3 e4 e5 = rw (e1, e2, e3, e4, e5) refl

pub well_formed : (l : Listing) → IsLoadable l → IsWellFormed l
well_formed l e =
    let p = parts (are_labels_lawful l) (are_heads_lawful l) (are_exports_lawful l) (are_natives_known l) (are_limits_met l) e.0 in
    let h = lawful l.function_count (functions_of l) p.heads in
    let entries : list_all (is_entry_of (unwrap_or (functions_of l) [])) l.exports ≡ list_all (is_entry_of h.functions) l.exports =
    ap (λ (o : Option (List Function)). list_all (is_entry_of (unwrap_or o [])) l.exports) h.found in
    let x = and_parts (list_all (is_entry_of (unwrap_or (functions_of l) [])) l.exports) (are_signatures_new [] (map exported_signature l.exports)) p.exports in
    record {
      labels = p.labels;
      functions = h.functions;
      are_functions = functions_sound l.name l.instructions h.functions (numbered l.instructions p.limits) h.found;
      count = h.counted;
      distinct = h.distinct;
      entries = sym entries ∙ x.0;
      exports = x.1;
      natives = p.natives;
      limits = p.limits;
      framed = e.1;
    }

pub loadable : (l : Listing) → IsWellFormed l → IsLoadable l
loadable l w =
    let found : functions_of l ≡ Some w.functions = functions_complete l.name w.functions l.instructions w.are_functions in
    let count : (length w.functions == l.function_count) ≡ true = rw w.count (itself l.function_count) in
    let heads : are_heads_lawful l ≡ true = ap (are_functions_lawful l.function_count) found ∙ and_from (length w.functions == l.function_count) (are_signatures_new [] (map signature_of w.functions)) count w.distinct in
    let entries : list_all (is_entry_of (unwrap_or (functions_of l) [])) l.exports ≡ true = ap (λ (o : Option (List Function)). list_all (is_entry_of (unwrap_or o [])) l.exports) found ∙ w.entries in
    let exports : are_exports_lawful l ≡ true = and_from (list_all (is_entry_of (unwrap_or (functions_of l) [])) l.exports) (are_signatures_new [] (map exported_signature l.exports)) entries w.exports in
    (together (are_labels_lawful l) (are_heads_lawful l) (are_exports_lawful l) (are_natives_known l) (are_limits_met l) w.labels heads exports w.natives w.limits, w.framed)

pub heads_lawful : (l : Listing) → IsWellFormed l → are_heads_lawful l ≡ true
heads_lawful l w = (parts (are_labels_lawful l) (are_heads_lawful l) (are_exports_lawful l) (are_natives_known l) (are_limits_met l) (loadable l w).0).heads

pub exports_lawful : (l : Listing) → IsWellFormed l → are_exports_lawful l ≡ true
exports_lawful l w = (parts (are_labels_lawful l) (are_heads_lawful l) (are_exports_lawful l) (are_natives_known l) (are_limits_met l) (loadable l w).0).exports

-- ---- functions and faults

-- the functions that stand in the code are found
pub found_functions : (l : Listing) (functions : List Function) → AreFunctions l.name functions l.instructions → functions_of l ≡ Some functions
found_functions l functions are = functions_complete l.name functions l.instructions are

-- the functions that are found stand in the code, where labels have numbers
pub standing_functions : (l : Listing) (functions : List Function) → are_limits_met l ≡ true → functions_of l ≡ Some functions → AreFunctions l.name functions l.instructions
standing_functions l functions limits e = functions_sound l.name l.instructions functions (numbered l.instructions limits) e

abbrev these : List Function → Option (List Function)
these fs = Some fs

-- at most one list of functions stands in the code
pub same_functions : (name : List ℕ) (fs gs : List Function) (code : List Instruction) → AreFunctions name fs code → AreFunctions name gs code → fs ≡ gs
same_functions name fs gs code a b =
    let one : these fs ≡ these gs = sym (functions_complete name fs code a) ∙ functions_complete name gs code b in
    cc (one)
