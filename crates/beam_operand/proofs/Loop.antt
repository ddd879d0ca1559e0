-- Reading members one after the other, as a loop does.
use Rattle.std.proofs.Common.{◌≡◌, ℕ, suc, ◌-◌, ◌+◌, ◌≤◌, ◌<◌, List, [], ◌∷◌, ◌++◌, Result, Ok, Err, refl, sym, ap, ◌∙◌, append_assoc, arith, append-nil}
use Rattle.beam_model.specs.declared.compact.Compact.{Compact}
use Rattle.beam_model.specs.Prelude.{OperandFault, single_at, members_at}
use Rattle.beam_model.specs.Compact.{◌>>=◌}
use Rattle.beam_operand.specs.declared.error.OperandError.{OperandError}
use Rattle.beam_operand.specs.declared.error.OperandError.TheVariants.{Truncated, UnsupportedOperand, IntegerTooLarge, BadSign, NoMemory}
use Rattle.beam_operand.specs.Faults.{Fails}

-- the members so far, and then those of the rest
abbrev pub with_front : List Compact → Result (List Compact × List ℕ) OperandFault → Result (List Compact × List ℕ) OperandFault
with_front front read = read >>= λ x. Ok (front ++ x.0, x.1)

regroup : (front : List Compact) (n : Compact) (read : Result (List Compact × List ℕ) OperandFault) → with_front front (read >>= λ x. Ok (n ∷ x.0, x.1)) ≡ with_front (front ++ n ∷ []) read
regroup front n (Ok x) = ap (λ (ns : List Compact). Ok (ns, x.1)) (simp append_assoc)
regroup front n (Err f) = refl

pub goes_on : (front : List Compact) (count i : ℕ) (bytes : List ℕ) (n : Compact) (after : List ℕ) (total : Result (List Compact × List ℕ) OperandFault) → i < count → single_at bytes ≡ Ok (n, after)
    → with_front front (members_at (count - i) bytes) ≡ total → with_front (front ++ n ∷ []) (members_at (count - (i + 1)) after) ≡ total
unfolding members_at
goes_on front count i bytes n after total lt h so_far =
    let k : count - i ≡ suc (count - (i + 1)) = omega arith in
    let one : with_front front (members_at (count - i) bytes) ≡ with_front (front ++ n ∷ []) (members_at (count - (i + 1)) after) = rw (k, h) (regroup front n (members_at (count - (i + 1)) after)) in
    sym one ∙ so_far

-- a fault of the next member is the fault of all
fault_ends : (f : OperandFault) (front : List Compact) (count i : ℕ) (bytes : List ℕ) (total : Result (List Compact × List ℕ) OperandFault) → i < count → single_at bytes ≡ Err f
    → with_front front (members_at (count - i) bytes) ≡ total → total ≡ Err f
unfolding members_at
fault_ends f front count i bytes total lt h so_far =
    let k : count - i ≡ suc (count - (i + 1)) = omega arith in
    let one : with_front front (members_at (count - i) bytes) ≡ Err f = rw (k, h) refl in
    sym so_far ∙ one

pub ends : (e : OperandError) (front : List Compact) (count i : ℕ) (bytes : List ℕ) (total : Result (List Compact × List ℕ) OperandFault) → i < count → Fails e (single_at bytes)
    → with_front front (members_at (count - i) bytes) ≡ total → Fails e total
ends NoMemory front count i bytes total lt h so_far = tt
ends Truncated front count i bytes total lt h so_far = fault_ends _ front count i bytes total lt h so_far
ends UnsupportedOperand front count i bytes total lt h so_far = fault_ends _ front count i bytes total lt h so_far
ends IntegerTooLarge front count i bytes total lt h so_far = fault_ends _ front count i bytes total lt h so_far
ends BadSign front count i bytes total lt h so_far = fault_ends _ front count i bytes total lt h so_far

pub is_done : (front : List Compact) (count i : ℕ) (bytes : List ℕ) (total : Result (List Compact × List ℕ) OperandFault) → count ≤ i → with_front front (members_at (count - i) bytes) ≡ total → total ≡ Ok (front, bytes)
unfolding members_at
is_done front count i bytes total le so_far =
    let k : count - i ≡ 0 = omega arith in
    let one : with_front front (members_at (count - i) bytes) ≡ Ok (front, bytes) = rw k (ap (λ (ns : List Compact). Ok (ns, bytes)) (append-nil front)) in
    sym so_far ∙ one
