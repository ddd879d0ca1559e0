-- Readers of terms, at any depth.
use Rattle.std.proofs.Common.{◌≡◌, ℕ, zero, suc, ◌<◌, ◌-◌, List, refl, arith}
use Rattle.beam_model.specs.Prelude.{fault_at, term_by, pairs_by, tuple_by, term_at, pairs_at, tuple_at}

pub term_at_is : (depth : ℕ) (text : List ℕ) → term_at depth text ≡ term_by depth (pairs_at depth) (tuple_at depth) text
unfolding term_at pairs_at tuple_at
term_at_is zero text = refl
term_at_is (suc d) text = refl

pub pairs_at_is : (depth : ℕ) (text : List ℕ) → 0 < depth → pairs_at depth text ≡ pairs_by (term_at (depth - 1)) (pairs_at (depth - 1)) text
unfolding term_at pairs_at
pairs_at_is zero text h = absurd (omega arith)
pairs_at_is (suc d) text h = let e : suc d - 1 ≡ d = omega arith in rw e refl

pub pairs_at_none : (depth : ℕ) (text : List ℕ) → depth ≡ 0 → pairs_at depth text ≡ fault_at text
unfolding pairs_at
pairs_at_none depth text e = rw e refl

pub tuple_at_is : (depth : ℕ) (text : List ℕ) → 0 < depth → tuple_at depth text ≡ tuple_by (term_at (depth - 1)) text
unfolding tuple_at
tuple_at_is zero text h = absurd (omega arith)
tuple_at_is (suc d) text h = let e : suc d - 1 ≡ d = omega arith in rw e refl

pub tuple_at_none : (depth : ℕ) (text : List ℕ) → depth ≡ 0 → tuple_at depth text ≡ fault_at text
unfolding tuple_at
tuple_at_none depth text e = rw e refl
