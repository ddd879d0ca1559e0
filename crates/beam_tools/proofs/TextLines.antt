-- Lines in a text.
use Rattle.std.proofs.Common.{arith, ◌+◌, ◌≡◌, ap, refl, ℕ, zero, suc, List}
use Rattle.beam_tools.specs.Prelude.{after_mark, after_lines}

-- one line more
pub line_passed : (m n : ℕ) (text : List ℕ) → m ≡ n + 1 → after_lines n (after_mark 10 text) ≡ after_lines m text
unfolding after_lines
line_passed zero n text e = absurd (omega arith)
line_passed (suc m) n text e =
    let same : n ≡ m = omega arith in
    ap (λ (k : ℕ). after_lines k (after_mark 10 text)) same

pub no_line_left : (m : ℕ) (text : List ℕ) → m ≡ 0 → after_lines m text ≡ text
unfolding after_lines
no_line_left zero text e = refl
no_line_left (suc m) text e = absurd (omega arith)
