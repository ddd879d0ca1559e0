-- Lists of no elements, which are passed over.
use Rattle.std.proofs.Common.{◌≡◌, ℕ, ◌-◌, ◌≤◌, Bool, true, false, cond, nat_eq, List, [], ◌∷◌, ◌++◌, length, take, drop, Ok, refl, ap, subst, ◌∙◌, arith, inl, inr}
use Rattle.std.specs.List.{starts_with}
use Rattle.std.proofs.lemmas.List.{take_rest}
use Rattle.std.proofs.lemmas.Bool.{cases_lt}
use Rattle.std.specs.Int.{from_be_bytes, w32}
use Rattle.beam_model.specs.Prelude.{after_empty_lists, empty_list, byte_at, big_endian_at}
use Rattle.beam_etf.proofs.ReadingSound.{byte_takes, number_takes}

skipped : (bytes : List ℕ) → 5 ≤ length bytes → starts_with nat_eq bytes empty_list ≡ true → after_empty_lists (drop 5 bytes) ≡ after_empty_lists bytes
unfolding after_empty_lists
skipped [] k h = absurd (omega arith)
skipped (a ∷ []) k h = absurd (omega arith)
skipped (a ∷ b ∷ []) k h = absurd (omega arith)
skipped (a ∷ b ∷ c ∷ []) k h = absurd (omega arith)
skipped (a ∷ b ∷ c ∷ d ∷ []) k h = absurd (omega arith)
skipped (a ∷ b ∷ c ∷ d ∷ e ∷ rest) k h = rw h refl

-- a step of the loop
pub skip_one : (bytes : List ℕ) → 5 ≤ length bytes → starts_with nat_eq bytes empty_list ≡ true → after_empty_lists (take (length bytes - 5) (drop 5 bytes)) ≡ after_empty_lists bytes
skip_one bytes k h = ap after_empty_lists (take_rest bytes 5) ∙ skipped bytes k h

pub skip_none : (bytes : List ℕ) → starts_with nat_eq bytes empty_list ≡ false → after_empty_lists bytes ≡ bytes
unfolding after_empty_lists
skip_none [] h = refl
skip_none (a ∷ []) h = refl
skip_none (a ∷ b ∷ []) h = refl
skip_none (a ∷ b ∷ c ∷ []) h = refl
skip_none (a ∷ b ∷ c ∷ d ∷ []) h = refl
skip_none (a ∷ b ∷ c ∷ d ∷ e ∷ rest) h = rw h refl

-- no list of no elements stands after them
none_left : (bytes : List ℕ) (b c d e : ℕ) (rest : List ℕ) → after_empty_lists bytes ≡ 108 ∷ b ∷ c ∷ d ∷ e ∷ rest → starts_with nat_eq (108 ∷ b ∷ c ∷ d ∷ e ∷ rest) empty_list ≡ false
unfolding after_empty_lists
none_left [] b c d e rest h = absurd (omega (arith, ap length h))
none_left (a ∷ []) b c d e rest h = absurd (omega (arith, ap length h))
none_left (a ∷ a1 ∷ []) b c d e rest h = absurd (omega (arith, ap length h))
none_left (a ∷ a1 ∷ a2 ∷ []) b c d e rest h = absurd (omega (arith, ap length h))
none_left (a ∷ a1 ∷ a2 ∷ a3 ∷ []) b c d e rest h = absurd (omega (arith, ap length h))
none_left (a ∷ a1 ∷ a2 ∷ a3 ∷ a4 ∷ others) b c d e rest h = by (none_left others b c d e rest) (starts_with nat_eq (a ∷ a1 ∷ a2 ∷ a3 ∷ a4 ∷ others) empty_list) refl h
  where
    by : (after_empty_lists others ≡ 108 ∷ b ∷ c ∷ d ∷ e ∷ rest → starts_with nat_eq (108 ∷ b ∷ c ∷ d ∷ e ∷ rest) empty_list ≡ false)
        → (test : Bool) → starts_with nat_eq (a ∷ a1 ∷ a2 ∷ a3 ∷ a4 ∷ others) empty_list ≡ test → cond test (after_empty_lists others) (a ∷ a1 ∷ a2 ∷ a3 ∷ a4 ∷ others) ≡ 108 ∷ b ∷ c ∷ d ∷ e ∷ rest
        → starts_with nat_eq (108 ∷ b ∷ c ∷ d ∷ e ∷ rest) empty_list ≡ false
    by behind_it true k h = behind_it h
    by behind_it false k h = subst (λ (xs : List ℕ). starts_with nat_eq xs empty_list ≡ false) h k

four_cells : (field after : List ℕ) (n : ℕ) (bytes : List ℕ) → length field ≡ 4 → from_be_bytes w32 field ≡ n → after_empty_lists bytes ≡ 108 ∷ (field ++ after) → 1 ≤ n
four_cells [] after n bytes l v h = absurd (omega arith)
four_cells (b ∷ []) after n bytes l v h = absurd (omega arith)
four_cells (b ∷ c ∷ []) after n bytes l v h = absurd (omega arith)
four_cells (b ∷ c ∷ d ∷ []) after n bytes l v h = absurd (omega arith)
four_cells (b ∷ c ∷ d ∷ e ∷ []) after n bytes l v h =
    elim (cases_lt n 1) [
      | inr le ↦ le
      | inl lt ↦
          let k = none_left bytes b c d e after h in
          let b0 : b ≡ 0 = omega (arith, v, lt) in
          let c0 : c ≡ 0 = omega (arith, v, lt) in
          let d0 : d ≡ 0 = omega (arith, v, lt) in
          let e0 : e ≡ 0 = omega (arith, v, lt) in
          absurd (cc (rw (b0, c0, d0, e0) at k))
    ]
four_cells (b ∷ c ∷ d ∷ e ∷ f ∷ field) after n bytes l v h = absurd (omega arith)

-- the count of a list that stands after them
pub no_empty : (bytes rest after : List ℕ) (tag n : ℕ) → byte_at (after_empty_lists bytes) ≡ Ok (tag, rest) → tag ≡ 108 → big_endian_at w32 rest ≡ Ok (n, after) → 1 ≤ n
no_empty bytes rest after tag n h is k =
    let f = number_takes w32 rest n after k in
    four_cells f.0 after n bytes f.1.wide f.2 (byte_takes (after_empty_lists bytes) tag rest h ∙ (λ i. is i ∷ f.1.parts i))
