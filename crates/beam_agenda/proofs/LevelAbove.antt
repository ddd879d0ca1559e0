-- The list above a list that changes.
use Rattle.std.proofs.Common.{◌≡◌, ℕ, ◌-◌, ◌*◌, ◌/◌, ◌%◌, ◌<◌, ◌≤◌, List, [], ◌∷◌, ◌++◌, length, get_or, slice_get, sym, ap, subst, ◌∙◌, length-append, arith, Option, Some}
use Rattle.std.proofs.Math.ListN.{set, length-set}
use Rattle.std.proofs.lemmas.Option.{slice_get-get_or}
use Rattle.beam_agenda.specs.declared.times.Above.{Above}
use Rattle.beam_agenda.specs.Prelude.{earlier, pairs, length-pairs}
use Rattle.beam_agenda.specs.TimeLevels.{LevelsAgree}
use Rattle.beam_agenda.proofs.Pairing.{double, double_half, suc_double_half, pairs-set, pairs-append_even, pairs-append_odd}

-- the list above a list of two entries or more
abbrev pub IsAbove : List (Option ℕ) → List (Option ℕ) → Type 0
IsAbove ts above = (2 ≤ length ts) × (above ≡ pairs ts)

pub least-length-pairs : (ts : List (Option ℕ)) → length ts ≤ 2 * length (pairs ts)
least-length-pairs [] = omega arith
least-length-pairs (a ∷ []) = omega arith
least-length-pairs (a ∷ b ∷ rest) = omega (arith, least-length-pairs rest)

pub half_within : (ts above : List (Option ℕ)) (n : ℕ) → above ≡ pairs ts → n < length ts → n / 2 < length above
half_within ts above n h l = omega (arith, ap length h, least-length-pairs ts)

pub set_above : (ts above new : List (Option ℕ)) (at : ℕ) (e pair : Option ℕ) → IsAbove ts above → Some pair ≡ slice_get (pairs (set ts at e)) (at / 2) → new ≡ set above (at / 2) pair → IsAbove (set ts at e) new
set_above ts above new at e pair h p n = (
  omega (arith, h.0, length-set ts at e),
  n ∙ (ap (λ ts. set ts (at / 2) pair) h.1 ∙ sym (pairs-set ts at e pair (sym p))),
)

pub push_first : (ts above : List (Option ℕ)) (first e both : Option ℕ) → length ts ≤ 1 → 0 < length ts → first ≡ get_or ts 0 first → both ≡ earlier first e → above ≡ both ∷ [] → IsAbove (ts ++ e ∷ []) above
push_first [] above first e both l g f b h = absurd (omega arith)
push_first (a ∷ []) above first e both l g f b h = (omega arith, h ∙ ap (λ c. c ∷ []) (b ∙ ap (λ a. earlier a e) f))
push_first (a ∷ b' ∷ ts) above first e both l g f b h = absurd (omega arith)

pub push_even : (ts above new : List (Option ℕ)) (e : Option ℕ) → IsAbove ts above → length ts % 2 ≡ 0 → new ≡ above ++ e ∷ [] → IsAbove (ts ++ e ∷ []) new
push_even ts above new e h even n = (
  omega (arith, h.0, length-append ts (e ∷ [])),
  n ∙ (ap (λ ts. ts ++ e ∷ []) h.1 ∙ sym (pairs-append_even ts (length ts / 2) e (double_half (length ts) even))),
)

pub push_odd : (ts above new : List (Option ℕ)) (last e both : Option ℕ) → IsAbove ts above → length ts % 2 ≡ 1 → last ≡ get_or ts (length ts - 1) last → both ≡ earlier last e → new ≡ set above (length ts / 2) both → IsAbove (ts ++ e ∷ []) new
push_odd ts above new last e both h odd f b n =
    let k : ℕ = length ts / 2 in
    let at : double k ≡ length ts - 1 = omega (arith, suc_double_half (length ts) odd) in
    let there : slice_get ts (double k) ≡ Some last = ap (slice_get ts) at ∙ (slice_get-get_or ts (length ts - 1) last (omega (arith, h.0)) ∙ ap Some (sym f)) in (
      omega (arith, h.0, length-append ts (e ∷ [])),
      n ∙ (ap (λ ts. set ts k both) h.1 ∙ (ap (set (pairs ts) k) b ∙ sym (pairs-append_odd ts k e last (suc_double_half (length ts) odd) there))),
    )

pub above_shorter : (ts above : List (Option ℕ)) → 2 ≤ length ts → above ≡ pairs ts → length above < length ts
above_shorter ts above h e = omega (arith, h, ap length e, length-pairs ts)

pub levels_as : (ts now : List (Option ℕ)) (above top : Above) → now ≡ ts → top ≡ above → LevelsAgree ts above → LevelsAgree now top
levels_as ts now above top e a h = subst (λ ts. LevelsAgree ts top) (sym e) (subst (LevelsAgree ts) (sym a) h)
