-- One of several stealers takes a pid.
use Rattle.std.proofs.Common.{◌≡◌, ℕ, ◌<◌, List, [], ◌∷◌, length, set, get_or, slice_index_or, refl, ap, sym, ◌∙◌, subst, arith}
use Rattle.beam_queue.specs.Prelude.{times, one_if, Stealer, stealer_takes, OneStole}
use Rattle.beam_queue.proofs.Sums.{total_set, total-append, map_set}

pub one_stole : (pid : ℕ) (ts : List Stealer) (i : ℕ) (d : Stealer) → i < length ts → OneStole pid ts (set ts i (stealer_takes pid (get_or ts i d)))
one_stole pid ts i d few = (
  map_set (λ t. t.of) ts i (stealer_takes pid (get_or ts i d)) d few refl,
  λ p. let s = total_set (λ t. times p t.taken) ts i (stealer_takes pid (get_or ts i d)) d few in let a = total-append (one_if p) (get_or ts i d).taken (pid ∷ []) in omega (arith, s, a),
)

pub one_stole_at : (pid i : ℕ) (now old : List Stealer) (t u : Stealer) → i < length now → t ≡ slice_index_or now i t → u ≡ stealer_takes pid t → now ≡ old → OneStole pid old (set now i u)
one_stole_at pid i now old t u few at is same =
    let P : List Stealer → Type 0 = λ ts. OneStole pid ts (set now i u) in
    let Q : Stealer → Type 0 = λ v. OneStole pid now (set now i v) in
    subst P same (subst Q (ap (stealer_takes pid) (sym at) ∙ sym is) (one_stole pid now i t few))
