-- Stealers go back to their queues, one after another.
use Rattle.std.proofs.Common.{◌≡◌, ℕ, ◌+◌, ◌<◌, ◌==◌, if◌then◌else◌, List, [], ◌∷◌, ◌++◌, length, map, set, slice_index_or, refl, sym, ap, subst, arith}
use Rattle.beam_queue.specs.Prelude.{stealer_count, lent, HaveNoStealers, RemovesStealer, total, times, one_if, OwnQueue, Stealer, RunQueue, enqueued_by, taken_by, victims, stealers_of, lent_of, stolen_by}
use Rattle.beam_queue.proofs.Sums.{total_snoc, total_set}

-- the last run queue has no stealers and has lent none
pub last_has_no_stealers : (run_queues rest : List RunQueue) (l : RunQueue) → run_queues ≡ rest ++ l ∷ [] → HaveNoStealers run_queues → (stealer_count l ≡ 0) × (lent l ≡ 0)
last_has_no_stealers run_queues rest l is home =
    let h = total_snoc stealer_count rest l in let h' = ap (total stealer_count) is in let k = home.0 in
    let s = total_snoc lent rest l in let s' = ap (total lent) is in let m = home.1 in
    (omega (arith, h, h', k), omega (arith, s, s', m))

pub rest_have_no_stealers : (run_queues rest : List RunQueue) (l : RunQueue) → run_queues ≡ rest ++ l ∷ [] → HaveNoStealers run_queues → HaveNoStealers rest
rest_have_no_stealers run_queues rest l is home =
    let h = total_snoc stealer_count rest l in let h' = ap (total stealer_count) is in let k = home.0 in
    let s = total_snoc lent rest l in let s' = ap (total lent) is in let m = home.1 in
    (omega (arith, h, h', k), omega (arith, s, s', m))

pub one_drained : (pid : ℕ) (run_queues rest : List RunQueue) (l : RunQueue) (a b now before : ℕ) → run_queues ≡ rest ++ l ∷ []
    → a + before + total (enqueued_by pid) run_queues ≡ b + total (taken_by pid) run_queues
    → taken_by pid l + now ≡ enqueued_by pid l + before
    → a + now + total (enqueued_by pid) rest ≡ b + total (taken_by pid) rest
one_drained pid run_queues rest l a b now before is kept one =
    let s = total_snoc (enqueued_by pid) rest l in let s' = ap (total (enqueued_by pid)) is in
    let t = total_snoc (taken_by pid) rest l in let t' = ap (total (taken_by pid)) is in
    omega (arith, s, s', t, t', kept, one)

map-append : {X Y : Type 0} (f : X → Y) (xs ys : List X) → map f (xs ++ ys) ≡ map f xs ++ map f ys
map-append f [] ys = refl
map-append f (x ∷ xs) ys = ap (λ zs. f x ∷ zs) (map-append f xs ys)

long : {X : Type 0} (xs : List X) (x : X) → length (xs ++ x ∷ []) ≡ length xs + 1
long [] x = omega arith
long (y ∷ xs) x = let r = long xs x in omega (arith, r)

-- a run queue gives its last stealer
pub gives_at : (i : ℕ) (now old : List RunQueue) (t : Stealer) (u v : RunQueue) → i < length now → u ≡ slice_index_or now i u → (v.queue ≡ u.queue) × (u.stealers ≡ v.stealers ++ t ∷ []) → now ≡ old
    → RemovesStealer t old (set now i v)
gives_at i now old t u v few at gave same =
    let q = gave.0 in let ts = gave.1 in
    let P : List RunQueue → Type 0 = λ ls. RemovesStealer t ls (set now i v) in
    subst P same (
      (let s = total_set stealer_count now i v u few in let a = ap stealer_count (sym at) in let b = ap (λ xs. length xs) ts in let d = long v.stealers t in omega (arith, s, a, b, d)),
      (λ pid.
          let s = total_set (enqueued_by pid) now i v u few in let a = ap (enqueued_by pid) (sym at) in let b = ap (λ (y : OwnQueue). times pid y.enqueued) q in
          omega (arith, s, a, b)),
      (λ pid.
          let s = total_set (taken_by pid) now i v u few in let a = ap (taken_by pid) (sym at) in let b = ap (λ (y : OwnQueue). times pid y.taken) q in
          let d = ap (stolen_by pid) ts in let e = total_snoc (λ (y : Stealer). times pid y.taken) v.stealers t in
          omega (arith, s, a, b, d, e)),
      (λ n.
          let s = total_set (stealers_of n) now i v u few in let a = ap (stealers_of n) (sym at) in
          let b = ap (λ xs. times n (victims xs)) ts in let d = ap (times n) (map-append (λ (y : Stealer). y.of) v.stealers (t ∷ [])) in
          let e = total_snoc (one_if n) (victims v.stealers) t.of in
          omega (arith, s, a, b, d, e)),
      (λ n.
          let s = total_set (lent_of n) now i v u few in let a = ap (lent_of n) (sym at) in let b = ap (λ (y : OwnQueue). if y.number == n then y.lent else 0) q in
          omega (arith, s, a, b)),
    )
