-- If each stealer goes back to its queue, as many came of each queue as it had lent.
use Rattle.std.proofs.Common.{◌≡◌, ℕ, ◌+◌, ◌-◌, ◌<◌, ◌≤◌, ◌==◌, Bool, true, false, if◌then◌else◌, List, [], ◌∷◌, set, get_or, refl, ap, subst, length, arith, eq-eqb}
use Rattle.std.proofs.lemmas.Bool.Decides.{nat_tests}
use Rattle.beam_queue.specs.Prelude.{stealer_count, lent, RemovesStealer, KeepsCounts, total, times, one_if, Stealer, RunQueue, takes_back, enqueued_by, taken_by, victims, stealers_of, lent_of, HaveAllStealers}
use Rattle.beam_queue.proofs.Sums.{total-append, total_set, total_le}

one_fewer : (b : Bool) (n : ℕ) → 0 < n → (if b then n - 1 else 0) + (if b then 1 else 0) ≡ (if b then n else 0)
one_fewer true n some = omega (arith, some)
one_fewer false n some = refl

own_lent : (b : Bool) (n : ℕ) → 0 < (if b then n else 0) → (b ≡ true) × (0 < n)
own_lent true n some = (refl, some)
own_lent false n some = absurd (omega (arith, some))

few : (b : Bool) (n : ℕ) → (if b then n else 0) ≤ n
few true n = omega arith
few false n = omega arith

-- a run queue for which `lent_of` isn't 0 has the queue of that number
pub lends_own : (n : ℕ) (u : RunQueue) → 0 < lent_of n u → (u.queue.number ≡ n) × (0 < u.queue.lent)
lends_own n u some =
    let own = own_lent (u.queue.number == n) u.queue.lent some in
    let same : (u.queue.number == n) ≡ true = own.0 in
    let number : u.queue.number ≡ n = grind (arith, nat_tests) in (number, own.1)

-- a stealer that was removed from a run queue goes back to its queue
pub gives_back : (i : ℕ) (old mid : List RunQueue) (t : Stealer) (u v : RunQueue) → i < length mid → u ≡ get_or mid i u → 0 < lent_of t.of u → v ≡ record u { queue = takes_back t u.queue }
    → RemovesStealer t old mid → KeepsCounts old (set mid i v) × (total stealer_count (set mid i v) + 1 ≡ total stealer_count old)
gives_back i old mid t u v in' at some is gave =
    let own = lends_own t.of u some in (
      (
        (λ pid.
            let s = total_set (enqueued_by pid) mid i v u in' in let a = ap (enqueued_by pid) at in let b : enqueued_by pid v ≡ enqueued_by pid u = ap (enqueued_by pid) is in
            let k = gave.1 pid in omega (arith, s, a, b, k)),
        (λ pid.
            let s = total_set (taken_by pid) mid i v u in' in let a = ap (taken_by pid) at in let b = ap (taken_by pid) is in
            let d = total-append (one_if pid) u.queue.taken t.taken in
            let k = gave.2 pid in omega (arith, s, a, b, d, k)),
        (λ n.
            let s = total_set (stealers_of n) mid i v u in' in let a = ap (stealers_of n) at in let b : stealers_of n v ≡ stealers_of n u = ap (stealers_of n) is in
            let s' = total_set (lent_of n) mid i v u in' in let a' = ap (lent_of n) at in let b' = ap (lent_of n) is in
            let P : ℕ → Type 0 = λ k. (if u.queue.number == n then u.queue.lent - 1 else 0) + (if k == n then 1 else 0) ≡ (if u.queue.number == n then u.queue.lent else 0) in
            let d : P t.of = subst P own.0 (one_fewer (u.queue.number == n) u.queue.lent own.1) in
            let k = gave.3 n in let m = gave.4 n in omega (arith, s, a, b, s', a', b', d, k, m)),
      ),
      (let s = total_set stealer_count mid i v u in' in let a = ap stealer_count at in let b : stealer_count v ≡ stealer_count u = ap stealer_count is in let k = gave.0 in omega (arith, s, a, b, k)),
    )

pub keeps_both : (old mid now : List RunQueue) → KeepsCounts old mid → KeepsCounts mid now → KeepsCounts old now
keeps_both old mid now a b = (
  λ pid. let x = a.0 pid in let y = b.0 pid in omega (arith, x, y),
  λ pid. let x = a.1 pid in let y = b.1 pid in omega (arith, x, y),
  λ n. let x = a.2 n in let y = b.2 n in omega (arith, x, y),
)

few_victims : (n : ℕ) (ts : List Stealer) → times n (victims ts) ≤ length ts
few_victims n [] = omega arith
few_victims n (t ∷ ts) = let h = few (t.of == n) 1 in let r = few_victims n ts in omega (arith, h, r)

no_victims : (n : ℕ) (run_queues : List RunQueue) → total stealer_count run_queues ≡ 0 → total (stealers_of n) run_queues ≡ 0
no_victims n run_queues none = let l = total_le (stealers_of n) stealer_count run_queues (λ l. few_victims n l.stealers) in omega (arith, l, none)

none_of : (n : ℕ) (run_queues : List RunQueue) → total lent run_queues ≡ 0 → total (lent_of n) run_queues ≡ 0
none_of n run_queues none = let l = total_le (lent_of n) lent run_queues (λ l. few (l.queue.number == n) l.queue.lent) in omega (arith, l, none)

own_of : (l : RunQueue) → lent_of l.queue.number l ≡ l.queue.lent
own_of l = ap (λ (b : Bool). if b then l.queue.lent else 0) (eq-eqb l.queue.number l.queue.number refl)

none_at_all : (run_queues : List RunQueue) → ((n : ℕ) → total (lent_of n) run_queues ≡ 0) → total lent run_queues ≡ 0
none_at_all [] none = refl
none_at_all (l ∷ ls) none =
    let h = none l.queue.number in let o = own_of l in
    let r = none_at_all ls (λ n. let m = none n in omega (arith, m)) in omega (arith, h, o, r)

-- where no run queue has a stealer and no queue has lent one, all stealers came back
pub have_all_stealers : (old now : List RunQueue) → KeepsCounts old now → total stealer_count now ≡ 0 → total lent now ≡ 0 → HaveAllStealers old
have_all_stealers old now kept held' lent' n = let k = kept.2 n in let v = no_victims n now held' in let l = none_of n now lent' in omega (arith, k, v, l)

-- where no run queue has a stealer and all came back, no queue has lent one
pub none_lent_more : (old now : List RunQueue) → KeepsCounts old now → total stealer_count now ≡ 0 → HaveAllStealers old → total lent now ≡ 0
none_lent_more old now kept held' back =
    none_at_all now (λ n. let k = kept.2 n in let v = no_victims n now held' in let b = back n in omega (arith, k, v, b))

-- where a run queue has a stealer whose queue has lent none, not all came back
pub not_all_stealers : (old now mid : List RunQueue) (t : Stealer) → KeepsCounts old now → RemovesStealer t now mid → total (lent_of t.of) mid ≡ 0 → HaveAllStealers old → ⊥
not_all_stealers old now mid t kept gave none back =
    let k = kept.2 t.of in let v = gave.3 t.of in let l = gave.4 t.of in let b = back t.of in
    let one : one_if t.of t.of ≡ 1 = ap (λ (b : Bool). if b then 1 else 0) (eq-eqb t.of t.of refl) in
    omega (arith, k, v, l, b, one, none)
