-- The first run queues have got their stealers.
use Rattle.std.proofs.Common.{◌≡◌, ◌≢◌, ℕ, zero, suc, ◌+◌, ◌<◌, ◌≤◌, min, ⊎_elim, if◌then◌else◌, Bool, true, false, List, [], ◌∷◌, ◌++◌, length, map, get_or, refl, sym, ap, ◌∙◌, subst, arith, nat_lt, nat_eq, lt-ltb, le-ltb}
use Rattle.std.specs.List.{range_with_len}
use Rattle.std.proofs.lemmas.Bool.{cases_eq, cases_lt}
use Rattle.std.proofs.lemmas.List.{length-map}
use Rattle.std.proofs.lemmas.List.FromFn.{length-range_with_len, get_or-map-range_with_len}
use Rattle.beam_queue.specs.Prelude.{lent, total, RunQueue, new_run_queue, others, enqueued_by, taken_by, victims, stealers_of, lent_of, HaveAllStealers, number_of, LentAtMost, AddsAllStealers}

abbrev pub victims_at : ℕ → ℕ → ℕ → List ℕ
victims_at n at i = if nat_lt i at then others n i else []

abbrev pub HaveVictims : ℕ → ℕ → List RunQueue → Type 0
HaveVictims n at run_queues = (i : ℕ) (d : RunQueue) → i < n → victims (get_or run_queues i d).stealers ≡ victims_at n at i

abbrev pub AreEmpty : List RunQueue → Type 0
AreEmpty run_queues = (pid : ℕ) → (total (enqueued_by pid) run_queues ≡ 0) × (total (taken_by pid) run_queues ≡ 0)

abbrev pub HaveStealersBelow : ℕ → ℕ → List RunQueue → Type 0
HaveStealersBelow n at run_queues =
    (map number_of run_queues ≡ range_with_len 0 n) × HaveVictims n at run_queues × AreEmpty run_queues × HaveAllStealers run_queues × LentAtMost at 0 n run_queues

none_there : (f : RunQueue → ℕ) → ((k : ℕ) → f (new_run_queue k) ≡ 0) → (a n : ℕ) → total f (map new_run_queue (range_with_len a n)) ≡ 0
none_there f none a zero = refl
none_there f none a (suc n) = let h = none a in let r = none_there f none (a + 1) n in omega (arith, h, r)

no_lent : (b : Bool) (n : ℕ) → n ≡ 0 → (if b then n else 0) ≡ 0
no_lent true n none = none
no_lent false n none = refl

numbers : (a n : ℕ) → map number_of (map new_run_queue (range_with_len a n)) ≡ range_with_len a n
numbers a zero = refl
numbers a (suc n) = ap (λ xs. a ∷ xs) (numbers (a + 1) n)

not_yet : (n i : ℕ) → victims_at n 0 i ≡ []
not_yet n i = ap (λ (b : Bool). if b then others n i else []) (le-ltb i 0 (omega arith))

pub have_stealers_none : (n : ℕ) (run_queues : List RunQueue) → run_queues ≡ map new_run_queue (range_with_len 0 n) → HaveStealersBelow n 0 run_queues
have_stealers_none n run_queues is =
    let at_new : (i : ℕ) (d : RunQueue) → i < n → get_or run_queues i d ≡ new_run_queue i =
    λ i d few. ap (λ (ls : List RunQueue). get_or ls i d) is ∙ get_or-map-range_with_len new_run_queue 0 n i i d few (omega arith) in
    let none : (f : RunQueue → ℕ) → ((k : ℕ) → f (new_run_queue k) ≡ 0) → total f run_queues ≡ 0 = λ f zeros. ap (total f) is ∙ none_there f zeros 0 n in (
      ap (map number_of) is ∙ numbers 0 n,
      (λ i d few. ap (λ (l : RunQueue). victims l.stealers) (at_new i d few) ∙ sym (not_yet n i)),
      (λ pid. (none (enqueued_by pid) (λ k. refl), none (taken_by pid) (λ k. refl))),
      (λ k. none (stealers_of k) (λ _. refl) ∙ sym (none (lent_of k) (λ j. no_lent (nat_eq j k) 0 refl))),
      (λ i d low few. let a = ap lent (at_new i d few) in omega (arith, a)),
    )

at_it : (n at : ℕ) → at < at + 1 → victims_at n (at + 1) at ≡ others n at
at_it n at less = ap (λ (b : Bool). if b then others n at else []) (lt-ltb at (at + 1) less)

not_it : (n at i : ℕ) → i ≢ at → victims_at n (at + 1) i ≡ victims_at n at i
not_it n at i ne =
    ⊎_elim
    (λ (l : i < at). ap (λ (b : Bool). if b then others n i else []) (lt-ltb i (at + 1) (omega (arith, l)) ∙ sym (lt-ltb i at l)))
    (λ (g : at ≤ i). ap (λ (b : Bool). if b then others n i else []) (le-ltb i (at + 1) (omega (arith, g, ne)) ∙ sym (le-ltb i at g)))
    (cases_lt i at)

not_yet_it : (n at : ℕ) → victims_at n at at ≡ []
not_yet_it n at = ap (λ (b : Bool). if b then others n at else []) (le-ltb at at (omega arith))

pub have_stealers_more : (n at : ℕ) (old new : List RunQueue) → length old ≡ n → HaveStealersBelow n at old → AddsAllStealers at old new → HaveStealersBelow n (at + 1) new
have_stealers_more n at old new long so one = (
  one.0 ∙ so.0,
  (λ i d few.
      ⊎_elim
      (λ (e : i ≡ at).
      let P : ℕ → Type 0 = λ k. victims (get_or new k d).stealers ≡ victims_at n (at + 1) k in
      let a : victims (get_or new at d).stealers ≡ others n at =
      one.2.0 d ∙ (ap (λ xs. xs ++ others (length old) at) (so.1 at d (omega (arith, few, e)) ∙ not_yet_it n at) ∙ ap (λ k. others k at) long) in
      subst P (sym e) (a ∙ sym (at_it n at (omega arith))))
      (λ (e : i ≢ at). one.2.1 i d e ∙ (so.1 i d few ∙ sym (not_it n at i e)))
      (cases_eq i at)),
  (λ pid. (one.1.0 pid ∙ (so.2 pid).0, one.1.1 pid ∙ (so.2 pid).1)),
  (λ k. let a = one.1.2 k in let b = so.3 k in omega (arith, a, b)),
  (λ i d low few. let a = one.3 i d in let b = so.4 i d low few in omega (arith, a, b)),
)

pub as_many : (n : ℕ) (run_queues : List RunQueue) → map number_of run_queues ≡ range_with_len 0 n → length run_queues ≡ n
as_many n run_queues is = sym (length-map run_queues number_of) ∙ (ap length is ∙ length-range_with_len 0 n)

pub all_have_stealers : (n schedulers i : ℕ) → i < n → victims_at n (min schedulers n) i ≡ victims_at n schedulers i
all_have_stealers n schedulers i few =
    ⊎_elim
    (λ (l : i < schedulers). ap (λ (b : Bool). if b then others n i else []) (lt-ltb i (min schedulers n) (omega (arith, l, few)) ∙ sym (lt-ltb i schedulers l)))
    (λ (g : schedulers ≤ i). ap (λ (b : Bool). if b then others n i else []) (le-ltb i (min schedulers n) (omega (arith, g)) ∙ sym (le-ltb i schedulers g)))
    (cases_lt i schedulers)

pub as_made : (n : ℕ) (run_queues : List RunQueue) → run_queues ≡ map new_run_queue (range_with_len 0 n) → length run_queues ≡ n
as_made n run_queues is = ap length is ∙ (length-map (range_with_len 0 n) new_run_queue ∙ length-range_with_len 0 n)
