-- Run queues get their stealers, one after another.
use Rattle.std.proofs.Common.{◌≡◌, ◌≢◌, ℕ, zero, suc, ◌+◌, ◌-◌, ◌<◌, ◌≤◌, ◌⊎◌, inl, inr, ⊎_elim, ◌==◌, if◌then◌else◌, Bool, true, false, List, [], ◌∷◌, ◌++◌, length, map, set, get_or, refl, sym, ap, ◌∙◌, subst, append_assoc, append-nil, arith, get_or-set_same, get_or-set_other, length-set}
use Rattle.std.specs.List.{range_with_len}
use Rattle.std.proofs.lemmas.Bool.{cases_eq, cases_lt}
use Rattle.std.proofs.lemmas.List.{get_or_default, length-map, map-append, get_or-map}
use Rattle.std.proofs.lemmas.List.FromFn.{length-range_with_len, get_or-range_with_len}
use Rattle.beam_queue.specs.Prelude.{lent, KeepsCounts, times, one_if, Stealer, RunQueue, new_stealer, lends, enqueued_by, taken_by, victims, stealers_of, lent_of, number_of, LentAtMost, AddsStealersOf, AddsStealersInRange, AddsAllStealers}
use Rattle.beam_queue.proofs.ReturningStealers.{keeps_both}
use Rattle.beam_queue.proofs.Sums.{total_set, total_snoc, map_set}

-- a run queue that is as before, as f sees it
seen_same : {Y : Type 0} (f : RunQueue → Y) (ls : List RunQueue) (i j : ℕ) (u w d : RunQueue) → i < length ls → u ≡ get_or ls i u → f w ≡ f u → f (get_or (set ls i w) j d) ≡ f (get_or ls j d)
seen_same f ls i j u w d few at is =
    ⊎_elim
    (λ (e : j ≡ i).
    let a : get_or (set ls i w) i d ≡ w = get_or-set_same ls i w d few in
    let b : get_or ls i u ≡ get_or ls i d = get_or_default ls i u d few in
    let P : ℕ → Type 0 = λ k. f (get_or (set ls i w) k d) ≡ f (get_or ls k d) in
    subst P (sym e) (ap f a ∙ (is ∙ ap f (at ∙ b))))
    (λ (e : j ≢ i). ap f (get_or-set_other ls i j w d e))
    (cases_eq j i)

one_more : (b : Bool) (n : ℕ) → (if b then n + 1 else 0) ≡ (if b then n else 0) + (if b then 1 else 0)
one_more true n = refl
one_more false n = refl

-- the run queue at an index got a stealer of one queue
abbrev pub AddsOneStealer : ℕ → ℕ → List RunQueue → List RunQueue → Type 0
AddsOneStealer at of old new =
    (map number_of new ≡ map number_of old)
    × KeepsCounts old new
    × AddsStealersOf at (of ∷ []) old new
    × ((d : RunQueue) → lent (get_or new of d) ≤ lent (get_or old of d) + 1)
    × ((i : ℕ) (d : RunQueue) → i ≢ of → lent (get_or new i d) ≡ lent (get_or old i d))

module _ (at of : ℕ) (old : List RunQueue) (u w v x : RunQueue) (t : Stealer) (apart : at ≢ of) (few_at : at < length old) (few_of : of < length old)
    (u_at : u ≡ get_or old of u) (t_is : t ≡ new_stealer u.queue.number) (w_is : w ≡ record u { queue = lends u.queue })
    (v_at : v ≡ get_or (set old of w) at v) (x_is : x ≡ record v { stealers = v.stealers ++ t ∷ [] }) (number : u.queue.number ≡ of) where
  few_mid : at < length (set old of w)
  few_mid = let n = length-set old of w in omega (arith, n, few_at)

  adds_numbers : map number_of (set (set old of w) at x) ≡ map number_of old
  adds_numbers =
      map_set number_of (set old of w) at x v few_mid (ap number_of x_is ∙ ap number_of v_at) ∙ map_set number_of old of w u few_of (ap number_of w_is ∙ ap number_of u_at)

  adds_kept : KeepsCounts old (set (set old of w) at x)
  adds_kept = (
    (λ pid.
        let s = total_set (enqueued_by pid) old of w u few_of in let a = ap (enqueued_by pid) u_at in let b : enqueued_by pid w ≡ enqueued_by pid u = ap (enqueued_by pid) w_is in
        let s' = total_set (enqueued_by pid) (set old of w) at x v few_mid in let a' = ap (enqueued_by pid) v_at in let b' : enqueued_by pid x ≡ enqueued_by pid v = ap (enqueued_by pid) x_is in
        omega (arith, s, a, b, s', a', b')),
    (λ pid.
        let s = total_set (taken_by pid) old of w u few_of in let a = ap (taken_by pid) u_at in let b : taken_by pid w ≡ taken_by pid u = ap (taken_by pid) w_is in
        let s' = total_set (taken_by pid) (set old of w) at x v few_mid in let a' = ap (taken_by pid) v_at in let b' = ap (taken_by pid) x_is in
        let e = total_snoc (λ (y : Stealer). times pid y.taken) v.stealers t in let e' : times pid t.taken ≡ 0 = ap (λ (y : Stealer). times pid y.taken) t_is in
        omega (arith, s, a, b, s', a', b', e, e')),
    (λ n.
        let s = total_set (stealers_of n) old of w u few_of in let a = ap (stealers_of n) u_at in let b : stealers_of n w ≡ stealers_of n u = ap (stealers_of n) w_is in
        let s' = total_set (stealers_of n) (set old of w) at x v few_mid in let a' = ap (stealers_of n) v_at in let b' = ap (stealers_of n) x_is in
        let m = ap (times n) (map-append (λ (y : Stealer). y.of) v.stealers (t ∷ [])) in let e = total_snoc (one_if n) (victims v.stealers) t.of in
        let e' : one_if n t.of ≡ one_if n u.queue.number = ap (λ (y : Stealer). one_if n y.of) t_is in
        let r = total_set (lent_of n) old of w u few_of in let c = ap (lent_of n) u_at in let d = ap (lent_of n) w_is in
        let r' = total_set (lent_of n) (set old of w) at x v few_mid in let c' = ap (lent_of n) v_at in let d' : lent_of n x ≡ lent_of n v = ap (lent_of n) x_is in
        let k : (if u.queue.number == n then u.queue.lent + 1 else 0) ≡ (if u.queue.number == n then u.queue.lent else 0) + one_if n u.queue.number = one_more (u.queue.number == n) u.queue.lent in
        omega (arith, s, a, b, s', a', b', m, e, e', r, c, d, r', c', d', k)),
  )

  adds_stealers : AddsStealersOf at (of ∷ []) old (set (set old of w) at x)
  adds_stealers = (
    (λ d.
        let f : RunQueue → List ℕ = λ l. victims l.stealers in
        let a : get_or (set (set old of w) at x) at d ≡ x = get_or-set_same (set old of w) at x d few_mid in
        let b : f x ≡ f v ++ t.of ∷ [] = ap f x_is ∙ map-append (λ (y : Stealer). y.of) v.stealers (t ∷ []) in
        let e : t.of ≡ of = ap (λ (y : Stealer). y.of) t_is ∙ number in
        let m : v ≡ get_or (set old of w) at d = v_at ∙ get_or_default (set old of w) at v d few_mid in
        let n : get_or (set old of w) at d ≡ get_or old at d = get_or-set_other old of at w d apart in
        ap f a ∙ (b ∙ (ap (λ k. f v ++ k ∷ []) e ∙ ap (λ (l : RunQueue). f l ++ of ∷ []) (m ∙ n)))),
    (λ i d ne.
        let f : RunQueue → List ℕ = λ l. victims l.stealers in
        ap f (get_or-set_other (set old of w) at i x d ne) ∙ seen_same f old of i u w d few_of u_at (ap f w_is)),
  )

  pub adds_one : AddsOneStealer at of old (set (set old of w) at x)
  adds_one = (
    adds_numbers,
    adds_kept,
    adds_stealers,
    (λ d.
        let a = seen_same lent (set old of w) at of v x d few_mid v_at (ap lent x_is) in
        let b : get_or (set old of w) of d ≡ w = get_or-set_same old of w d few_of in
        let e = ap lent b in let f : lent w ≡ lent u + 1 = ap lent w_is in
        let g = ap lent (u_at ∙ get_or_default old of u d few_of) in
        omega (arith, a, e, f, g)),
    (λ i d ne. seen_same lent (set old of w) at i v x d few_mid v_at (ap lent x_is) ∙ ap lent (get_or-set_other old of i w d ne)),
  )

range_more : (a n : ℕ) → range_with_len a (n + 1) ≡ range_with_len a n ++ (a + n) ∷ []
range_more a zero = ap (λ k. k ∷ []) (omega arith)
range_more a (suc n) =
    let on : suc n + 1 ≡ suc (n + 1) = omega arith in
    let same : (a + 1) + n ≡ a + suc n = omega arith in
    ap (range_with_len a) on ∙ ap (λ xs. a ∷ xs) (range_more (a + 1) n ∙ ap (λ k. range_with_len (a + 1) n ++ k ∷ []) same)

range_on : (from to : ℕ) → from ≤ to → range_with_len from (to + 1 - from) ≡ range_with_len from (to - from) ++ to ∷ []
range_on from to up =
    let on : to + 1 - from ≡ (to - from) + 1 = omega (arith, up) in
    let end : from + (to - from) ≡ to = omega (arith, up) in
    ap (range_with_len from) on ∙ (range_more from (to - from) ∙ ap (λ k. range_with_len from (to - from) ++ k ∷ []) end)

pub adds_none : (at from : ℕ) (old : List RunQueue) → AddsStealersInRange at from from old old
adds_none at from old = (
  refl,
  (λ pid. refl, λ pid. refl, λ n. omega arith),
  (
    (λ d.
        let none : from - from ≡ 0 = omega arith in
        sym (append-nil (victims (get_or old at d).stealers)) ∙ ap (λ n. victims (get_or old at d).stealers ++ range_with_len from n) (sym none)),
    (λ i d ne. refl),
  ),
  (λ i d up down. omega arith),
  (λ i d out. refl),
)

pub adds_more : (at from to : ℕ) (old mid new : List RunQueue) → from ≤ to → AddsStealersInRange at from to old mid → AddsOneStealer at to mid new → AddsStealersInRange at from (to + 1) old new
adds_more at from to old mid new up so one = (
  one.0 ∙ so.0,
  keeps_both old mid new so.1 one.1,
  (
    (λ d.
        let vs = victims (get_or old at d).stealers in
        one.2.0 d
        ∙ (ap (λ xs. xs ++ to ∷ []) (so.2.0 d)
        ∙ (append_assoc vs (range_with_len from (to - from)) (to ∷ []) ∙ ap (λ xs. vs ++ xs) (sym (range_on from to up))))),
    (λ i d ne. one.2.1 i d ne ∙ so.2.1 i d ne),
  ),
  (λ i d low high.
      ⊎_elim
      (λ (e : i ≡ to).
      let P : ℕ → Type 0 = λ k. lent (get_or new k d) ≤ lent (get_or old k d) + 1 in
      let a = one.3 d in let b = so.4 to d (inr (omega arith)) in
      subst P (sym e) (omega (arith, a, b)))
      (λ (e : i ≢ to). let a = one.4 i d e in let b = so.3 i d low (omega (arith, e, high)) in omega (arith, a, b))
      (cases_eq i to)),
  (λ i d out.
      let ne : i ≢ to = ⊎_elim (λ (l : i < from). λ (e : i ≡ to). omega (arith, l, e, up)) (λ (g : to + 1 ≤ i). λ (e : i ≡ to). omega (arith, g, e)) out in
      let out' : (i < from) ⊎ (to ≤ i) = ⊎_elim (λ (l : i < from). inl l) (λ (g : to + 1 ≤ i). inr (omega (arith, g))) out in
      one.4 i d ne ∙ so.4 i d out'),
)

mid_lent : (at i : ℕ) (old mid : List RunQueue) (d : RunQueue) → at ≤ i → AddsStealersInRange at (at + 1) (length old) old mid → lent (get_or mid i d) ≤ lent (get_or old i d) + 1
mid_lent at i old mid d g first =
    ⊎_elim
    (λ (l : i < at + 1). let a = first.4 i d (inl l) in omega (arith, a))
    (λ (h : at + 1 ≤ i).
    ⊎_elim
    (λ (l : i < length old). first.3 i d h l)
    (λ (o : length old ≤ i). let a = first.4 i d (inr o) in omega (arith, a))
    (cases_lt i (length old)))
    (cases_lt i (at + 1))

pub furnishes : (at : ℕ) (old mid new : List RunQueue) → at < length old → AddsStealersInRange at (at + 1) (length old) old mid → AddsStealersInRange at 0 at mid new → AddsAllStealers at old new
furnishes at old mid new few first then' = (
  then'.0 ∙ first.0,
  keeps_both old mid new first.1 then'.1,
  (
    (λ d.
        let vs = victims (get_or old at d).stealers in
        let late = range_with_len (at + 1) (length old - (at + 1)) in
        let none : at - 0 ≡ at = omega arith in
        then'.2.0 d
        ∙ (ap (λ xs. xs ++ range_with_len 0 (at - 0)) (first.2.0 d)
        ∙ (append_assoc vs late (range_with_len 0 (at - 0)) ∙ ap (λ n. vs ++ (late ++ range_with_len 0 n)) none))),
    (λ i d ne. then'.2.1 i d ne ∙ first.2.1 i d ne),
  ),
  (λ i d.
      ⊎_elim
      (λ (l : i < at). let a = then'.3 i d (omega arith) l in let b = first.4 i d (inl (omega (arith, l))) in omega (arith, a, b))
      (λ (g : at ≤ i). let a = then'.4 i d (inr g) in let b = mid_lent at i old mid d g first in omega (arith, a, b))
      (cases_lt i at)),
)

pub number_at : (n i : ℕ) (run_queues : List RunQueue) (d : RunQueue) → i < length run_queues → map number_of run_queues ≡ range_with_len 0 n → number_of (get_or run_queues i d) ≡ i
number_at n i run_queues d few is =
    let long : length run_queues ≡ n = sym (length-map run_queues number_of) ∙ (ap length is ∙ length-range_with_len 0 n) in
    let zero-add : 0 + i ≡ i = omega arith in
    sym (get_or-map number_of run_queues i d 0 few) ∙ (ap (λ xs. get_or xs i 0) is ∙ (get_or-range_with_len 0 n i 0 (omega (arith, few, long)) ∙ zero-add))

pub as_long : (old new : List RunQueue) → map number_of new ≡ map number_of old → length new ≡ length old
as_long old new same = sym (length-map new number_of) ∙ (ap length same ∙ length-map old number_of)

pub most_later : (most from n : ℕ) (run_queues : List RunQueue) → LentAtMost most 0 n run_queues → LentAtMost most from n run_queues
most_later most from n run_queues few i d low high = few i d (omega arith) high

pub most_first : (most at n : ℕ) (old mid : List RunQueue) → at < n → AddsStealersInRange at (at + 1) n old mid → LentAtMost most 0 n old → LentAtMost most 0 at mid
most_first most at n old mid within so few i d low high =
    let a = so.4 i d (inl (omega (arith, high))) in let b = few i d low (omega (arith, high, within)) in omega (arith, a, b)
