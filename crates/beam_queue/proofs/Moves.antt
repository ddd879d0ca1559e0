-- Each step of a run queue keeps the balance.
use Rattle.std.proofs.Common.{◌≡◌, ◌≢◌, ℕ, zero, suc, ◌+◌, ◌-◌, ◌<◌, ◌≤◌, List, [], ◌∷◌, ◌++◌, set, sym, refl, ap, ◌∙◌, subst, ⊎_elim, arith}
use mathlib.Core.Option.{some, some-ne-none, some-injective}
use lib.ListN.{get_elem?}
use Rattle.crossbeam_deque.specs.Tasks.{Pushes, Takes, Finds, Forks, Merges, Learns}
use Rattle.crossbeam_deque.proofs.Lists.{at_set, at_snoc}
use Rattle.beam_queue.specs.declared.contribution.Contribution.{Contribution}
use Rattle.beam_queue.specs.Prelude.{contribution, IdleIsEmpty, Balanced, total}
use Rattle.beam_queue.proofs.Sums.{total-append, total_snoc}

-- the total after a change of one pass
total_set : (f : Contribution → ℕ) (views : List Contribution) (port : ℕ) (v w : Contribution) → get_elem? views port ≡ some v → total f (set views port w) + f v ≡ total f views + f w
total_set f [] n v w e = absurd (some-ne-none v (sym e))
total_set f (u ∷ us) zero v w e = let same : f u ≡ f v = ap f (some-injective u v e) in omega (arith, same)
total_set f (u ∷ us) (suc n) v w e = let r = total_set f us n v w e in omega (arith, r)

idle_set : (views : List Contribution) (port : ℕ) (w : Contribution) → (w.parts ≡ 0 → (w.put ≡ []) × (w.taken ≡ [])) → IdleIsEmpty views → IdleIsEmpty (set views port w)
idle_set views port w mine others j u e none =
    ⊎_elim (λ (x : (j ≡ port) × (w ≡ u)). let P : Contribution → Type 0 = λ y. y.parts ≡ 0 → (y.put ≡ []) × (y.taken ≡ []) in subst P x.1 mine none)
    (λ (x : (j ≢ port) × (get_elem? views j ≡ some u)). others j u x.1 none) (at_set views port j w u e)

idle_snoc : (views : List Contribution) (w : Contribution) → (w.parts ≡ 0 → (w.put ≡ []) × (w.taken ≡ [])) → IdleIsEmpty views → IdleIsEmpty (views ++ w ∷ [])
idle_snoc views w mine others j u e none =
    ⊎_elim (λ (x : get_elem? views j ≡ some u). others j u x none)
    (λ (x : w ≡ u). let P : Contribution → Type 0 = λ y. y.parts ≡ 0 → (y.put ≡ []) × (y.taken ≡ []) in subst P x mine none) (at_snoc views w u j e)

first_idle : IdleIsEmpty (contribution 1024 [] [] ∷ [])
first_idle zero v e none = let parts : 1024 ≡ v.parts = ap (λ (y : Contribution). y.parts) (some-injective (contribution 1024 [] []) v e) in absurd (omega (arith, parts, none))
first_idle (suc n) v e none = absurd (some-ne-none v (sym e))

pub begins : Balanced [] (contribution 1024 [] [] ∷ [])
begins = (refl, λ h. refl, first_idle)

pub puts : (port : ℕ) (v : Contribution) (xs : List ℕ) → 0 < v.parts → Pushes Balanced port v xs (λ w. w ≡ contribution v.parts (v.put ++ xs) v.taken)
puts port v xs some_part items views b at =
    let w = contribution v.parts (v.put ++ xs) v.taken in (
      w,
      (
        (let s = total_set (λ u. u.parts) views port v w at in let p = b.0 in omega (arith, s, p)),
        (λ h.
            let s = total_set (λ u. total h u.put) views port v w at in
            let t = total_set (λ u. total h u.taken) views port v w at in
            let p = b.1 h in
            omega (arith, s, t, p, total-append h v.put xs, total-append h items xs)),
        idle_set views port w (λ none. absurd (omega (arith, none, some_part))) b.2,
      ),
      refl,
    )

pub takes : (port : ℕ) (v : Contribution) → 0 < v.parts → Takes Balanced port v 1 (λ xs w. w ≡ contribution v.parts v.put (v.taken ++ xs))
takes port v some_part xs items views _ _ b at =
    let w = contribution v.parts v.put (v.taken ++ xs) in (
      w,
      (
        (let s = total_set (λ u. u.parts) views port v w at in let p = b.0 in omega (arith, s, p)),
        (λ h.
            let s = total_set (λ u. total h u.put) views port v w at in
            let t = total_set (λ u. total h u.taken) views port v w at in
            let p = b.1 h in
            omega (arith, s, t, p, total-append h v.taken xs, total-append h xs items)),
        idle_set views port w (λ none. absurd (omega (arith, none, some_part))) b.2,
      ),
      refl,
    )

pub forks : (port : ℕ) (v : Contribution) → 1 < v.parts → Forks Balanced port v (contribution (v.parts - 1) v.put v.taken) (contribution 1 [] [])
forks port v many items views b at =
    let l = contribution (v.parts - 1) v.put v.taken in let r = contribution 1 [] [] in let vs = set views port l in (
      (let s = total_set (λ u. u.parts) views port v l at in let t = total_snoc (λ u. u.parts) vs r in let p = b.0 in omega (arith, s, t, p, many)),
      (λ h.
          let s = total_set (λ u. total h u.put) views port v l at in
          let t = total_set (λ u. total h u.taken) views port v l at in
          let s' = total_snoc (λ u. total h u.put) vs r in
          let t' = total_snoc (λ u. total h u.taken) vs r in
          let p = b.1 h in
          omega (arith, s, t, s', t', p)),
      idle_snoc vs r (λ none. absurd (omega (arith, none))) (idle_set views port l (λ none. absurd (omega (arith, none, many))) b.2),
    )

pub merges : (port : ℕ) (v : Contribution) (other : ℕ) (u : Contribution) → 0 < v.parts
    → Merges Balanced port v other u (contribution (v.parts + u.parts) (v.put ++ u.put) (v.taken ++ u.taken)) (contribution 0 [] [])
merges port v other u some_part items views b at two at' =
    let both = contribution (v.parts + u.parts) (v.put ++ u.put) (v.taken ++ u.taken) in let gone = contribution 0 [] [] in let vs = set views port both in (
      (let s = total_set (λ y. y.parts) views port v both at in let t = total_set (λ y. y.parts) vs other u gone at' in let p = b.0 in omega (arith, s, t, p)),
      (λ h.
          let s = total_set (λ y. total h y.put) views port v both at in
          let t = total_set (λ y. total h y.taken) views port v both at in
          let s' = total_set (λ y. total h y.put) vs other u gone at' in
          let t' = total_set (λ y. total h y.taken) vs other u gone at' in
          let p = b.1 h in
          omega (arith, s, t, s', t', p, total-append h v.put u.put, total-append h v.taken u.taken)),
      idle_set vs other gone (λ _. (refl, refl)) (idle_set views port both (λ none. absurd (omega (arith, none, some_part))) b.2),
    )

-- where one pass has every part, the others have put and taken nothing
none_else : (f : Contribution → ℕ) → ((u : Contribution) → u.put ≡ [] → u.taken ≡ [] → f u ≡ 0) → (views : List Contribution) → total (λ u. u.parts) views ≡ 0 → IdleIsEmpty views → total f views ≡ 0
none_else f zeros [] t idle = refl
none_else f zeros (u ∷ us) t idle =
    let mine = idle 0 u refl (omega (arith, t)) in
    let here = zeros u mine.0 mine.1 in
    let there = none_else f zeros us (omega (arith, t)) (λ j w e. idle (suc j) w e) in
    omega (arith, here, there)

part_of : (views : List Contribution) (port : ℕ) (v : Contribution) → get_elem? views port ≡ some v → v.parts ≤ total (λ u. u.parts) views
part_of [] n v e = absurd (some-ne-none v (sym e))
part_of (u ∷ us) zero v e = let same : u.parts ≡ v.parts = ap (λ (y : Contribution). y.parts) (some-injective u v e) in omega (arith, same)
part_of (u ∷ us) (suc n) v e = let r = part_of us n v e in omega (arith, r)

alone : (f : Contribution → ℕ) → ((u : Contribution) → u.put ≡ [] → u.taken ≡ [] → f u ≡ 0) → (views : List Contribution) (port : ℕ) (v : Contribution) → get_elem? views port ≡ some v → total (λ u. u.parts) views ≡ v.parts → IdleIsEmpty views → total f views ≡ f v
alone f zeros [] n v e t idle = absurd (some-ne-none v (sym e))
alone f zeros (u ∷ us) zero v e t idle =
    let same : f u ≡ f v = ap f (some-injective u v e) in
    let parts : u.parts ≡ v.parts = ap (λ (y : Contribution). y.parts) (some-injective u v e) in
    let there = none_else f zeros us (omega (arith, t, parts)) (λ j w e. idle (suc j) w e) in
    omega (arith, same, there)
alone f zeros (u ∷ us) (suc n) v e t idle =
    let few = part_of us n v e in
    let none : u.parts ≡ 0 = omega (arith, few, t) in
    let mine = idle 0 u refl none in
    let here = zeros u mine.0 mine.1 in
    let there = alone f zeros us n v e (omega (arith, t, none)) (λ j w e'. idle (suc j) w e') in
    omega (arith, here, there)

pub learns : (port : ℕ) (v : Contribution) → v.parts ≡ 1024 → Learns Balanced port v (λ items. (h : ℕ → ℕ) → total h v.put ≡ total h v.taken + total h items)
learns port v every items views b at h =
    let p = b.0 ∙ sym every in
    let s = alone (λ u. total h u.put) (λ u a _. ap (total h) a) views port v at p b.2 in
    let t = alone (λ u. total h u.taken) (λ u _ a. ap (total h) a) views port v at p b.2 in
    let q = b.1 h in
    omega (arith, s, t, q)

pub finds : (port : ℕ) (v : Contribution) → v.parts ≡ 1024 → Finds Balanced port v ((h : ℕ → ℕ) → total h v.put ≡ total h v.taken)
finds port v every views b at h = let p = learns port v every [] views b at h in omega (arith, p)
