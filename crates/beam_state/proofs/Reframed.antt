-- A native's answer doesn't depend on the y registers of the process that asks.
use Rattle.std.proofs.Common.{◌≡◌, ℕ, zero, suc, ◌<◌, List, [], ◌∷◌, ◌++◌, length, slice_get, refl, sym, ap, ◌∙◌, arith, Option, Some, None, slice_set}
use Rattle.std.proofs.lemmas.Option.{same_Some}
use Rattle.beam_machine.specs.declared.process.Monitor.{Monitor}
use Rattle.beam_machine.specs.declared.process.Signal.{Signal}
use Rattle.beam_machine.specs.Prelude.{Process, is_ended, started, bared, answer_of}
use Rattle.beam_model.specs.declared.native.NodeNative.{NodeNative}
use Rattle.beam_term.specs.Prelude.{TermValue}
use Rattle.beam_state.specs.Prelude.{bare_if}
use Rattle.beam_state.proofs.Seen.{each, Unseen, Posts, Watches, moved, same_answer}

-- a function is applied to the process at one index, and no other is changed
abbrev pub at_one : (Process → Process) → ℕ → ℕ → Process → Process
at_one h zero zero = h
at_one h zero (suc i) = λ p. p
at_one h (suc at) zero = λ p. p
at_one h (suc at) (suc i) = at_one h at i

-- what holds of a function and of the identity holds of what is applied at each index
pub of_one : (h : Process → Process) (P : (Process → Process) → Type 0) → P h → P (λ p. p) → (at i : ℕ) → P (at_one h at i)
of_one h P given not zero zero = given
of_one h P given not zero (suc i) = not
of_one h P given not (suc at) zero = not
of_one h P given not (suc at) (suc i) = of_one h P given not at i

pub here : (h : Process → Process) (at : ℕ) (p : Process) → at_one h at at p ≡ h p
here h zero p = refl
here h (suc at) p = here h at p

beyond : (h : Process → Process) (at i : ℕ) (p : Process) → at < i → at_one h at i p ≡ p
beyond h zero zero p l = absurd (omega (arith, l))
beyond h zero (suc i) p l = refl
beyond h (suc at) zero p l = refl
beyond h (suc at) (suc i) p l = beyond h at i p (omega (arith, l))

none_given : (ps : List Process) → each (λ i p. p) ps ≡ ps
none_given [] = refl
none_given (p ∷ ps) = ap (λ l. p ∷ l) (none_given ps)

pub set_one : (h : Process → Process) (ps : List Process) (at : ℕ) (p : Process) → slice_get ps at ≡ Some p → slice_set ps at (h p) ≡ each (at_one h at) ps
set_one h [] at p e = refl
set_one h (q ∷ ps) zero p e = ap (λ r. h r ∷ ps) (sym (same_Some q p e)) ∙ ap (λ l. h q ∷ l) (sym (none_given ps))
set_one h (q ∷ ps) (suc at) p e = ap (λ l. q ∷ l) (set_one h ps at p e)

-- where the process at that index is then replaced, nothing is left of the function
pub set_again : (h : Process → Process) (ps : List Process) (at : ℕ) (q : Process) → slice_set (each (at_one h at) ps) at q ≡ slice_set ps at q
set_again h [] at q = refl
set_again h (p ∷ ps) zero q = ap (λ l. q ∷ l) (none_given ps)
set_again h (p ∷ ps) (suc at) q = ap (λ l. p ∷ l) (set_again h ps at q)

-- ---- y registers

module _ (dropped : Option ℕ) where
  by_case : (P : (Process → Process) → Type 0) → P bared → P (λ p. p) → P (bare_if dropped)
  by_case P given not = go dropped
    where
      go : (o : Option ℕ) → P (bare_if o)
      go (Some n) = given
      go None = not

  of_each : (P : (Process → Process) → Type 0) → P bared → P (λ p. p) → (at i : ℕ) → P (at_one (bare_if dropped) at i)
  of_each P given not = of_one (bare_if dropped) P (by_case P given not) not

  unseen : (at : ℕ) → Unseen (at_one (bare_if dropped) at)
  unseen at = record {
    names = λ i. of_each (λ g. (p : Process) → (g p).name ≡ p.name) (λ p. refl) (λ p. refl) at i;
    pids = λ i. of_each (λ g. (p : Process) → (g p).pid ≡ p.pid) (λ p. refl) (λ p. refl) at i;
    stands = λ i. of_each (λ g. (p : Process) → is_ended (g p).status ≡ is_ended p.status) (λ p. refl) (λ p. refl) at i;
    renamed = λ i. of_each (λ g. (p : Process) (name : Option (List ℕ)) → g (record p { name = name }) ≡ record (g p) { name = name }) (λ p name. refl) (λ p name. refl) at i;
  }

  posts : (at i : ℕ) → Posts (at_one (bare_if dropped) at) i
  posts at i =
      of_each (λ g. (p : Process) (signal : Signal) → g (record p { transit = p.transit ++ signal ∷ [] }) ≡ record (g p) { transit = (g p).transit ++ signal ∷ [] })
      (λ p signal. refl) (λ p signal. refl) at i

  watches : (at i : ℕ) → Watches (at_one (bare_if dropped) at) i
  watches at i =
      of_each (λ g. (p : Process) (m : Monitor) → g (record p { monitors = p.monitors ++ m ∷ [] }) ≡ record (g p) { monitors = (g p).monitors ++ m ∷ [] })
      (λ p m. refl) (λ p m. refl) at i

  pub answer_reframed : (references : ℕ) (ps : List Process) (at caller : ℕ) (native : NodeNative) (arguments : List TermValue) → at < length ps
      → answer_of references (each (at_one (bare_if dropped) at) ps) caller native arguments ≡ moved (at_one (bare_if dropped) at) (answer_of references ps caller native arguments)
  answer_reframed references ps at caller native arguments l =
      same_answer (at_one (bare_if dropped) at) (unseen at) caller (posts at _) (watches at _) references ps native arguments
      (λ n name function ts. beyond (bare_if dropped) at (length ps) (started n name function ts) l) (λ sends i. posts at i)
