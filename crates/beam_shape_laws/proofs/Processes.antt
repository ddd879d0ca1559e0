-- Processes that are set, started, named and sent to stay shaped, while one of them is apart.
use Rattle.std.proofs.Common.{◌≡◌, ℕ, suc, zero, ◌+◌, ◌-◌, true, false, cond, nat_lt, List, [], ◌∷◌, ◌++◌, length, slice_get, refl, subst, Option, Some, None, codes}
use Rattle.std.proofs.Math.ListN.{set}
use Rattle.std.proofs.lemmas.Option.{same_Some}
use Rattle.beam_machine.specs.declared.process.Signal.{Signal}
use Rattle.beam_machine.specs.declared.process.Signal.TheVariants.{Down}
use Rattle.beam_machine.specs.Prelude.{Code, Answered, is_alive, or_noproc, put_monitor, monitored, answer_of, Process, is_ended, started, own_number, process_of, alive, live_process, posted_to, posted, Sent}
use Rattle.beam_term.specs.Prelude.{TermValue, atom_term}
use Rattle.beam_model.specs.declared.native.NodeNative.{NodeNative}
use Rattle.beam_laws.proofs.Ending.{alive_is, at_index}
use Rattle.beam_laws.proofs.NodeAnswers.{Answers, keeps_all, starts_one, names_one, unnames_one, posts_one, makes_one, monitors_one, answer_is}
use Rattle.beam_shape_laws.specs.Shaped.{IsShaped, AreShaped}

pub started_shaped : (code : Code) (pid : ℕ) (name function : List ℕ) (arguments : List TermValue) → IsShaped code (started pid name function arguments)
started_shaped code pid name function arguments = λ e. (refl, λ d w f. cc)

-- ---- one process

module _ (code : Code) where
  abbrev pub IsShapedIf : Option Process → Type 0
  IsShapedIf (Some p) = IsShaped code p
  IsShapedIf None = Unit {0}

  pub set_shaped : (ps : List Process) (at : ℕ) (p : Process) → AreShaped code ps → IsShaped code p → AreShaped code (set ps at p)
  set_shaped [] at p h i = tt
  set_shaped (q ∷ qs) zero p h i = (i, h.1)
  set_shaped (q ∷ qs) (suc at) p h i = (h.0, set_shaped qs at p h.1 i)

  get_shaped : (ps : List Process) (at : ℕ) → AreShaped code ps → IsShapedIf (slice_get ps at)
  get_shaped [] at h = tt
  get_shaped (q ∷ qs) zero h = h.0
  get_shaped (q ∷ qs) (suc at) h = get_shaped qs at h.1

  pub process_shaped : (ps : List Process) (pid : ℕ) → AreShaped code ps → IsShapedIf (process_of ps pid)
  process_shaped ps pid h = elim (nat_lt 0 pid) as (λ c. IsShapedIf (cond c (slice_get ps (pid - 1)) None)) [ true ↦ get_shaped ps (pid - 1) h | false ↦ tt ]

  alive_shaped : (o : Option Process) → IsShapedIf o → IsShapedIf (alive o)
  alive_shaped None h = tt
  alive_shaped (Some p) h = elim (is_ended p.status) as (λ c. IsShapedIf (cond c None (Some p))) [ true ↦ tt | false ↦ h ]

  pub live_shaped : (ps : List Process) (pid : ℕ) → AreShaped code ps → IsShapedIf (live_process ps pid)
  live_shaped ps pid h = alive_shaped (process_of ps pid) (process_shaped ps pid h)

  pub appended_shaped : (ps : List Process) (p : Process) → AreShaped code ps → IsShaped code p → AreShaped code (ps ++ p ∷ [])
  appended_shaped [] p h i = (i, tt)
  appended_shaped (q ∷ qs) p h i = (h.0, appended_shaped qs p h.1 i)

  posted_to_shaped : (ps : List Process) (pid : ℕ) (signal : Signal) (o : Option Process) → AreShaped code ps → IsShapedIf o → AreShaped code (posted_to ps pid signal o)
  posted_to_shaped ps pid signal None h i = h
  posted_to_shaped ps pid signal (Some p) h i = set_shaped ps (pid - 1) (record p { transit = p.transit ++ signal ∷ [] }) h i

  pub posted_shaped : (ps : List Process) (pid : ℕ) (signal : Signal) → AreShaped code ps → AreShaped code (posted ps pid signal)
  posted_shaped ps pid signal h = posted_to_shaped ps pid signal (live_process ps pid) h (live_shaped ps pid h)

  -- ---- all but one

  -- all processes but the one at that index are shaped
  abbrev pub AllBut : ℕ → List Process → Type 0
  AllBut i [] = Unit {0}
  AllBut zero (p ∷ ps) = AreShaped code ps
  AllBut (suc i) (p ∷ ps) = IsShaped code p × AllBut i ps

  pub set_apart : (i : ℕ) (ps : List Process) (p : Process) → AreShaped code ps → AllBut i (set ps i p)
  set_apart i [] p h = tt
  set_apart zero (q ∷ ps) p h = h.1
  set_apart (suc i) (q ∷ ps) p h = (h.0, set_apart i ps p h.1)

  pub set_back : (i : ℕ) (ps : List Process) (p : Process) → AllBut i ps → IsShaped code p → AreShaped code (set ps i p)
  set_back i [] p h k = tt
  set_back zero (q ∷ ps) p h k = (k, h)
  set_back (suc i) (q ∷ ps) p h k = (h.0, set_back i ps p h.1 k)

  set_from : (ps : List Process) (j : ℕ) (x y : Process) → slice_get ps j ≡ Some x → (IsShaped code x → IsShaped code y) → AreShaped code ps → AreShaped code (set ps j y)
  set_from [] j x y e f h = tt
  set_from (q ∷ ps) zero x y e f h = (f (subst (IsShaped code) (same_Some q x e) h.0), h.1)
  set_from (q ∷ ps) (suc j) x y e f h = (h.0, set_from ps j x y e f h.1)

  set_other : (i : ℕ) (ps : List Process) (j : ℕ) (x y : Process) → slice_get ps j ≡ Some x → (IsShaped code x → IsShaped code y) → AllBut i ps → AllBut i (set ps j y)
  set_other i [] j x y e f h = tt
  set_other zero (q ∷ ps) zero x y e f h = h
  set_other zero (q ∷ ps) (suc j) x y e f h = set_from ps j x y e f h
  set_other (suc i) (q ∷ ps) zero x y e f h = (f (subst (IsShaped code) (same_Some q x e) h.0), h.1)
  set_other (suc i) (q ∷ ps) (suc j) x y e f h = (h.0, set_other i ps j x y e f h.1)

  appended_apart : (i : ℕ) (ps : List Process) (p : Process) → AllBut i ps → IsShaped code p → AllBut i (ps ++ p ∷ [])
  appended_apart zero [] p h k = tt
  appended_apart (suc i) [] p h k = (k, tt)
  appended_apart zero (q ∷ ps) p h k = appended_shaped ps p h k
  appended_apart (suc i) (q ∷ ps) p h k = (h.0, appended_apart i ps p h.1 k)

  there : (ps : List Process) (pid : ℕ) (x : Process) → live_process ps pid ≡ Some x → slice_get ps (pid - 1) ≡ Some x
  there ps pid x e = at_index ps pid x (alive_is (process_of ps pid) x e).0

  posted_apart : (i : ℕ) (ps : List Process) (pid : ℕ) (signal : Signal) (o : Option Process) → live_process ps pid ≡ o → AllBut i ps → AllBut i (posted_to ps pid signal o)
  posted_apart i ps pid signal None e h = h
  posted_apart i ps pid signal (Some x) e h = set_other i ps (pid - 1) x (record x { transit = x.transit ++ signal ∷ [] }) (there ps pid x e) (λ k. k) h

  -- ---- natives of the node

  watching_apart : (i : ℕ) (ps : List Process) (caller n : ℕ) (watched : TermValue) (o : Option Process) → live_process ps caller ≡ o → AllBut i ps → AllBut i (put_monitor ps caller n watched o)
  watching_apart i ps caller n watched None e h = h
  watching_apart i ps caller n watched (Some x) e h = set_other i ps (caller - 1) x (record x { monitors = _ }) (there ps caller x e) (λ k. k) h

  noproc_apart : (i : ℕ) (ps : List Process) (caller n : ℕ) (watched : TermValue) → AllBut i ps → AllBut i (or_noproc ps caller n watched)
  noproc_apart i ps caller n watched h =
      let signal : Signal = Down n (atom_term (codes "noproc")) in
      elim (is_alive ps (own_number watched)) as (λ b. AllBut i (cond b ps (posted ps caller signal))) [ true ↦ h | false ↦ posted_apart i ps caller signal (live_process ps caller) refl h ]

  monitored_apart : (i : ℕ) (ps : List Process) (caller : ℕ) (watched : TermValue) (n : ℕ) → AllBut i ps → AllBut i (monitored ps caller watched n)
  monitored_apart i ps caller watched n h =
      let qs : List Process = or_noproc ps caller n watched in
      watching_apart i qs caller n watched (live_process qs caller) refl (noproc_apart i ps caller n watched h)

  answered_apart : (i references : ℕ) (ps : List Process) (caller : ℕ) (native : NodeNative) (xs : List Sent) (a : Answered) → AllBut i ps
      → Answers references ps caller native xs a → AllBut i a.processes
  answered_apart i references ps caller native _ _ h (keeps_all value) = h
  answered_apart i references ps caller native _ _ h (starts_one name function arguments value) =
      appended_apart i ps (started (length ps + 1) name function arguments) h (started_shaped code (length ps + 1) name function arguments)
  answered_apart i references ps caller native _ _ h (names_one name pid x value e free) = set_other i ps (pid - 1) x (record x { name = Some name }) (there ps pid x e) (λ k. k) h
  answered_apart i references ps caller native _ _ h (unnames_one pid x value e) = set_other i ps (pid - 1) x (record x { name = None }) (there ps pid x e) (λ k. k) h
  answered_apart i references ps caller native _ _ h (posts_one to signal value plain) = posted_apart i ps to signal (live_process ps to) refl h
  answered_apart i references ps caller native _ _ h (makes_one value) = h
  answered_apart i references ps caller native _ _ h (monitors_one watched value is) = monitored_apart i ps caller watched (references + 1) h

  -- the node's answer to the process that is apart leaves the others shaped
  pub answer_apart : (i references : ℕ) (ps : List Process) (caller : ℕ) (native : NodeNative) (ts : List TermValue) → AllBut i ps → AllBut i (answer_of references ps caller native ts).processes
  answer_apart i references ps caller native ts h = answered_apart i references ps caller native _ _ h (answer_is references ps caller native ts)
