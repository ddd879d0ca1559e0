-- Changes of code, with the processes that they end, leave the others in live instances.
use Rattle.std.proofs.Common.{◌≡◌, ℕ, ◌==◌, cond, Bool, true, false, IsTrue, List, [], ◌∷◌, map, refl, sym, ap, subst, ◌∙◌, true≢false, arith, Option, Some, None, is_some, option_map, flat_map, eqb-true}
use Rattle.std.proofs.lemmas.Bool.Decides.{nat_tests}
use Rattle.beam_machine.specs.declared.process.Signal.{Signal}
use Rattle.beam_machine.specs.Prelude.{with_signals, downs, Instance, Code, versions_of, listing_in, listing_of, Process, ended, killed, old_of, loaded, deleted, purged, with_versions, lingers, lingers_at, lingers_in_old, pids_of, ends_or_hears, killing, is_live, IsHome, AreHome, Versions}
use Rattle.beam_laws.proofs.Hearing.{as_before}
use Rattle.beam_model.specs.Prelude.{Listing, same_text}
use Rattle.beam_term.specs.Prelude.{nil_term}
use Rattle.beam_laws.proofs.Lookups.{behind, more_live, live_with}

-- ---- a process whose instances stay live stays home

-- an instance that is live in one code is live in the other, unless it is one of those removed
abbrev pub Keeps : (ℕ → Bool) → Code → Code → Type 0
Keeps gone old new = (k : ℕ) → gone k ≡ false → IsTrue (is_live old k) → IsTrue (is_live new k)

abbrev pub none : ℕ → Bool
none k = false

pub all_kept : (old new : Code) → Keeps none old new → (ps : List Process) → AreHome old ps → AreHome new ps
all_kept old new k [] h = tt
all_kept old new k (p ∷ ps) h = (λ n e. k n refl (h.0 n e), all_kept old new k ps h.1)

-- ---- an old instance that goes

-- whether the number is this one
abbrev pub is_number : Option ℕ → ℕ → Bool
is_number (Some n) k = k == n
is_number None k = false

without_old : (a b : Option Instance) (k : ℕ) (o : Option Listing) → is_number (option_map (λ i. i.number) b) k ≡ false → IsTrue (is_some (listing_in a k (listing_in b k o))) → IsTrue (is_some (listing_in a k o))
without_old a None k o e h = h
without_old a (Some i) k o e h =
    behind a k (listing_in (Some i) k o) o (subst (λ c. IsTrue (is_some (cond c (Some i.listing) o)) → IsTrue (is_some o)) (sym (other i.number k e)) (λ x. x)) h
  where
    other : (m k : ℕ) → (k == m) ≡ false → (m == k) ≡ false
    other m k e = grind (arith, nat_tests)

-- ---- a load

pub loaded_keeps : (code : Code) (n : ℕ) (l : Listing) → Keeps (is_number (old_of code l.name)) code (loaded code n l)
loaded_keeps [] n l = λ k g h. cc
loaded_keeps (v ∷ rest) n l =
    elim (same_text v.name l.name) as (λ b. Keeps (is_number (option_map (λ i. i.number) (cond {A = Versions} b v (versions_of rest l.name)).old)) (v ∷ rest)
    (cond {A = Code} b (record v { current = Some (record { number = n; listing = l }); old = v.current } ∷ rest) (v ∷ loaded rest n l))) [
      | true ↦ λ k g h. more_live (Some (record { number = n; listing = l })) k (listing_in v.current k (listing_of rest k)) (without_old v.current v.old k (listing_of rest k) g h)
      | false ↦ λ k g h. behind v.current k (listing_in v.old k (listing_of rest k)) (listing_in v.old k (listing_of (loaded rest n l) k))
          (behind v.old k (listing_of rest k) (listing_of (loaded rest n l) k) (loaded_keeps rest n l k g)) h
    ]

-- ---- a deletion

pub deleted_keeps : (code : Code) (name : List ℕ) → old_of code name ≡ None → Keeps none code (deleted code name)
deleted_keeps [] name = λ e k g h. h
deleted_keeps (v ∷ rest) name =
    elim (same_text v.name name) as (λ b. option_map (λ i. i.number) (cond {A = Versions} b v (versions_of rest name)).old ≡ None
    → Keeps none (v ∷ rest) (cond {A = Code} b (with_versions name (record v { current = None; old = v.current }) rest) (v ∷ deleted rest name))) [
      | true ↦ λ e k g h. live_with name (record v { current = None; old = v.current }) rest k (only_current v.current v.old k (listing_of rest k) e h)
      | false ↦ λ e k g h. behind v.current k (listing_in v.old k (listing_of rest k)) (listing_in v.old k (listing_of (deleted rest name) k))
          (behind v.old k (listing_of rest k) (listing_of (deleted rest name) k) (deleted_keeps rest name e k g)) h
    ]
  where
    only_current : (a b : Option Instance) (k : ℕ) (o : Option Listing) → option_map (λ i. i.number) b ≡ None → IsTrue (is_some (listing_in a k (listing_in b k o))) → IsTrue (is_some (listing_in a k o))
    only_current a None k o = λ e h. h
    only_current a (Some i) k o = λ e. cc

-- ---- a purge

pub purged_keeps : (code : Code) (name : List ℕ) → Keeps (is_number (old_of code name)) code (purged code name)
purged_keeps [] name = λ k g h. h
purged_keeps (v ∷ rest) name =
    elim (same_text v.name name) as (λ b. Keeps (is_number (option_map (λ i. i.number) (cond {A = Versions} b v (versions_of rest name)).old)) (v ∷ rest)
    (cond {A = Code} b (with_versions name (record v { old = None }) rest) (v ∷ purged rest name))) [
      | true ↦ λ k g h. live_with name (record v { old = None }) rest k (without_old v.current v.old k (listing_of rest k) g h)
      | false ↦ λ k g h. behind v.current k (listing_in v.old k (listing_of rest k)) (listing_in v.old k (listing_of (purged rest name) k))
          (behind v.old k (listing_of rest k) (listing_of (purged rest name) k) (purged_keeps rest name k g)) h
    ]

-- ---- the processes that don't linger

-- an instance in which a process lingers differs from one in which it doesn't
apart : (n m : ℕ) (p : Process) → lingers n p ≡ false → lingers m p ≡ true → (b : Bool) → (m == n) ≡ b → (m == n) ≡ false
apart n m p e f false i = i
apart n m p e f true i = absurd (true≢false (sym f ∙ (ap (λ m. lingers m p) (eqb-true m n i) ∙ e)))

-- processes end, among them all that linger in removed instances
ends_home : (test : Process → Bool) (pids : List ℕ) (new : Code) (p : Process) → (test p ≡ false → IsHome new p) → IsHome new (ends_or_hears test pids p)
ends_home test pids new p h = go (test p) refl
  where
    signals : List Signal
    signals = flat_map (λ pid. downs pid killed p.monitors) pids

    go : (b : Bool) → test p ≡ b → IsHome new (cond b (ended p killed nil_term) (with_signals signals p))
    go true e = λ m f. cc
    go false e = λ m f. h e m (sym (as_before (lingers m) signals p refl) ∙ f)

killing_home : (test : Process → Bool) (gone : ℕ → Bool) (old new : Code) → Keeps gone old new → ((p : Process) (k : ℕ) → test p ≡ false → lingers k p ≡ true → gone k ≡ false)
    → (pids : List ℕ) (ps : List Process) → AreHome old ps → AreHome new (map (ends_or_hears test pids) ps)
killing_home test gone old new k apart pids [] h = tt
killing_home test gone old new k apart pids (p ∷ ps) h =
    (ends_home test pids new p (λ e m f. k m (apart p m e f) (h.0 m f)), killing_home test gone old new k apart pids ps h.1)

-- a process that doesn't linger in an old instance lingers in others only
at_apart : (o : Option ℕ) (p : Process) (k : ℕ) → lingers_at o p ≡ false → lingers k p ≡ true → is_number o k ≡ false
at_apart None p k e f = refl
at_apart (Some n) p k e f = apart n k p e f (k == n) refl

pub purged_home : (code new : Code) (name : List ℕ) → Keeps (is_number (old_of code name)) code new → (ps : List Process) → AreHome code ps → AreHome new (killing (lingers_in_old code name) ps)
purged_home code new name k ps h =
    killing_home (lingers_in_old code name) (is_number (old_of code name)) code new k (λ p m e f. at_apart (old_of code name) p m e f) (pids_of (lingers_in_old code name) ps) ps h

-- whichever processes end, the others stay in live instances
pub killed_home : (test : Process → Bool) (code : Code) (ps : List Process) → AreHome code ps → AreHome code (killing test ps)
killed_home test code ps h = killing_home test none code code (λ k g live. live) (λ p k e f. refl) (pids_of test ps) ps h
