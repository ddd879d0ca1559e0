-- The list of the processes that are checked out agrees with what the keeper knows of checkouts, after each of them.
use Rattle.std.proofs.Common.{◌≡◌, ℕ, ◌==◌, ◌||◌, not, Bool, true, false, cond, List, [], ◌∷◌, ◌++◌, filter, map, refl, sym, ap, ◌∙◌}
use Rattle.std.specs.List.{list_any}
use Rattle.beam_model.specs.Prelude.{Listing}
use Rattle.beam_machine.specs.declared.debug.DebugEvent.{DebugEvent}
use Rattle.beam_laws.specs.Prelude.{is_busy}
use Rattle.beam_receipts.specs.Receipts.{Move, after_move, after_moves, moved_in, moved_out}
use Rattle.beam_shared.specs.declared.checked_out.CheckoutEntry.{CheckoutEntry}
use Rattle.beam_shared.specs.Prelude.{AreThoseOut, checked_out_of, must_wait, without_entry}

abbrev pid_of : CheckoutEntry → ℕ
pid_of entry = entry.pid

-- one more move comes last
last_move : (pids : List ℕ) (moves : List Move) (m : Move) → after_moves pids (moves ++ m ∷ []) ≡ after_move (after_moves pids moves) m
last_move pids [] m = refl
last_move pids (first ∷ rest) m = last_move (after_move pids first) rest m

-- ---- a process is checked in

pids_by : (pid : ℕ) (entry : CheckoutEntry) (rest : List CheckoutEntry) (b : Bool) → map pid_of (without_entry pid rest) ≡ filter (λ p. not (p == pid)) (map pid_of rest)
    → map pid_of (cond b (entry ∷ without_entry pid rest) (without_entry pid rest)) ≡ cond b (entry.pid ∷ filter (λ p. not (p == pid)) (map pid_of rest)) (filter (λ p. not (p == pid)) (map pid_of rest))
pids_by pid entry rest true e = ap (λ pids. entry.pid ∷ pids) e
pids_by pid entry rest false e = e

pids_without : (pid : ℕ) (entries : List CheckoutEntry) → map pid_of (without_entry pid entries) ≡ filter (λ p. not (p == pid)) (map pid_of entries)
pids_without pid [] = refl
pids_without pid (entry ∷ rest) = pids_by pid entry rest (not (entry.pid == pid)) (pids_without pid rest)

pub those_in : (moves : List Move) (pid : ℕ) (entries : List CheckoutEntry) → AreThoseOut moves entries → AreThoseOut (moves ++ moved_in pid ∷ []) (without_entry pid entries)
those_in moves pid entries those = pids_without pid entries ∙ (ap (filter (λ p. not (p == pid))) those ∙ sym (last_move [] moves (moved_in pid)))

-- ---- a process is checked out

pids_and : (entries : List CheckoutEntry) (entry : CheckoutEntry) → map pid_of (entries ++ entry ∷ []) ≡ map pid_of entries ++ entry.pid ∷ []
pids_and [] entry = refl
pids_and (first ∷ rest) entry = ap (λ pids. first.pid ∷ pids) (pids_and rest entry)

pub those_out : (moves : List Move) (entries : List CheckoutEntry) (entry : CheckoutEntry) → AreThoseOut moves entries
    → AreThoseOut (moves ++ moved_out entry.pid ∷ []) (entries ++ entry ∷ [])
those_out moves entries entry those = pids_and entries entry ∙ (ap (λ pids. pids ++ entry.pid ∷ []) those ∙ sym (last_move [] moves (moved_out entry.pid)))

-- ---- an event waits for a process that is checked out

same_busy : (event : DebugEvent Listing) (entries : List CheckoutEntry) → list_any (λ (pid : ℕ). is_busy pid event) (map pid_of entries) ≡ must_wait (map checked_out_of entries) event
same_busy event [] = refl
same_busy event (entry ∷ rest) = ap (λ b. is_busy entry.pid event || b) (same_busy event rest)

pub waits_for : (moves : List Move) (event : DebugEvent Listing) (entries : List CheckoutEntry) → AreThoseOut moves entries
    → must_wait (map checked_out_of entries) event ≡ true → list_any (λ (pid : ℕ). is_busy pid event) (after_moves [] moves) ≡ true
waits_for moves event entries those waits = ap (list_any (λ (pid : ℕ). is_busy pid event)) (sym those) ∙ (same_busy event entries ∙ waits)
