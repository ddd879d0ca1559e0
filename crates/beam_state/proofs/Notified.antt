-- Whether there are DOWNs of an end: there are none where no key is told, by the index's contract, nor where no process monitors the one that
-- ends, process by process; and a key that is told is of a process that monitors it.
use Rattle.std.proofs.Common.{◌≡◌, ℕ, ◌+◌, ◌<◌, ◌==◌, ◌||◌, Bool, true, false, cond, List, [], ◌∷◌, ◌++◌, map, refl, sym, ap, subst, ◌∙◌, true≢false, filter}
use Rattle.std.proofs.lemmas.Bool.{or_parts}
use Rattle.std.specs.List.{list_any}
use Rattle.beam_machine.specs.declared.process.Monitor.{Monitor}
use Rattle.beam_machine.specs.declared.process.Signal.{Signal}
use Rattle.beam_machine.specs.declared.process.Signal.TheVariants.{Down}
use Rattle.beam_machine.specs.Prelude.{Process, monitors_process, downs, is_monitored}
use Rattle.beam_term.specs.Prelude.{TermValue}
use Rattle.beam_laws.specs.Prelude.{AreRising, each_sent}
use Rattle.beam_state.specs.Prelude.{AreLawful, TellAll, down_of, is_key_of, is_told, notices_of}
use Rattle.beam_state.proofs.MonitorKeys.{none_told}
use Rattle.beam_state.proofs.Telling.{none_to_send}

-- ---- by the index

none_passes : {A : Type 0} (test : A → Bool) (xs : List A) → list_any test xs ≡ false → filter test xs ≡ []
none_passes test [] e = refl
none_passes test (x ∷ xs) e =
    let each = or_parts (test x) (list_any test xs) e in
    ap (λ b. cond b (x ∷ filter test xs) (filter test xs)) each.0 ∙ none_passes test xs each.1

all_fail : {A : Type 0} (test : A → Bool) (xs : List A) → ((x : A) → test x ≡ false) → list_any test xs ≡ false
all_fail test [] fails = refl
all_fail test (x ∷ xs) fails = ap (λ b. b || list_any test xs) (fails x) ∙ all_fail test xs fails

pub told_monitored : (ps : List Process) (pid : ℕ) (keys : List ℕ) → list_any (is_told ps pid) keys ≡ true → is_monitored ps pid ≡ true
told_monitored ps pid keys e = go (is_monitored ps pid) refl
  where
    go : (b : Bool) → is_monitored ps pid ≡ b → b ≡ true
    go true m = refl
    go false m = absurd (true≢false (sym e ∙ all_fail (is_told ps pid) keys (λ k. none_told ps pid k m)))

pub untold : (keys : List ℕ) (ps : List Process) (pid count : ℕ) → TellAll keys ps → count < 4294967296 → AreLawful count ps
    → list_any (is_told ps pid) (filter (is_key_of pid) keys) ≡ false → (reason : TermValue) → notices_of ps pid reason ≡ []
untold keys ps pid count all few lawful none reason =
    sym (all pid count reason few lawful) ∙ ap (map (down_of reason)) (none_passes (is_told ps pid) (filter (is_key_of pid) keys) none)

-- ---- by a walk

no_downs : (pid : ℕ) (reason : TermValue) (ms : List Monitor) → list_any (monitors_process pid) ms ≡ false → downs pid reason ms ≡ []
no_downs pid reason ms e = ap (map (λ m. Down m.reference reason)) (none_passes (monitors_process pid) ms e)

none_sent : (at pid : ℕ) (reason : TermValue) (ps : List Process) → is_monitored ps pid ≡ false → each_sent at (λ q. cond (q.pid == pid) [] (downs pid reason q.monitors)) ps ≡ []
none_sent at pid reason [] e = refl
none_sent at pid reason (p ∷ ps) e =
    let each = or_parts (list_any (monitors_process pid) p.monitors) (is_monitored ps pid) e in
    ap (λ xs. map (λ signal. record { to = at; signal = signal }) xs ++ each_sent (at + 1) (λ q. cond (q.pid == pid) [] (downs pid reason q.monitors)) ps)
    (ap (λ ds. cond {A = List Signal} (p.pid == pid) [] ds) (no_downs pid reason p.monitors each.0)
    ∙ elim (p.pid == pid) as (λ b. cond {A = List Signal} b [] [] ≡ []) [ true ↦ refl | false ↦ refl ])
    ∙ none_sent (at + 1) pid reason ps each.1

pub unmonitored : (ps : List Process) (pid : ℕ) → is_monitored ps pid ≡ false → (reason : TermValue) → notices_of ps pid reason ≡ []
unmonitored ps pid e reason = none_sent 1 pid reason ps e

-- no reference was made, so nothing is monitored
pub none_made : (ps : List Process) (pid count : ℕ) → count ≡ 0 → AreLawful count ps → (reason : TermValue) → notices_of ps pid reason ≡ []
none_made ps pid count none lawful reason = none_to_send ps pid reason (subst (λ n. AreRising n ps) none lawful.1)
