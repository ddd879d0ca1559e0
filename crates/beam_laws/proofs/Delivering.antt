-- A process after a delivery: messages come after the mailbox, in their order.
use Rattle.std.proofs.Common.{◌≡◌, ℕ, ◌==◌, true≢false, Bool, true, false, cond, not, List, [], ◌∷◌, ◌++◌, append_assoc, append-nil, refl, sym, ap, ◌∙◌, ◌&&◌, Option, Some, None, codes}
use Rattle.beam_model.specs.Prelude.{same_text, around}
use Rattle.beam_machine.specs.declared.process.Signal.{Signal}
use Rattle.beam_machine.specs.declared.process.Signal.TheVariants.{Message, Exit, Down}
use Rattle.beam_machine.specs.declared.process.Monitor.{Monitor}
use Rattle.beam_machine.specs.Prelude.{Process, is_ended, ended, killed, monitor_of, without_monitor, signalled, down_term, notified, arrived, delivered}
use Rattle.beam_term.specs.Prelude.{TermValue, nil_term, int_term, atom_term, reference_term, pid_term, pair_term, tuple_term}
use Rattle.beam_laws.specs.Prelude.{messages_for, down_brings}

-- an exit signal is ignored, or the process ends
signalled_keeps : (p : Process) (sender : ℕ) (reason : TermValue) → is_ended (signalled p sender reason).status ≡ false → signalled p sender reason ≡ p
signalled_keeps p sender (atom_term text) = go (same_text text (codes "kill")) (same_text text (codes "normal") && not (sender == p.pid))
  where
    go : (b c : Bool) → is_ended (cond {A = Process} b (ended p killed nil_term) (cond c p (ended p (atom_term text) nil_term))).status ≡ false
        → cond {A = Process} b (ended p killed nil_term) (cond c p (ended p (atom_term text) nil_term)) ≡ p
    go true c = λ e. absurd (true≢false e)
    go false true = λ e. refl
    go false false = λ e. absurd (true≢false e)
signalled_keeps p sender (int_term n) = λ e. absurd (true≢false e)
signalled_keeps p sender (reference_term node creation words) = λ e. absurd (true≢false e)
signalled_keeps p sender (pid_term host id serial creation) = λ e. absurd (true≢false e)
signalled_keeps p sender nil_term = λ e. absurd (true≢false e)
signalled_keeps p sender (pair_term head tail) = λ e. absurd (true≢false e)
signalled_keeps p sender (tuple_term items) = λ e. absurd (true≢false e)

over : (p : Process) (signals : List Signal) → is_ended p.status ≡ true → delivered p signals ≡ p
over p [] e = refl
over p (signal ∷ rest) e = ap (λ b. cond b p (delivered (arrived p signal) rest)) e

-- the mailbox of the process after the delivery
abbrev Delivers : Process → List Signal → Type 0
Delivers p signals = is_ended (delivered p signals).status ≡ false
    → ((delivered p signals).mailbox.messages ≡ p.mailbox.messages ++ messages_for p.monitors signals) × ((delivered p signals).transit ≡ p.transit)

one_delivers : (p : Process) (signal : Signal) (rest : List Signal) → is_ended (arrived p signal).status ≡ false → Delivers (arrived p signal) rest
    → is_ended (delivered (arrived p signal) rest).status ≡ false
    → ((delivered (arrived p signal) rest).mailbox.messages ≡ p.mailbox.messages ++ messages_for p.monitors (signal ∷ rest)) × ((delivered (arrived p signal) rest).transit ≡ p.transit)
one_delivers p (Message t) rest lives h on = ((h on).0 ∙ append_assoc p.mailbox.messages (t ∷ []) (messages_for p.monitors rest), (h on).1)
one_delivers p (Exit sender reason) rest lives h on =
    let same : signalled p sender reason ≡ p = signalled_keeps p sender reason lives in
    ((h on).0 ∙ ap (λ q. q.mailbox.messages ++ messages_for q.monitors rest) same, (h on).1 ∙ ap (λ q. q.transit) same)
one_delivers p (Down reference reason) rest lives h on = by (monitor_of reference p.monitors) refl h on
  where
    told : Option Monitor → List TermValue
    told None = messages_for p.monitors rest
    told (Some m) = around (down_term m) reason ∷ messages_for (without_monitor m.reference p.monitors) rest

    brings : (o : Option Monitor) → monitor_of reference p.monitors ≡ o → messages_for p.monitors (Down reference reason ∷ rest) ≡ told o
    brings None e = ap (down_brings reason (λ left. messages_for left rest) p.monitors) e
    brings (Some m) e = ap (down_brings reason (λ left. messages_for left rest) p.monitors) e

    by : (o : Option Monitor) → monitor_of reference p.monitors ≡ o → Delivers (notified p reason o) rest → is_ended (delivered (notified p reason o) rest).status ≡ false
        → ((delivered (notified p reason o) rest).mailbox.messages ≡ p.mailbox.messages ++ messages_for p.monitors (Down reference reason ∷ rest))
        × ((delivered (notified p reason o) rest).transit ≡ p.transit)
    by None e k live = ((k live).0 ∙ ap (λ ts. p.mailbox.messages ++ ts) (sym (brings None e)), (k live).1)
    by (Some m) e k live =
        ((k live).0 ∙ (append_assoc p.mailbox.messages (around (down_term m) reason ∷ []) (messages_for (without_monitor m.reference p.monitors) rest) ∙ ap (λ ts. p.mailbox.messages ++ ts) (sym (brings (Some m) e))), (k live).1)

pub delivers : (signals : List Signal) (p : Process) → Delivers p signals
delivers [] p = λ on. (sym (append-nil p.mailbox.messages), refl)
delivers (signal ∷ rest) p = go (delivers rest (arrived p signal)) (is_ended p.status) refl
  where
    by : Delivers (arrived p signal) rest → (b : Bool) → is_ended (arrived p signal).status ≡ b → is_ended (delivered (arrived p signal) rest).status ≡ false
        → ((delivered (arrived p signal) rest).mailbox.messages ≡ p.mailbox.messages ++ messages_for p.monitors (signal ∷ rest)) × ((delivered (arrived p signal) rest).transit ≡ p.transit)
    by h false e on = one_delivers p signal rest e h on
    by h true e on = absurd (true≢false (sym e ∙ (ap (λ q. is_ended q.status) (sym (over (arrived p signal) rest e)) ∙ on)))

    go : Delivers (arrived p signal) rest → (b : Bool) → is_ended p.status ≡ b → is_ended (cond {A = Process} b p (delivered (arrived p signal) rest)).status ≡ false
        → ((cond {A = Process} b p (delivered (arrived p signal) rest)).mailbox.messages ≡ p.mailbox.messages ++ messages_for p.monitors (signal ∷ rest))
        × ((cond {A = Process} b p (delivered (arrived p signal) rest)).transit ≡ p.transit)
    go h true e on = absurd (true≢false (sym e ∙ on))
    go h false e on = by h (is_ended (arrived p signal).status) refl on
