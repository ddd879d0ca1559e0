-- Signals that arrive one after another.
use Rattle.std.proofs.Common.{◌≡◌, ℕ, Bool, true, false, not, cond, ◌==◌, ◌&&◌, if◌then◌else◌, List, [], ◌∷◌, ◌++◌, fold, Option, Some, None, option_map, codes, refl, ap, ◌∙◌, sym, append_assoc, arith, true≢false}
use Rattle.std.proofs.lemmas.Bool.Decides.{nat_tests}
use Rattle.std.proofs.lemmas.Option.{none-some, same_Some}
use Rattle.std.specs.List.{list_any}
use Rattle.beam_model.specs.Prelude.{same_text, around}
use Rattle.beam_machine.specs.declared.process.Signal.{Signal}
use Rattle.beam_machine.specs.declared.process.Signal.TheVariants.{Message, Exit, Down}
use Rattle.beam_machine.specs.declared.process.Monitor.{Monitor}
use Rattle.beam_machine.specs.declared.process.Status.TheVariants.{Running}
use Rattle.beam_machine.specs.Prelude.{Process, ended, is_ended, killed, monitor_of, without_monitor, delivered, received, notified, signalled, down_term}
use Rattle.beam_term.specs.Prelude.{TermValue, int_term, atom_term, reference_term, pid_term, tuple_term, nil_term, pair_term}
use Rattle.beam_mailbox.specs.Messages.{messages_of}
use Rattle.beam_proc.specs.Prelude.{ends_by, this_reason, ending, is_down, left_by, added, arriving, woken, with_delivered, received_all}

pub append_none : (ts : List TermValue) → ts ++ [] ≡ ts
append_none [] = refl
append_none (t ∷ ts) = ap (λ l. t ∷ l) (append_none ts)

-- ---- monitors

-- a monitor that is found is that of the reference
pub found_is : (n : ℕ) (ms : List Monitor) (m : Monitor) → monitor_of n ms ≡ Some m → m.reference ≡ n
found_is n [] m e = absurd (none-some m e)
found_is n (k ∷ ms) m e = go (k.reference == n) refl e (found_is n ms m)
  where
    go : (b : Bool) → (k.reference == n) ≡ b → cond b (Some k) (monitor_of n ms) ≡ Some m → (monitor_of n ms ≡ Some m → m.reference ≡ n) → m.reference ≡ n
    go false is e others = others e
    go true is e others =
        let same : k.reference ≡ n = grind (arith, nat_tests) in
        ap (λ o. o.reference) (sym (same_Some k m e)) ∙ same

-- where no monitor of a reference is found, none is taken away
pub none_left : (n : ℕ) (ms : List Monitor) → monitor_of n ms ≡ None → without_monitor n ms ≡ ms
none_left n [] e = refl
none_left n (k ∷ ms) e = go (k.reference == n) e (none_left n ms)
  where
    go : (b : Bool) → cond b (Some k) (monitor_of n ms) ≡ None → (monitor_of n ms ≡ None → without_monitor n ms ≡ ms)
        → cond (not b) (k ∷ without_monitor n ms) (without_monitor n ms) ≡ k ∷ ms
    go true e others = absurd (none-some k (sym e))
    go false e others = ap (λ l. k ∷ l) (others e)

-- without a DOWN the messages are those that were sent, and the monitors stay
pub without_downs : (ms : List Monitor) (signals : List Signal) → list_any is_down signals ≡ false → arriving ms signals ≡ messages_of signals
without_downs ms [] e = refl
without_downs ms (Message t ∷ rest) e = ap (λ ts. t ∷ ts) (without_downs ms rest e)
without_downs ms (Exit sender reason ∷ rest) e = without_downs ms rest e
without_downs ms (Down reference reason ∷ rest) e = absurd (true≢false e)

pub monitors_stay : (ms : List Monitor) (signals : List Signal) → list_any is_down signals ≡ false → fold left_by ms signals ≡ ms
monitors_stay ms [] e = refl
monitors_stay ms (Message t ∷ rest) e = monitors_stay ms rest e
monitors_stay ms (Exit sender reason ∷ rest) e = monitors_stay ms rest e
monitors_stay ms (Down reference reason ∷ rest) e = absurd (true≢false e)

-- ---- messages

woken_running : (ts : List TermValue) → woken ts Running ≡ Running
woken_running [] = refl
woken_running (t ∷ ts) = refl

-- one message more before the others
told_first : (p : Process) (t : TermValue) (ts : List TermValue) (ms : List Monitor) → with_delivered (received p t) ts ms ≡ with_delivered p (t ∷ ts) ms
told_first p t ts ms =
    ap (λ s. record p { mailbox = record p.mailbox { messages = (p.mailbox.messages ++ t ∷ []) ++ ts }; status = s; monitors = ms }) (woken_running ts)
    ∙ ap (λ l. record p { mailbox = record p.mailbox { messages = l }; status = Running; monitors = ms }) (append_assoc p.mailbox.messages (t ∷ []) ts)

received_first : (p : Process) (t : TermValue) (end : Option TermValue) (signals : List Signal) → received_all (received p t) end signals ≡ received_all p end (Message t ∷ signals)
received_first p t (Some reason) signals = refl
received_first p t None signals = told_first p t (arriving p.monitors signals) (fold left_by p.monitors signals)

-- ---- exit signals

-- a process after an exit signal
abbrev pub after_exit : Process → Option TermValue → Process
after_exit p (Some reason) = ended p reason nil_term
after_exit p None = p

atom_signalled : (p : Process) (text : List ℕ) (b c : Bool) → (if b then ended p killed nil_term else if c then p else ended p (atom_term text) nil_term)
    ≡ after_exit p (if b then Some killed else if c then None else Some (atom_term text))
atom_signalled p text true c = refl
atom_signalled p text false true = refl
atom_signalled p text false false = refl

signalled_is : (p : Process) (sender : ℕ) (reason : TermValue) → signalled p sender reason ≡ after_exit p (ends_by p.pid sender reason)
signalled_is p sender (atom_term text) = atom_signalled p text (same_text text (codes "kill")) (same_text text (codes "normal") && not (sender == p.pid))
signalled_is p sender (int_term n) = refl
signalled_is p sender (reference_term a b c) = refl
signalled_is p sender (pid_term a b c d) = refl
signalled_is p sender (tuple_term ts) = refl
signalled_is p sender nil_term = refl
signalled_is p sender (pair_term a b) = refl

delivered_ended : (p : Process) (reason : TermValue) (signals : List Signal) → delivered (ended p reason nil_term) signals ≡ ended p reason nil_term
delivered_ended p reason [] = refl
delivered_ended p reason (signal ∷ rest) = refl

same_exit : (p : Process) (later : Option TermValue) (sender : ℕ) (reason : TermValue) (rest : List Signal) → received_all p later rest ≡ received_all p later (Exit sender reason ∷ rest)
same_exit p (Some r) sender reason rest = refl
same_exit p None sender reason rest = refl

exit_first : (p : Process) (end later : Option TermValue) (sender : ℕ) (reason : TermValue) (rest : List Signal) → delivered p rest ≡ received_all p later rest
    → delivered (after_exit p end) rest ≡ received_all p (this_reason end later) (Exit sender reason ∷ rest)
exit_first p (Some r) later sender reason rest h = delivered_ended p r rest
exit_first p None later sender reason rest h = h ∙ same_exit p later sender reason rest

-- ---- DOWN signals

-- a process after a DOWN and further signals, by the monitor that was found
abbrev with_found : Process → TermValue → List Monitor → List Signal → Option Monitor → Process
with_found p reason ms rest found = with_delivered p (added (option_map (λ m. around (down_term m) reason) found) (arriving ms rest)) (fold left_by ms rest)

unheard : (p : Process) (n : ℕ) (reason : TermValue) (rest : List Signal) (end : Option TermValue) → monitor_of n p.monitors ≡ None
    → received_all p end rest ≡ received_all p end (Down n reason ∷ rest)
unheard p n reason rest (Some r) e = refl
unheard p n reason rest None e =
    ap (λ ms. with_delivered p (arriving ms rest) (fold left_by ms rest)) (sym (none_left n p.monitors e))
    ∙ ap (with_found p reason (without_monitor n p.monitors) rest) (sym e)

heard : (p : Process) (n : ℕ) (reason : TermValue) (rest : List Signal) (end : Option TermValue) (m : Monitor) → monitor_of n p.monitors ≡ Some m
    → received_all (notified p reason (Some m)) end rest ≡ received_all p end (Down n reason ∷ rest)
heard p n reason rest (Some r) m e = refl
heard p n reason rest None m e =
    let t : TermValue = around (down_term m) reason in
    let left : List Monitor = without_monitor m.reference p.monitors in
    told_first (record p { monitors = left }) t (arriving left rest) (fold left_by left rest)
    ∙ (ap (λ k. with_found p reason (without_monitor k p.monitors) rest (Some m)) (found_is n p.monitors m e)
    ∙ ap (with_found p reason (without_monitor n p.monitors) rest) (sym e))

-- ---- all

abbrev AllArrive : List Signal → Type 0
AllArrive signals = (p : Process) → is_ended p.status ≡ false → delivered p signals ≡ received_all p (ending p.pid signals) signals

down_first : (p : Process) (n : ℕ) (reason : TermValue) (rest : List Signal) (o : Option Monitor) → monitor_of n p.monitors ≡ o → is_ended p.status ≡ false
    → AllArrive rest → delivered (notified p reason o) rest ≡ received_all p (ending p.pid rest) (Down n reason ∷ rest)
down_first p n reason rest None e lives all = all p lives ∙ unheard p n reason rest (ending p.pid rest) e
down_first p n reason rest (Some m) e lives all =
    all (notified p reason (Some m)) refl ∙ heard p n reason rest (ending p.pid rest) m e

all_arrive : (signals : List Signal) → AllArrive signals
all_arrive [] p e = ap (λ ms. record p { mailbox = record p.mailbox { messages = ms } }) (sym (append_none p.mailbox.messages))
all_arrive (Message t ∷ rest) p e =
    ap (λ b. if b then p else delivered (received p t) rest) e
    ∙ (all_arrive rest (received p t) refl ∙ received_first p t (ending p.pid rest) rest)
all_arrive (Exit sender reason ∷ rest) p e =
    ap (λ b. if b then p else delivered (signalled p sender reason) rest) e
    ∙ (ap (λ q. delivered q rest) (signalled_is p sender reason)
    ∙ exit_first p (ends_by p.pid sender reason) (ending p.pid rest) sender reason rest (all_arrive rest p e))
all_arrive (Down n reason ∷ rest) p e =
    ap (λ b. if b then p else delivered (notified p reason (monitor_of n p.monitors)) rest) e
    ∙ down_first p n reason rest (monitor_of n p.monitors) refl e (all_arrive rest)

pub delivered_is : (p : Process) (signals : List Signal) → is_ended p.status ≡ false → delivered p signals ≡ received_all p (ending p.pid signals) signals
delivered_is p signals e = all_arrive signals p e
