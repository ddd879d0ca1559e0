-- The monitors without those of references whose DOWN has arrived.
use Rattle.std.proofs.Common.{◌≡◌, ℕ, Bool, true, false, not, cond, nat_eq, ◌==◌, ◌||◌, if◌then◌else◌, List, [], ◌∷◌, ◌++◌, Option, Some, None, option_map, refl, ap, ◌∙◌, sym, append_assoc, arith}
use Rattle.std.proofs.lemmas.Bool.Decides.{nat_tests}
use Rattle.std.specs.List.{list_any}
use Rattle.indexmap.specs.IndexSet.{insert_key}
use Rattle.beam_model.specs.Prelude.{around}
use Rattle.beam_machine.specs.declared.process.Signal.{Signal}
use Rattle.beam_machine.specs.declared.process.Signal.TheVariants.{Message, Exit, Down}
use Rattle.beam_machine.specs.declared.process.Monitor.{Monitor}
use Rattle.beam_machine.specs.Prelude.{monitor_of, without_monitor, down_term}
use Rattle.beam_term.specs.Prelude.{TermValue}
use Rattle.beam_mailbox.specs.Messages.{messages_of}
use Rattle.beam_proc.specs.Prelude.{but_of, added, message_by, left_by, arriving}
use Rattle.beam_proc.proofs.Deliveries.{found_is}

-- ---- a number more

or_false : (b : Bool) → (b || false) ≡ b
or_false true = refl
or_false false = refl

appended : (r n : ℕ) (ks : List ℕ) → list_any (nat_eq r) (ks ++ n ∷ []) ≡ (list_any (nat_eq r) ks || nat_eq r n)
appended r n [] = or_false (nat_eq r n)
appended r n (k ∷ ks) = go (nat_eq r k) (appended r n ks)
  where
    go : (b : Bool) → list_any (nat_eq r) (ks ++ n ∷ []) ≡ (list_any (nat_eq r) ks || nat_eq r n)
        → (b || list_any (nat_eq r) (ks ++ n ∷ [])) ≡ ((b || list_any (nat_eq r) ks) || nat_eq r n)
    go true others = refl
    go false others = others

inserted : (r n : ℕ) (ks : List ℕ) → list_any (nat_eq r) (insert_key nat_eq ks n) ≡ (list_any (nat_eq r) ks || nat_eq r n)
inserted r n ks = go (list_any (nat_eq n) ks) refl
  where
    there : (b : Bool) → nat_eq r n ≡ b → list_any (nat_eq n) ks ≡ true → list_any (nat_eq r) ks ≡ (list_any (nat_eq r) ks || b)
    there false is has = sym (or_false (list_any (nat_eq r) ks))
    there true is has =
        let same : r ≡ n = grind (arith, nat_tests) in
        let too : list_any (nat_eq r) ks ≡ true = ap (λ k. list_any (nat_eq k) ks) same ∙ has in
        too ∙ ap (λ b. b || true) (sym too)

    go : (c : Bool) → list_any (nat_eq n) ks ≡ c → list_any (nat_eq r) (if c then ks else ks ++ n ∷ []) ≡ (list_any (nat_eq r) ks || nat_eq r n)
    go false is = appended r n ks
    go true is = there (nat_eq r n) refl is

-- ---- monitors

pub but_none : (ms : List Monitor) → but_of [] ms ≡ ms
but_none [] = refl
but_none (m ∷ ms) = ap (λ l. m ∷ l) (but_none ms)

pub without_but : (n : ℕ) (ks : List ℕ) (ms : List Monitor) → without_monitor n (but_of ks ms) ≡ but_of (insert_key nat_eq ks n) ms
without_but n ks [] = refl
without_but n ks (m ∷ ms) =
    go (list_any (nat_eq m.reference) ks) (without_but n ks ms)
    ∙ ap (λ b. cond (not b) (m ∷ but_of (insert_key nat_eq ks n) ms) (but_of (insert_key nat_eq ks n) ms)) (sym (inserted m.reference n ks))
  where
    others : List Monitor
    others = but_of (insert_key nat_eq ks n) ms

    go : (a : Bool) → without_monitor n (but_of ks ms) ≡ others
        → without_monitor n (cond (not a) (m ∷ but_of ks ms) (but_of ks ms)) ≡ cond (not (a || (m.reference == n))) (m ∷ others) others
    go true same = same
    go false same = ap (λ l. cond (not (m.reference == n)) (m ∷ l) l) same

neither : {T : Type 0} (o : Option T) (c : Bool) → o ≡ cond c o o
neither o true = refl
neither o false = refl

monitor_but : (n : ℕ) (ks : List ℕ) (ms : List Monitor) → monitor_of n (but_of ks ms) ≡ cond (list_any (nat_eq n) ks) None (monitor_of n ms)
monitor_but n ks [] = neither None (list_any (nat_eq n) ks)
monitor_but n ks (m ∷ ms) = go (list_any (nat_eq m.reference) ks) refl (m.reference == n) refl (monitor_but n ks ms)
  where
    has : Bool
    has = list_any (nat_eq n) ks

    alike : (a : Bool) → list_any (nat_eq m.reference) ks ≡ a → (m.reference == n) ≡ true → has ≡ a
    alike a is equal =
        let same : m.reference ≡ n = grind (arith, nat_tests) in
        ap (λ k. list_any (nat_eq k) ks) (sym same) ∙ is

    go : (a : Bool) → list_any (nat_eq m.reference) ks ≡ a → (b : Bool) → (m.reference == n) ≡ b
        → monitor_of n (but_of ks ms) ≡ cond has None (monitor_of n ms)
        → monitor_of n (cond (not a) (m ∷ but_of ks ms) (but_of ks ms)) ≡ cond has None (cond b (Some m) (monitor_of n ms))
    go true is false apart others = others
    go true is true equal others =
        others ∙ (ap (λ c. cond c None (monitor_of n ms)) (alike true is equal) ∙ sym (ap (λ c. cond c None (Some m)) (alike true is equal)))
    go false is false apart others = ap (λ b. cond b (Some m) (monitor_of n (but_of ks ms))) apart ∙ others
    go false is true equal others =
        ap (λ b. cond b (Some m) (monitor_of n (but_of ks ms))) equal ∙ sym (ap (λ c. cond c None (Some m)) (alike false is equal))

pub once : (n : ℕ) (ks : List ℕ) (ms : List Monitor) → list_any (nat_eq n) ks ≡ false → monitor_of n ms ≡ monitor_of n (but_of ks ms)
once n ks ms new = sym (monitor_but n ks ms ∙ ap (λ c. cond c None (monitor_of n ms)) new)

pub twice : (n : ℕ) (ks : List ℕ) (ms : List Monitor) → list_any (nat_eq n) ks ≡ true → None ≡ monitor_of n (but_of ks ms)
twice n ks ms old = sym (monitor_but n ks ms ∙ ap (λ c. cond c None (monitor_of n ms)) old)

-- ---- messages

-- the message of a DOWN, by the pid of its monitor
pub down_brings : (n : ℕ) (reason : TermValue) (ms : List Monitor) (pid : TermValue) → Some pid ≡ option_map (λ m. m.pid) (monitor_of n ms)
    → Some (around (down_term (record { reference = n; pid = pid })) reason) ≡ message_by ms (Down n reason)
down_brings n reason ms pid is =
    ap (option_map (λ t. around (down_term (record { reference = n; pid = t })) reason)) is ∙ go (monitor_of n ms) refl
  where
    go : (o : Option Monitor) → monitor_of n ms ≡ o
        → option_map (λ t. around (down_term (record { reference = n; pid = t })) reason) (option_map (λ m. m.pid) o) ≡ option_map (λ m. around (down_term m) reason) o
    go None e = refl
    go (Some m) e = ap (λ k. Some (around (down_term (record { reference = k; pid = m.pid })) reason)) (sym (found_is n ms m e))

-- a message more after others
pub pushed : (signals : List Signal) (t : TermValue) → messages_of (signals ++ Message t ∷ []) ≡ messages_of signals ++ t ∷ []
pushed [] t = refl
pushed (Message s ∷ rest) t = ap (λ l. s ∷ l) (pushed rest t)
pushed (Exit sender reason ∷ rest) t = pushed rest t
pushed (Down reference reason ∷ rest) t = pushed rest t

added_first : (o : Option TermValue) (ts : List TermValue) → added o [] ++ ts ≡ added o ts
added_first None ts = refl
added_first (Some t) ts = refl

-- one signal more has arrived
pub carried : (ms left : List Monitor) (signal : Signal) (rest : List Signal) (before after : List TermValue) (o : Option TermValue) → after ≡ before ++ added o []
    → o ≡ message_by ms signal → left ≡ left_by ms signal → after ++ arriving left rest ≡ before ++ arriving ms (signal ∷ rest)
carried ms left signal rest before after o more brings leaves =
    ap (λ ts. ts ++ arriving left rest) more
    ∙ (append_assoc before (added o []) (arriving left rest)
    ∙ (ap (λ ts. before ++ ts) (added_first o (arriving left rest))
    ∙ (λ z. before ++ added (brings z) (arriving (leaves z) rest))))
