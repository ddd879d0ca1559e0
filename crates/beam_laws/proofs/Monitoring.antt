-- Rows and deliveries take monitors away at most.
use Rattle.std.proofs.Common.{◌≡◌, ℕ, ◌==◌, ◌&&◌, Bool, true, false, cond, not, List, [], ◌∷◌, refl, sym, ap, subst, ◌∙◌, Option, Some, None, filter, codes}
use Rattle.beam_machine.specs.declared.process.Monitor.{Monitor}
use Rattle.beam_machine.specs.declared.process.Signal.{Signal}
use Rattle.beam_machine.specs.declared.process.Signal.TheVariants.{Message, Exit, Down}
use Rattle.beam_machine.specs.Prelude.{Code, signalled, notified, arrived, delivered, Process, is_ended, ended, killed, monitor_of, Outcome, makes, sends, asks, sleeps, outcome}
use Rattle.beam_model.specs.Prelude.{same_text}
use Rattle.beam_term.specs.Prelude.{TermValue, nil_term, atom_term}
use Rattle.beam_laws.specs.Prelude.{ArePart, MonitorsNoMore}
use Rattle.beam_laws.proofs.Follows.{ComesWith, outcome_comes_with}

-- ---- parts

all_part : (ms : List Monitor) → ms ≡ filter (λ m. true) ms
all_part [] = refl
all_part (m ∷ ms) = ap (λ ns. m ∷ ns) (all_part ms)

none_part : (ms : List Monitor) → [] ≡ filter (λ m. false) ms
none_part [] = refl
none_part (m ∷ ms) = none_part ms

twice : (keep more : Monitor → Bool) (ms : List Monitor) → filter more (filter keep ms) ≡ filter (λ m. keep m && more m) ms
twice keep more [] = refl
twice keep more (m ∷ ms) = go (keep m) (more m) refl (twice keep more ms)
  where
    go : (b c : Bool) → more m ≡ c → filter more (filter keep ms) ≡ filter (λ m. keep m && more m) ms
        → filter more (cond b (m ∷ filter keep ms) (filter keep ms)) ≡ cond (b && more m) (m ∷ filter (λ m. keep m && more m) ms) (filter (λ m. keep m && more m) ms)
    go false c e rest = rest
    go true c e rest =
        ap (λ ns. cond (more m) (m ∷ ns) ns) rest

pub all_are : (ms : List Monitor) → ArePart ms ms
all_are ms = ((λ m. true), all_part ms)

pub none_are : (ms : List Monitor) → ArePart ms []
none_are ms = ((λ m. false), none_part ms)

pub fewer_are : (all ms : List Monitor) (keep : Monitor → Bool) → ArePart all ms → ArePart all (filter keep ms)
fewer_are all ms keep h = ((λ m. h.0 m && keep m), ap (filter keep) h.1 ∙ twice h.0 keep all)

pub part_of_part : (a b c : List Monitor) → ArePart a b → ArePart b c → ArePart a c
part_of_part a b c g h = subst (ArePart a) (sym h.1) (fewer_are a b h.0 g)

-- ---- rows

pub row_part : (code : Code) (p : Process) → is_ended p.status ≡ false → MonitorsNoMore p.monitors (outcome code p)
row_part code p lives =
    go (outcome code p) (outcome_comes_with p.pid p.name (ArePart p.monitors) (none_are p.monitors) (λ ms keep h. fewer_are p.monitors ms keep h) code p ((refl, (refl, lives)), all_are p.monitors))
  where
    go : (o : Outcome) → ComesWith p.pid p.name (ArePart p.monitors) (none_are p.monitors) (λ ms keep h. fewer_are p.monitors ms keep h) o → MonitorsNoMore p.monitors o
    go (makes q) c = c.1
    go (sends q to signal) c = c.1
    go (asks q native arity after) c = c.1
    go (sleeps q n next) c = c.1

-- ---- what arrives

signalled_part : (p : Process) (sender : ℕ) (reason : TermValue) → ArePart p.monitors (signalled p sender reason).monitors
signalled_part p sender (atom_term text) =
    elim (same_text text (codes "kill")) as (λ c. ArePart p.monitors (cond {A = Process} c (ended p killed nil_term) (cond (same_text text (codes "normal") && not (sender == p.pid)) p (ended p (atom_term text) nil_term))).monitors) [
      | true ↦ none_are p.monitors
      | false ↦ elim (same_text text (codes "normal") && not (sender == p.pid)) as (λ c. ArePart p.monitors (cond {A = Process} c p (ended p (atom_term text) nil_term)).monitors) [ true ↦ all_are p.monitors | false ↦ none_are p.monitors ]
    ]
signalled_part p sender reason = none_are p.monitors

notified_part : (p : Process) (reason : TermValue) (o : Option Monitor) → ArePart p.monitors (notified p reason o).monitors
notified_part p reason None = all_are p.monitors
notified_part p reason (Some m) = fewer_are p.monitors p.monitors (λ n. not (n.reference == m.reference)) (all_are p.monitors)

arrived_part : (p : Process) (signal : Signal) → ArePart p.monitors (arrived p signal).monitors
arrived_part p (Message t) = all_are p.monitors
arrived_part p (Exit sender reason) = signalled_part p sender reason
arrived_part p (Down reference reason) = notified_part p reason (monitor_of reference p.monitors)

pub delivered_part : (signals : List Signal) (p : Process) → ArePart p.monitors (delivered p signals).monitors
delivered_part [] p = all_are p.monitors
delivered_part (signal ∷ rest) p =
    elim (is_ended p.status) as (λ b. ArePart p.monitors (cond b p (delivered (arrived p signal) rest)).monitors) [
      | true ↦ all_are p.monitors
      | false ↦ part_of_part p.monitors (arrived p signal).monitors (delivered (arrived p signal) rest).monitors (arrived_part p signal) (delivered_part rest (arrived p signal))
    ]
