-- The node's answers to a message and to a native for which a process asks.
use Rattle.std.proofs.Common.{◌≡◌, ℕ, zero, suc, ◌+◌, ◌-◌, ◌<◌, false, List, [], ◌∷◌, length, slice_get, get_or, refl, sym, ap, ◌∙◌, arith, Result, Ok, Option, Some, None, option_map, unwrap_or}
use Rattle.std.proofs.Math.ListN.{set}
use Rattle.std.proofs.lemmas.Option.{slice_get_within, same_Some}
use Rattle.beam_model.specs.declared.exception.Fault.{Fault}
use Rattle.beam_model.specs.declared.native.NodeNative.{NodeNative}
use Rattle.beam_model.specs.Prelude.{Place}
use Rattle.beam_machine.specs.declared.callee.After.{After}
use Rattle.beam_machine.specs.declared.event.Then.{Then}
use Rattle.beam_machine.specs.declared.event.Then.TheVariants.{GoesOn}
use Rattle.beam_machine.specs.declared.process.Signal.TheVariants.{Message}
use Rattle.beam_machine.specs.declared.process.Status.TheVariants.{Running}
use Rattle.beam_machine.specs.Prelude.{Process, is_ended, then_of, read_x, put_x, Outcome, sends, goes_on, answers, State, process_of, with_process, posted, hearing_by, with_made, answer_of, done_by, goes_on_with, continues, raised}
use Rattle.beam_term.specs.Prelude.{TermValue}
use Rattle.beam_laws.proofs.Hearing.{hearing_here, none_hear}
use Rattle.beam_state.proofs.Located.{at_pid}
use Rattle.beam_state.specs.Prelude.{RespondsBy, AnswersNative, bare_if, sending, node, parts, then_at}
use Rattle.beam_state.proofs.Located.{pid_found, put_back}
use Rattle.beam_state.proofs.Leaving.{Kept, kept, kept_at, posted_stay}
use Rattle.beam_state.proofs.Reframed.{at_one, here, set_one, set_again, answer_reframed}
use Rattle.beam_state.proofs.Seen.{each, get_each, moved}

-- ---- one process of the list

pub set_same : (ps : List Process) (at : ℕ) (p : Process) → slice_get ps at ≡ Some p → set ps at p ≡ ps
set_same [] at p e = refl
set_same (q ∷ ps) zero p e = ap (λ r. r ∷ ps) (sym (same_Some q p e))
set_same (q ∷ ps) (suc at) p e = ap (λ l. q ∷ l) (set_same ps at p e)

pub get_set : (ps : List Process) (at : ℕ) (q : Process) → at < length ps → slice_get (set ps at q) at ≡ Some q
get_set [] at q h = absurd (omega arith)
get_set (p ∷ ps) zero q h = refl
get_set (p ∷ ps) (suc at) q h = get_set ps at q (omega arith)

pub process_set : (ps : List Process) (at pid : ℕ) (q : Process) → pid ≡ at + 1 → at < length ps → process_of (set ps at q) pid ≡ Some q
process_set ps at pid q e l = at_pid (set ps at q) at pid e ∙ get_set ps at q l

pub set_process : (ps : List Process) (at pid : ℕ) (q : Process) → pid ≡ at + 1 → with_process ps pid q ≡ set ps at q
set_process ps at pid q e =
    let same : pid - 1 ≡ at = omega arith in
    ap (λ k. set ps k q) same

pub set_twice : (ps : List Process) (at : ℕ) (p q : Process) → set (set ps at q) at p ≡ set ps at p
set_twice [] at p q = refl
set_twice (r ∷ ps) zero p q = refl
set_twice (r ∷ ps) (suc at) p q = ap (λ l. r ∷ l) (set_twice ps at p q)

-- a change that is undone
pub undone : (ps cur : List Process) (at : ℕ) (p q r : Process) → at < length ps → p ≡ get_or ps at p → cur ≡ set ps at q → r ≡ p → set cur at r ≡ ps
undone ps cur at p q r l g e is = ap (λ qs. set qs at r) e ∙ (set_twice ps at r q ∙ (ap (λ r. set ps at r) is ∙ put_back ps at p l g))

-- ---- natives

pub put_there : (ps : List Process) (at pid : ℕ) (p q : Process) → pid ≡ at + 1 → slice_get ps at ≡ Some p → process_of (with_process ps pid q) pid ≡ Some q
put_there ps at pid p q e there = ap (λ qs. process_of qs pid) (set_process ps at pid q e) ∙ process_set ps at pid q e (slice_get_within ps at p there)

-- how a process stands that was made of another
pub made_stands : (ps : List Process) (at pid : ℕ) (p q : Process) → pid ≡ at + 1 → slice_get ps at ≡ Some p → then_at (with_made ps pid q) pid ≡ Some (then_of q.status)
made_stands ps at pid p q e there = ap (option_map (λ p. then_of p.status)) (hearing_here pid q.status (with_process ps pid q) q (put_there ps at pid p q e there) refl)

-- a process that hasn't ended is put in its place, and no process hears anything
pub made_quietly : (ps : List Process) (at pid : ℕ) (q : Process) → pid ≡ at + 1 → is_ended q.status ≡ false → with_made ps pid q ≡ set ps at q
made_quietly ps at pid q e lives = none_hear pid q.status (with_process ps pid q) lives ∙ set_process ps at pid q e

-- the node's answer to a native: these processes, this value or fault, and this count of references
abbrev pub Answered : ℕ → List Process → ℕ → NodeNative → List TermValue → List Process → Result TermValue Fault → ℕ → Type 0
Answered references old pid native arguments mid value count =
    (made : Option ℕ) × (answer_of references old pid native arguments ≡ record { processes = mid; made = made; value = value }) × (unwrap_or made references ≡ count)

-- the process that asked goes on with the value or the fault of its native, and all that monitor it hear of its end, if it ends
pub answered : (references pid at : ℕ) (slots : Option ℕ) (native : NodeNative) (arguments : List TermValue) (after : After) (old mid new : List Process) (p q : Process)
    (value : Result TermValue Fault) (count : ℕ) (said : Then) → pid ≡ at + 1 → slice_get old at ≡ Some p → slice_get mid at ≡ Some q
    → Answered references old pid native arguments mid value count → new ≡ with_made mid pid (answers (bare_if slots q) after (raised value)) → then_at new pid ≡ Some said
    → AnswersNative pid slots native arguments after references old (Ok said) count new
answered references pid at slots native arguments after old mid new p q value count said e there got (made, gave, counted) is stands = (whole, stands)
  where
    h : Process → Process
    h = bare_if slots

    g : ℕ → Process → Process
    g = at_one (bare_if slots) at

    r : Process
    r = answers (bare_if slots q) after (raised value)

    same : pid - 1 ≡ at
    same = omega arith

    bare : (p' : Process) → process_of old pid ≡ Some p' → with_process old pid (h p') ≡ each (at_one (bare_if slots) at) old
    bare p' found =
        ap (λ p. with_process old pid (h p)) (same_Some p' p (sym found ∙ (at_pid old at pid e ∙ there)))
        ∙ (set_process old at pid (h p) e ∙ set_one (bare_if slots) old at p there)

    asker : process_of (each (at_one (bare_if slots) at) mid) pid ≡ Some (bare_if slots q)
    asker = at_pid (each g mid) at pid e ∙ (get_each g mid at ∙ (ap (option_map (g at)) got ∙ ap Some (here (bare_if slots) at q)))

    again : with_process (each (at_one (bare_if slots) at) mid) pid r ≡ with_process mid pid r
    again = ap (λ k. set (each g mid) k r) same ∙ (set_again (bare_if slots) mid at r ∙ ap (λ k. set mid k r) (sym same))

    whole : (s : State) (p' : Process) → process_of old pid ≡ Some p'
        → goes_on_with (record s { references = references }) pid after (answer_of references (with_process old pid (bare_if slots p')) pid native arguments) ≡ record s { processes = new; references = count }
    whole s p' found =
        let t : State = record s { references = references } in
        ap (λ ps. goes_on_with t pid after (answer_of references ps pid native arguments)) (bare p' found)
        ∙ (ap (goes_on_with t pid after) (answer_reframed slots references old at pid native arguments (slice_get_within old at p there) ∙ ap (moved (at_one (bare_if slots) at)) gave)
        ∙ (ap (continues (record s { processes = each g mid; references = unwrap_or made references }) pid after value) asker
        ∙ (ap (λ ps. record s { processes = hearing_by pid r.status ps; references = unwrap_or made references }) again
        ∙ (ap (λ ps. record s { processes = ps; references = unwrap_or made references }) (sym is) ∙ ap (λ n. record s { processes = new; references = n }) counted))))

-- ---- messages

stands_at : (ps : List Process) (pid : ℕ) (q : Process) → option_map kept (process_of ps pid) ≡ Some (kept q) → q.status ≡ Running → then_at ps pid ≡ Some GoesOn
stands_at ps pid q e runs = by (process_of ps pid) e
  where
    by : (o : Option Process) → option_map kept o ≡ Some (kept q) → option_map (λ p. then_of p.status) o ≡ Some GoesOn
    by None e = cc
    by (Some r) e = ap (λ (k : Option Kept). option_map (λ k. then_of k.1) k) e ∙ ap (λ s. Some (then_of s)) runs

pub message_sent : (clock references pid at to : ℕ) (next : Place) (old new : List Process) (p q : Process) → pid ≡ at + 1 → at < length old → p ≡ get_or old at p → p.status ≡ Running
    → q ≡ goes_on (put_x p 0 (read_x p.x 1)) next → new ≡ posted (set old at q) to (Message (read_x p.x 1)) → RespondsBy clock pid (sending to next) references old (Ok GoesOn) references new
message_sent clock references pid at to next old new p q e l g runs is sent = (
  (λ code i p' found.
      ap (λ p. done_by (node code (parts old clock i references)) pid (sends_of p)) (same_Some p' p (sym found ∙ pid_found old at pid p e l g))
      ∙ ap (λ (ps : List Process). node code (parts ps clock i references)) (ap (λ ps. posted ps to (Message (read_x p.x 1))) (set_process old at pid (goes_on (put_x p 0 (read_x p.x 1)) next) e ∙ ap (λ q. set old at q) (sym is)) ∙ sym sent)),
  stands_at new pid q
      (ap (option_map kept) (at_pid new at pid e) ∙ (ap (λ ps. kept_at ps at) sent ∙ posted_stay (set old at q) to (Message (read_x p.x 1)) at (kept q) (ap (option_map kept) (get_set old at q l))))
      (ap (λ (q : Process). q.status) is ∙ runs),
)
  where
    sends_of : Process → Outcome
    sends_of p = sends (goes_on (put_x p 0 (read_x p.x 1)) next) to (Message (read_x p.x 1))
