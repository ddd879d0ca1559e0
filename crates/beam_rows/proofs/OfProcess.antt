-- A row takes a monitor away, whether before its answer or after it.
use Rattle.std.proofs.Common.{◌≡◌, ◌≢◌, ℕ, zero, suc, ◌==◌, Bool, true, false, if◌then◌else◌, List, [], ◌∷◌, length, Option, Some, None, is_some, Ok, refl, ap, sym, subst, ◌∙◌}
use Rattle.beam_model.specs.declared.exception.Exception.{Exception}
use Rattle.beam_model.specs.declared.exception.Fault.TheVariants.{IllegalOperand}
use Rattle.beam_model.specs.declared.native.ProcessNative.{ProcessNative}
use Rattle.beam_model.specs.declared.native.ProcessNative.TheVariants.{Demonitor}
use Rattle.beam_model.specs.Prelude.{truth, Place}
use Rattle.beam_term.specs.Prelude.{TermValue}
use Rattle.beam_model.specs.declared.exception.Exception.TheVariants as exception
use Rattle.beam_machine.specs.declared.callee.After.{After}
use Rattle.beam_machine.specs.declared.callee.After.TheVariants.{NextRow, Return}
use Rattle.beam_machine.specs.declared.event.Then.{Then}
use Rattle.beam_machine.specs.declared.process.Frame.{Frame}
use Rattle.beam_machine.specs.declared.process.Slot.{Slot}
use Rattle.beam_machine.specs.Prelude.{Process, ended, dropped, without_slots, with_slots, put_x, Outcome, makes, tag_of, caught_at, unwound, illegal, returns_to, returns_from, answers, demonitored, flushed_if, changed_by, answers_true, arguments_of, after_dropping}
use Rattle.beam_machine.specs.declared.event.Then.TheVariants.{Ended}
use Rattle.beam_machine.specs.declared.process.Tag.{Tag}
use Rattle.beam_proc.specs.Prelude.{Does, Makes}
use Rattle.beam_rows.specs.declared.of_process.Demonitoring.{Demonitoring}
use Rattle.beam_rows.proofs.Made.{made}
use Rattle.beam_rows.specs.Prelude.{without, leaves_without, called}

-- a process after demonitor
abbrev less : Bool → TermValue → Process → Process
less flush t p = flushed_if flush (demonitored p t) t

-- ---- a process without the monitor is carried through the rest of a row

caught_less : (f : Bool) (t : TermValue) (p q r : Process) (e : Exception) (fs : List Frame) → r ≡ less f t q → (o : Option Tag)
    → caught_at (less f t p) e fs r o ≡ less f t (caught_at p e fs q o)
caught_less true t p q r e fs h (Some tag) = refl
caught_less false t p q r e fs h (Some tag) = refl
caught_less f t p q r e fs h None = h

unwound_less : (f : Bool) (t : TermValue) (p : Process) (e : Exception) (fs : List Frame) → unwound (less f t p) e fs ≡ less f t (unwound p e fs)
unwound_less true t p e [] = refl
unwound_less false t p e [] = refl
unwound_less f t p e (frame ∷ older) =
    caught_less f t p (unwound p e older) (unwound (less f t p) e older) e (frame ∷ older) (unwound_less f t p e older) (tag_of frame.y)

back_less : (f : Bool) (t : TermValue) (p : Process) (older : List Frame) (o : Option Place)
    → returns_to (less f t p) older o ≡ less f t (returns_to p older o)
back_less true t p older (Some place) = refl
back_less false t p older (Some place) = refl
back_less true t p older None = refl
back_less false t p older None = refl

illegal_less : (f : Bool) (t : TermValue) (p : Process) → illegal (less f t p) ≡ less f t (illegal p)
illegal_less true t p = unwound_less true t p (exception.Fault IllegalOperand) p.frames
illegal_less false t p = unwound_less false t p (exception.Fault IllegalOperand) p.frames

returns_less : (f : Bool) (t : TermValue) (p : Process) (fs : List Frame) → returns_from (less f t p) fs ≡ less f t (returns_from p fs)
returns_less f t p [] = illegal_less f t p
returns_less f t p (frame ∷ older) = at (is_some frame.y)
  where
    at : (b : Bool) → (if b then illegal (less f t p) else returns_to (less f t p) older frame.back)
        ≡ less f t (if b then illegal p else returns_to p older frame.back)
    at true = illegal_less f t p
    at false = back_less f t p older frame.back

answers_less : (f : Bool) (t : TermValue) (p : Process) (after : After) (v : TermValue)
    → answers (less f t p) after (Ok v) ≡ less f t (answers p after (Ok v))
answers_less true t p (NextRow next) v = refl
answers_less false t p (NextRow next) v = refl
answers_less true t p Return v = returns_less true t (put_x p 0 v) p.frames
answers_less false t p Return v = returns_less false t (put_x p 0 v) p.frames

-- ---- rows

-- a native that takes a monitor away may answer first
answers_without : (u : Demonitoring) (p : Process) (after : After) (o : Option Process) → o ≡ Some (without u p)
    → makes (answers_true p after o) ≡ leaves_without u (makes (answers p after (Ok (truth true))))
answers_without u p after o h = ap (λ o. makes (answers_true p after o)) h ∙ ap makes (answers_less u.flush u.reference p after (truth true))

abbrev says_true : Process → Outcome
says_true q = makes (answers q Return (Ok (truth true)))

pub drops_without : (u : Demonitoring) (n : ℕ) (p : Process) (native : ProcessNative) (arity : ℕ)
    → ((q : Process) → changed_by q native (arguments_of p arity) ≡ Some (without u q)) → is_some (dropped n p p.frames) ≡ true
    → after_dropping p (dropped n p p.frames) (called native arity Return)
    ≡ leaves_without u (after_dropping p (dropped n p p.frames) says_true)
drops_without u n p native arity h = go p.frames
  where
    go : (fs : List Frame) → is_some (dropped n p fs) ≡ true
        → after_dropping p (dropped n p fs) (called native arity Return)
        ≡ leaves_without u (after_dropping p (dropped n p fs) says_true)
    go [] e = cc
    go (frame ∷ older) e = at frame.y e
      where
        within : (b : Bool) → is_some (if b then Some (with_slots p frame older None) else None) ≡ true
            → after_dropping p (if b then Some (with_slots p frame older None) else None) (called native arity Return)
            ≡ leaves_without u (after_dropping p (if b then Some (with_slots p frame older None) else None) says_true)
        within true e =
            let q = with_slots p frame older None in
            answers_without u q Return (changed_by q native (arguments_of p arity)) (h q)
        within false e = cc

        at : (y : Option (List Slot)) → is_some (without_slots n p frame older y) ≡ true
            → after_dropping p (without_slots n p frame older y) (called native arity Return)
            ≡ leaves_without u (after_dropping p (without_slots n p frame older y) says_true)
        at (Some y) e = within (length y == n) e
        at None e = cc

-- demonitor has one argument or two
pub no_demonitor : (q p : Process) (arity : ℕ) → arity ≢ 1 → arity ≢ 2 → changed_by q Demonitor (arguments_of p arity) ≡ None
no_demonitor q p zero one two = refl
no_demonitor q p (suc zero) one two = absurd (one refl)
no_demonitor q p (suc (suc zero)) one two = absurd (two refl)
no_demonitor q p (suc (suc (suc n))) one two = refl

-- ---- the process and its answer

less_ended : (f : Bool) (t : TermValue) (p : Process) (reason value : TermValue) → less f t (ended p reason value) ≡ ended p reason value
less_ended true t p reason value = refl
less_ended false t p reason value = refl

-- where the row ends the process, taking the monitor away changes nothing, since an ended process has none
pub ends_without : (u : Demonitoring) (old q : Process) (outcome : Outcome) (reason value : TermValue) → Makes old outcome (Ok (Ended reason value)) q
    → Makes old (leaves_without u outcome) (Ok (Ended reason value)) q
ends_without u old q outcome reason value h = (ap (leaves_without u) h.0 ∙ ap makes (less_ended u.flush u.reference old reason value), h.1)

pub answered_without : (u : Demonitoring) (p q r : Process) (after : After) (o : Option Process) (v : TermValue) (t : Then)
    → o ≡ Some (without u p) → v ≡ truth true → Does p (answers p after (Ok v)) (Ok t) q
    → (Makes p (makes (answers p after (Ok v))) (Ok t) q → Makes p (leaves_without u (makes (answers p after (Ok v)))) (Ok t) r)
    → Makes p (makes (answers_true p after o)) (Ok t) r
answered_without u p q r after o v t change value does more =
    subst (λ outcome. Makes p outcome (Ok t) r)
    (sym (answers_without u p after o change ∙ ap (λ v. leaves_without u (makes (answers p after (Ok v)))) (sym value)))
    (more (made p (answers p after (Ok v)) q t does))
