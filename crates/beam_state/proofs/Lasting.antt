-- A native after which the process that asked ends: the DOWNs of the end are posted before the native is answered.
use Rattle.std.proofs.Common.{◌≡◌, ℕ, zero, suc, ◌+◌, ◌-◌, ◌<◌, ◌==◌, true, false, cond, List, [], ◌∷◌, ◌++◌, length, map, slice_get, refl, sym, ap, subst, ◌∙◌, Option, Some, None, Result, Ok, Err, option_map, unwrap_or, IfSome}
use Rattle.std.proofs.Math.ListN.{set}
use Rattle.std.proofs.lemmas.Option.{same_Some}
use Rattle.beam_machine.specs.declared.process.Signal.{Signal}
use Rattle.beam_machine.specs.declared.process.Status.TheVariants.{Running, Ended}
use Rattle.beam_machine.specs.Prelude.{Answered, answer_of, Sent, Process, is_ended, process_of, live_process, posted_to, posted, downs}
use Rattle.beam_machine.specs.declared.callee.After.{After}
use Rattle.beam_model.specs.declared.exception.Fault.{Fault}
use Rattle.beam_model.specs.declared.native.NodeNative.{NodeNative}
use Rattle.beam_model.specs.declared.native.NodeNative.TheVariants.{Spawn, Register, Unregister, Whereis, IsProcessAlive, Exit, Send, MakeRef, Monitor}
use Rattle.beam_term.specs.Prelude.{TermValue, nil_term}
use Rattle.beam_laws.specs.Prelude.{posted_all, each_sent}
use Rattle.beam_laws.proofs.Ending.{alive_is, at_index}
use Rattle.beam_laws.proofs.Hearing.{hears}
use Rattle.beam_state.specs.Prelude.{IsAsking, AreRead, CanDrop, ReturnsCounting, Sends, does_send, is_make_ref, posted_if, AreLawful, notices_of}
use Rattle.beam_state.proofs.Asked.{within}
use Rattle.beam_state.proofs.Askers.{left, left_lives, left_runs, left_drops, left_wrote}
use Rattle.beam_state.specs.Posting.{all_taken}
use Rattle.beam_state.proofs.Leaving.{fault_leaves}
use Rattle.beam_state.proofs.Seen.{each, get_each, moved}
use Rattle.beam_state.proofs.Telling.{but_one, itself, told, answer_told}
use Rattle.beam_state.proofs.Untaken.{all_untaken}
use Rattle.beam_state.proofs.Posted.{all_posted_more, all_posted_lawful}

-- ---- the DOWNs of an end don't depend on the signals in transit

set_sent : (f : Process → List Signal) (at i : ℕ) (ps : List Process) (p q : Process) → slice_get ps i ≡ Some p → f q ≡ f p → each_sent at f (set ps i q) ≡ each_sent at f ps
set_sent f at i [] p q e s = refl
set_sent f at zero (r ∷ ps) p q e s = ap (λ xs. map (λ signal. record { to = at; signal = signal }) xs ++ each_sent (at + 1) f ps) (s ∙ ap f (sym (same_Some r p e)))
set_sent f at (suc i) (r ∷ ps) p q e s = ap (λ xs. map (λ signal. record { to = at; signal = signal }) (f r) ++ xs) (set_sent f (at + 1) i ps p q e s)

module _ (pid : ℕ) (reason : TermValue) where
  sent_same : (ps : List Process) (to : ℕ) (signal : Signal) (o : Option Process) → live_process ps to ≡ o → notices_of (posted_to ps to signal o) pid reason ≡ notices_of ps pid reason
  sent_same ps to signal None e = refl
  sent_same ps to signal (Some p) e =
      set_sent (λ q. cond (q.pid == pid) [] (downs pid reason q.monitors)) 1 (to - 1) ps p (record p { transit = p.transit ++ signal ∷ [] })
      (at_index ps to p (alive_is (process_of ps to) p e).0) refl

  pub notices_same : (ps : List Process) (sent : List Sent) → notices_of (posted_all ps sent) pid reason ≡ notices_of ps pid reason
  notices_same ps [] = refl
  notices_same ps (one ∷ rest) =
      notices_same (posted ps one.to one.signal) rest ∙ sent_same ps one.to one.signal (live_process ps one.to) refl

module _ (references : ℕ) (ps mid : List Process) (at pid : ℕ) (reason : TermValue) (first sent : List Sent) (e : pid ≡ at + 1) (o : AreLawful references ps)
    (is : sent ≡ first ++ notices_of ps pid reason) (posts : mid ≡ posted_all ps sent) where
  -- once all signals are posted, all others have heard of the end, after the first signals
  pub all_told : mid ≡ each (but_one (hears pid (Ended reason nil_term)) at) (posted_all ps first)
  all_told =
      posts
      ∙ (ap (posted_all ps) is
      ∙ (all_posted_more ps first (notices_of ps pid reason)
      ∙ (ap (posted_all (posted_all ps first)) (sym (notices_same pid reason ps first))
      ∙ told (posted_all ps first) at pid reason nil_term e (all_posted_lawful references ps first o).0)))

  pub told_lawful : AreLawful references mid
  told_lawful = subst (AreLawful references) (sym posts) (all_posted_lawful references ps sent o)

  pub told_back : (cur : List Process) → cur ≡ all_taken mid sent → cur ≡ ps
  told_back cur back = back ∙ (ap (λ qs. all_taken qs sent) posts ∙ all_untaken ps sent)

  -- the case in which no first signals are posted
  pub told_alone : first ≡ [] → mid ≡ each (but_one (hears pid (Ended reason nil_term)) at) ps
  told_alone none = all_told ∙ ap (λ xs. each (but_one (hears pid (Ended reason nil_term)) at) (posted_all ps xs)) none

spared : (pid at : ℕ) (reason : TermValue) (o : Option Process) → option_map (but_one (hears pid (Ended reason nil_term)) at at) o ≡ o
spared pid at reason None = refl
spared pid at reason (Some p) = ap Some (itself (hears pid (Ended reason nil_term)) at p)

-- the process that is to end is as it was before the DOWNs were posted
pub still_there : (qs cur : List Process) (pid at : ℕ) (reason : TermValue) → cur ≡ each (but_one (hears pid (Ended reason nil_term)) at) qs → slice_get cur at ≡ slice_get qs at
still_there qs cur pid at reason is = ap (λ qs. slice_get qs at) is ∙ (get_each (but_one (hears pid (Ended reason nil_term)) at) qs at ∙ spared pid at reason (slice_get qs at))

-- a native that was answered over processes that had heard of the asker's end
module _ (references : ℕ) (ps told mid : List Process) (at pid count : ℕ) (reason : TermValue) (native : NodeNative) (arguments : List TermValue) (e : pid ≡ at + 1)
    (silent : does_send native ≡ false) (is : told ≡ each (but_one (hears pid (Ended reason nil_term)) at) ps) where
  same_given : answer_of references told pid native arguments ≡ moved (but_one (hears pid (Ended reason nil_term)) at) (answer_of references ps pid native arguments)
  same_given = ap (λ qs. answer_of references qs pid native arguments) is ∙ answer_told pid at reason nil_term e references ps native arguments silent

  module _ (t : TermValue) (m : ReturnsCounting references told (answer_of references told pid native arguments) (Ok (Ok t)) count mid) where
    pub value_is : (answer_of references ps pid native arguments).value ≡ Ok t
    value_is = ap (λ a. a.value) (sym same_given) ∙ m.1

    pub count_is : unwrap_or (answer_of references ps pid native arguments).made references ≡ count
    count_is = ap (λ a. unwrap_or a.made references) (sym same_given) ∙ m.2

    pub cur_is : mid ≡ each (but_one (hears pid (Ended reason nil_term)) at) (answer_of references ps pid native arguments).processes
    cur_is = sym m.0 ∙ ap (λ a. a.processes) same_given

  module _ (f : Fault) (m : ReturnsCounting references told (answer_of references told pid native arguments) (Ok (Err f)) count mid) where
    pub fault_is : (answer_of references ps pid native arguments).value ≡ Err f
    fault_is = ap (λ a. a.value) (sym same_given) ∙ m.1

    pub fault_stays : mid ≡ told
    fault_stays = sym m.0 ∙ (fault_leaves references told pid native arguments f m.1).0

    pub fault_counts : count ≡ references
    fault_counts = sym m.2 ∙ ap (λ o. unwrap_or o references) (fault_leaves references told pid native arguments f m.1).1

pub makes_is : (references : ℕ) (old : List Process) (answered : Answered) (v w : Result TermValue Fault) (count : ℕ) (new : List Process) → ReturnsCounting references old answered (Ok v) count new → v ≡ w
    → ReturnsCounting references old answered (Ok w) count new
makes_is references old answered v w count new m e = (m.0, m.1 ∙ e, m.2)

-- ---- the asker after a native that has a value, where all others had heard of the asker's end

module _ {at pid : ℕ} {slots : Option ℕ} {after : After} {ps : List Process} (a : IsAsking at pid slots after ps) (references : ℕ) (native : NodeNative) (arguments : List TermValue)
    (cur : List Process) (t : TermValue) (v : (answer_of references ps pid native arguments).value ≡ Ok t)
    (same : slice_get cur at ≡ slice_get (answer_of references ps pid native arguments).processes at) where
  there_too : (q : Process) → slice_get cur at ≡ Some q → slice_get (answer_of references ps pid native arguments).processes at ≡ Some q
  there_too q there = sym same ∙ there

  pub cur_within : at < length cur
  cur_within =
      let l = left a references native arguments (answer_of references ps pid native arguments).processes (Ok t) refl v in
      within cur at l.0 (same ∙ l.1.0)

  pub cur_lives : IfSome (slice_get cur at) (λ p. is_ended p.status ≡ false)
  cur_lives = subst (λ o. IfSome o (λ p. is_ended p.status ≡ false)) (sym same) (left_lives a references native arguments (answer_of references ps pid native arguments).processes (Ok t) refl v)

  pub cur_runs : (q : Process) → slice_get cur at ≡ Some q → q.status ≡ Running
  cur_runs q there = left_runs a references native arguments (answer_of references ps pid native arguments).processes (Ok t) refl v q (there_too q there)

  pub cur_drops : (q : Process) → slice_get cur at ≡ Some q → CanDrop slots q
  cur_drops q there = left_drops a references native arguments (answer_of references ps pid native arguments).processes (Ok t) refl v q (there_too q there)

  pub cur_wrote : (q : Process) → AreRead pid arguments ps → is_make_ref native ≡ false → slice_get cur at ≡ Some q → 0 < length q.x
  cur_wrote q read other there = left_wrote a references native arguments (answer_of references ps pid native arguments).processes t refl v q read other (there_too q there)

-- a native that sends isn't make_ref
pub sends_other : (native : NodeNative) → does_send native ≡ true → is_make_ref native ≡ false
sends_other Spawn e = cc
sends_other Register e = cc
sends_other Unregister e = cc
sends_other Whereis e = cc
sends_other IsProcessAlive e = cc
sends_other Exit e = refl
sends_other Send e = refl
sends_other MakeRef e = cc
sends_other Monitor e = cc

-- the native's signal is posted, and then the DOWNs of the asker's end
module _ (references : ℕ) (ps cur : List Process) (at pid : ℕ) (reason : TermValue) (native : NodeNative) (arguments : List TermValue) (t : TermValue) (one : Option Sent) (first sent : List Sent)
    (e : pid ≡ at + 1) (o : AreLawful references ps) (s : Sends ps (answer_of references ps pid native arguments) (Ok (Ok (t, one)))) (alone : (qs : List Process) → posted_all qs first ≡ posted_if qs one)
    (is : sent ≡ first ++ notices_of ps pid reason) (posts : cur ≡ posted_all ps sent) where
  pub sent_value : (answer_of references ps pid native arguments).value ≡ Ok t
  sent_value = ap (λ a. a.value) s

  pub sent_counts : unwrap_or (answer_of references ps pid native arguments).made references ≡ references
  sent_counts = ap (λ a. unwrap_or a.made references) s

  pub sent_is : cur ≡ each (but_one (hears pid (Ended reason nil_term)) at) (answer_of references ps pid native arguments).processes
  sent_is =
      all_told references ps cur at pid reason first sent e o is posts
      ∙ ap (each (but_one (hears pid (Ended reason nil_term)) at)) (alone ps ∙ sym (ap (λ a. a.processes) s))
