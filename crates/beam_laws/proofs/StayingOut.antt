-- A process stays out while no event of its own comes.
use Rattle.std.proofs.Common.{◌≡◌, Bool, true, false, ◌⊎◌, inl, inr, List, [], ◌∷◌, refl, sym, ap, ◌∙◌, is_some, Some}
use Rattle.std.specs.List.{AllByRecursion}
use Rattle.beam_model.specs.Prelude.{Listing}
use Rattle.beam_machine.specs.declared.debug.DebugEvent.{DebugEvent}
use Rattle.beam_machine.specs.Prelude.{Debugged, is_among, is_live_process, debug_next, debug_run, Process, is_ended, alive, process_of}
use Rattle.beam_laws.specs.Prelude.{IsStill, Origin, IsAsItWas, IsOut, is_busy}
use Rattle.beam_laws.proofs.Numbered.{alive_of}
use Rattle.beam_laws.proofs.Private.{having_own}
use Rattle.beam_laws.proofs.Others.{Left, still_left, ended_left, event_leaves}
use Rattle.beam_laws.proofs.UndisturbedDebugState.{Marked, event_marks}

-- a process that lives on keeps its marks
as_it_was : (d x : Debugged) (o : Origin) (q z : Process) (b : Bool) → is_ended z.status ≡ b → process_of x.node.processes o.pid ≡ Some z → IsAsItWas d o q
    → Left q z → Marked o.pid d x → (is_ended z.status ≡ true) ⊎ IsAsItWas x o z
as_it_was d x o q z true e at was left marks = inl e
as_it_was d x o q z false e at (still, held, passes) left marks =
    let live : is_live_process x.node o.pid ≡ true = ap (λ p. is_some (alive p)) at ∙ ap is_some (alive_of z e) in
    let same = marks live in
    kept (still_left o.process q z still left) (same.0 ∙ held) (same.1 ∙ passes)
  where
    kept : (is_ended z.status ≡ true) ⊎ IsStill o.process z → is_among o.pid x.held ≡ false → is_among o.pid x.passing ≡ o.passes → (is_ended z.status ≡ true) ⊎ IsAsItWas x o z
    kept (inl over) h p = inl over
    kept (inr s) h p = inr (s, h, p)

goes_on : (d : Debugged) (o : Origin) (e : DebugEvent Listing) (q z : Process) → process_of (debug_next d e).state.node.processes o.pid ≡ Some z → Left q z
    → (is_ended q.status ≡ true) ⊎ IsAsItWas d o q → is_busy o.pid e ≡ false → (is_ended z.status ≡ true) ⊎ IsAsItWas (debug_next d e).state o z
goes_on d o e q z at left (inl over) free = inl (ended_left q z over left)
goes_on d o e q z at left (inr was) free =
    as_it_was d (debug_next d e).state o q z (is_ended z.status) refl at was left (event_marks o.pid d e was.1 free)

pub stays_out : (d : Debugged) (o : Origin) (e : DebugEvent Listing) → IsOut d o → is_busy o.pid e ≡ false → IsOut (debug_next d e).state o
stays_out d o e (q, at, was) free =
    let left = event_leaves o.pid d e free q at in
    (left.0, left.1, goes_on d o e q left.0 left.1 left.2 was free)

pub stay_out : (d : Debugged) (o : Origin) (events : List (DebugEvent Listing)) → IsOut d o → AllByRecursion (λ e. is_busy o.pid e ≡ false) events → IsOut (debug_run d events).state o
stay_out d o [] out free = out
stay_out d o (e ∷ events) out free = stay_out (debug_next d e).state o events (stays_out d o e out free.0) free.1

pub comes_out : (d : Debugged) (o : Origin) → process_of d.node.processes o.pid ≡ Some o.process → is_among o.pid d.held ≡ false → is_among o.pid d.passing ≡ o.passes → IsOut d o
comes_out d o at free passes = (o.process, at, inr (sym (having_own o.process), free, passes))
