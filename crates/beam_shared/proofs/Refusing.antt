-- Why a process can't be checked out.
use Rattle.std.proofs.Common.{◌≡◌, ℕ, ◌||◌, Bool, cond, List, map, Option, Some, None, ap, ◌∙◌, is_some}
use Rattle.beam_machine.specs.declared.event.Refused.TheVariants.{NotReady, Stopped}
use Rattle.beam_machine.specs.Prelude.{Debugged, is_among, Process, is_running, live_process}
use Rattle.beam_shared.specs.declared.checked_out.CheckoutEntry.{CheckoutEntry}
use Rattle.beam_receipts.specs.declared.refusal.Refusal.{Refusal}
use Rattle.beam_receipts.specs.declared.refusal.Refusal.TheVariants.{Node as OfNode, Busy}
use Rattle.beam_shared.specs.Prelude.{has_any, refusal_in, refusal_of, checked_out_of, entry_of}
use Rattle.beam_shared.proofs.Entries.{is_found}

abbrev pub by_tests : Bool → Bool → Bool → Option Refusal
by_tests busy held goes = cond {A = Option Refusal} busy (Some Busy) (cond {A = Option Refusal} held (Some (OfNode Stopped)) (cond {A = Option Refusal} goes None (Some (OfNode NotReady))))

pub refusal_is : (d : Debugged) (entries : List CheckoutEntry) (pid : ℕ) (p : Process) (busy held goes : Bool) → live_process d.node.processes pid ≡ Some p
    → is_some (entry_of pid entries) ≡ busy → is_among pid d.held ≡ held → is_running p.status || has_any p.transit ≡ goes
    → refusal_of d (map checked_out_of entries) pid ≡ by_tests busy held goes
refusal_is d entries pid p busy held goes there b h g =
    ap (refusal_in d (map checked_out_of entries) pid) there
    ∙ (ap (λ x. by_tests x (is_among pid d.held) (is_running p.status || has_any p.transit)) (is_found pid entries ∙ b)
    ∙ (ap (λ x. by_tests busy x (is_running p.status || has_any p.transit)) h
    ∙ ap (by_tests busy held) g))
