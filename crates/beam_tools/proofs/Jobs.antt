-- Jobs that are done, and jobs that are left to be done.
use Rattle.std.proofs.Common.{◌≡◌, subst, sym, ℕ, List, Some, Err, IfErr, IfOk, Ok, OnOk, Result}
use Rattle.clap.specs.Words.{Text}
use Rattle.beam_tools.specs.Prelude.{IfDone, IfLeft, IsService, CallLine, Line, call, line_of}
use Rattle.beam_tools.specs.declared.fault.RunFault.{RunFault}
use Rattle.beam_tools.specs.declared.job.Job.{Job}
use Rattle.beam_tools.specs.declared.job.Job.TheVariants.{Done, Pipe, Replay, Serve}

-- a statement of the status implies a weaker one
pub each_done : (job : Job) (P Q : ℕ → Type 0) → ((status : ℕ) → P status → Q status) → IfDone job P → IfDone job Q
each_done (Done status) P Q more h = more status h
each_done Pipe P Q more h = tt
each_done (Serve line) P Q more h = tt
each_done (Replay line) P Q more h = tt

-- what holds anyway holds where a job is left
pub always_left : (job : Job) (P : Type 0) → P → IfLeft job (λ line. P)
always_left (Done status) P p = tt
always_left Pipe P p = p
always_left (Serve line) P p = p
always_left (Replay line) P p = p

-- ---- where all that is asked for is printed

pub printed_done : {T : Type 0} (printed : Result T RunFault) (r : Result Job RunFault) (P : ℕ → Type 0) → OnOk printed (r ≡ Ok (Done 0))
    → IfErr printed (λ f. r ≡ Err f) → OnOk printed (P 0) → IfOk r (λ job. IfDone job P)
printed_done (Ok x) r P is fails h = subst (λ (x : Result Job RunFault). IfOk x (λ job. IfDone job P)) (sym is) h
printed_done (Err f) r P is fails h = subst (λ (x : Result Job RunFault). IfOk x (λ job. IfDone job P)) (sym fails) tt

pub printed_left : {T : Type 0} (printed : Result T RunFault) (r : Result Job RunFault) (P : Line → Type 0) → OnOk printed (r ≡ Ok (Done 0))
    → IfErr printed (λ f. r ≡ Err f) → IfOk r (λ job. IfLeft job P)
printed_left (Ok x) r P is fails = subst (λ (x : Result Job RunFault). IfOk x (λ job. IfLeft job P)) (sym is) tt
printed_left (Err f) r P is fails = subst (λ (x : Result Job RunFault). IfOk x (λ job. IfLeft job P)) (sym fails) tt

pub printed_fails : {T : Type 0} (printed : Result T RunFault) (r : Result Job RunFault) (P : RunFault → Type 0) → OnOk printed (r ≡ Ok (Done 0))
    → IfErr printed (λ f. r ≡ Err f) → IfErr printed P → IfErr r P
printed_fails (Ok x) r P is fails h = subst (λ (x : Result Job RunFault). IfErr x P) (sym is) tt
printed_fails (Err f) r P is fails h = subst (λ (x : Result Job RunFault). IfErr x P) (sym fails) h

-- a call asks for no service
pub no_service : (words : List Text) (line : CallLine) → line_of words ≡ Some (call line) → IsService (line_of words) → ⊥
no_service words line is asks = subst IsService is asks
