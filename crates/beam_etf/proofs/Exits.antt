-- Errors that a `?` passes on.
use Rattle.std.proofs.Common.{◌≡◌, ◌≢◌, Result, Ok, Err, refl, MatchResult, IfErr}
use Rattle.std.specs.Result.{IsErrAnd, IsOkUnless}
use Rattle.beam_term.specs.declared.error.TermError.{TermError}
use Rattle.beam_term.specs.declared.error.TermError.TheVariants as terms
use Rattle.beam_etf.specs.declared.error.EtfError.{EtfError}
use Rattle.beam_etf.specs.declared.error.EtfError.TheVariants.{Truncated, BadTag, OutOfProfile, IntegerTooLarge, TooDeep, BadUtf8, NoMemory}
use Rattle.beam_model.specs.Prelude.{ExternalFault}
use Rattle.beam_etf.specs.Faults.{from_term_error, fault_of, Gives}

-- an error that a `?` passes on unchanged
pub exit : {X Y : Type 0} (view : X → Y) (result : Result X EtfError) (total : Result Y ExternalFault) (e : EtfError) → IsErrAnd result (λ y. y ≡ e) → (e ≢ NoMemory → total ≡ Err (fault_of e)) → Gives view result total
exit view (Ok x) total e h k = absurd h
exit view (Err y) total e h k = rw h k

-- the error of a term that has room
pub exit_term : {X Y : Type 0} (view : X → Y) (result : Result X EtfError) (total : Result Y ExternalFault) (t : TermError) → IsErrAnd result (λ y. y ≡ from_term_error t) → (t ≡ terms.TooDeep → ⊥) → Gives view result total
exit_term view result total terms.NoMemory h k = exit view result total NoMemory h (λ n. absurd (n refl))
exit_term view result total terms.TooDeep h k = absurd (k refl)

pub exit_memory : {X : Type 0} (result : Result X TermError) (t : TermError) → IsErrAnd result (λ y. y ≡ t) → (t ≡ terms.TooDeep → ⊥) → IsOkUnless result terms.NoMemory
exit_memory (Ok x) t h k = absurd h
exit_memory (Err y) terms.NoMemory h k = h
exit_memory (Err y) terms.TooDeep h k = absurd (k refl)

-- an error that can't be anything else is NoMemory
pub none_but_memory : (e : EtfError) → (e ≢ NoMemory → ⊥) → e ≡ NoMemory
none_but_memory NoMemory k = refl
none_but_memory Truncated k = absurd (k (λ q. cc))
none_but_memory BadTag k = absurd (k (λ q. cc))
none_but_memory OutOfProfile k = absurd (k (λ q. cc))
none_but_memory IntegerTooLarge k = absurd (k (λ q. cc))
none_but_memory TooDeep k = absurd (k (λ q. cc))
none_but_memory BadUtf8 k = absurd (k (λ q. cc))

pub exit_only : {X : Type 0} (result : Result X EtfError) (P : X → Type 0) (e : EtfError) → IsErrAnd result (λ y. y ≡ e) → (e ≢ NoMemory → ⊥) → MatchResult result P (λ y. y ≡ NoMemory)
exit_only (Ok x) P e h k = absurd h
exit_only (Err y) P e h k = rw h (none_but_memory e k)

pub exit_fault : {X : Type 0} (result : Result X EtfError) (P : EtfError → Type 0) (e : EtfError) → IsErrAnd result (λ y. y ≡ e) → (e ≢ NoMemory → P e) → IfErr result (λ y. y ≢ NoMemory → P y)
exit_fault (Ok x) P e h k = absurd h
exit_fault (Err y) P e h k = rw h k
