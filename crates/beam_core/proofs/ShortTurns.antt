-- Rows of a short turn, which stop before a row that may take long: they are those of as many rows as were executed.
use Rattle.std.proofs.Common.{◌≡◌, ℕ, ◌+◌, ◌≤◌, ◌&&◌, nat_lt, Bool, true, false, cond, [], Some, Ok, Err, refl, ap, ◌∙◌}
use Rattle.std.specs.declared.alloc.AllocError.{AllocError}
use Rattle.beam_machine.specs.declared.event.Then.{Then}
use Rattle.beam_machine.specs.declared.event.Then.TheVariants.{GoesOn, Waits, Ended}
use Rattle.beam_machine.specs.Prelude.{Code, halting, effective_rows, State}
use Rattle.beam_rows.specs.declared.run.StopReason.TheVariants.{AtLimit}
use Rattle.beam_state.specs.Prelude.{Parts, then_at}
use Rattle.beam_rows.specs.Prelude.{passes_after}
use Rattle.beam_core.specs.Halt.{HaltsAt, ShortHaltsAt, rows_done}
use Rattle.beam_core.specs.Rows.{PrivateRows, RowsAre, SomeRowsAre}
use Rattle.beam_core.proofs.Located.{limit_done}
use Rattle.beam_core.proofs.Stepping.{any_passes, halts_more, none_done}

pub some_at_limit : (code : Code) (pid n : ℕ) (old : Parts) (count : ℕ) (new : Parts) → then_at old.processes pid ≡ Some GoesOn → count ≤ n
    → PrivateRows code [] false pid count old count AtLimit new → SomeRowsAre code pid n old count (Ok GoesOn) new
some_at_limit code pid n old count new runs most h =
    let done = limit_done code [] false pid count old count new runs h in
    (most, done.0, done.1)

pub some_rows : (code : Code) (pid n : ℕ) (old : Parts) (count : ℕ) (after : Then) (new : Parts) → RowsAre code [] false pid n old count (Ok (Some after)) new
    → SomeRowsAre code pid n old count (Ok after) new
some_rows code pid n old count after new h = (h.1, h.2, h.3)

pub some_refused : (code : Code) (pid n : ℕ) (old : Parts) (count : ℕ) (x : AllocError) (new : Parts) → RowsAre code [] false pid n old count (Err x) new
    → SomeRowsAre code pid n old count (Err x) new
some_refused code pid n old count x new h = (h.0, h.1, h.2)

-- as many rows as were executed are granted in full
all_granted : (n : ℕ) (after : Then) → effective_rows n n after ≡ n
all_granted n GoesOn = either (nat_lt 0 n && nat_lt n n)
  where
    either : (b : Bool) → cond {A = ℕ} b n n ≡ n
    either true = refl
    either false = refl
all_granted n Waits = refl
all_granted n (Ended reason value) = refl

-- the rows that were executed are those of a `Steps` of their count
pub halts_short : (s t : State) (pid n : ℕ) (after : Then) → ShortHaltsAt pid s (Ok (Some (n, after))) t → (passes : Bool) → HaltsAt [] passes pid n s (Ok (n, Some after)) t
halts_short s t pid n after h passes = (ap (halting [] passes s pid) (all_granted n after) ∙ (any_passes n passes s pid ∙ h.0), h.1)

-- rows after others
pub more_done : (n m pid : ℕ) (s t u : State) → halting [] false s pid n ≡ rows_done n t → halting [] false t pid m ≡ rows_done m u
    → halting [] false s pid (n + m) ≡ rows_done (n + m) u
more_done n m pid s t u e f = halts_more n m [] false pid s t u e (any_passes m (passes_after false n) t pid ∙ f)

-- no rows change nothing
pub none_changed : (n pid : ℕ) (s t : State) → n ≡ 0 → halting [] false s pid n ≡ rows_done n t → t ≡ s
none_changed n pid s t = none_done n [] false pid s t
