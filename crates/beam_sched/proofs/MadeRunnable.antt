-- The receiver of a message that isn't sent to a pid may be any process: by the kinds of terms.
use Rattle.std.proofs.Common.{◌≡◌, ◌≢◌, refl}
use Rattle.beam_term.specs.Prelude.{rank_of, TermValue, Terms, int_term, atom_term, reference_term, pid_term, nil_term, pair_term, tuple_term}
use Rattle.beam_sched.specs.declared.made_runnable.MadeRunnable.TheVariants.{Any}
use Rattle.beam_sched.specs.MadeRunnable.{receiver_of}

pub by_name : (to : TermValue) → rank_of to ≢ 3 → Any ≡ receiver_of to
by_name (int_term n) other = refl
by_name (atom_term text) other = refl
by_name (reference_term node creation words) other = refl
by_name (pid_term node id serial creation) other = absurd (other refl)
by_name nil_term other = refl
by_name (pair_term head tail) other = refl
by_name (tuple_term items) other = refl
