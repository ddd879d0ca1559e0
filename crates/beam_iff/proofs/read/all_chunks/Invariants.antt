use Rattle.std.proofs.Common.{◌≡◌, ◌≤◌, ℕ, length}
use Rattle.beam_model.specs.Prelude.{empty_form, with_chunks}
use Rattle.beam_iff.specs.Chunks.{form_of}
use Rattle.beam_iff.proofs.read.all_chunks.Given as goal

abbrev pub invariant-loop-rest : goal.invariant-loop-rest
invariant-loop-rest l = (limit : ℕ) × (length l.rest ≤ limit) × (with_chunks limit (form_of l.chunks) l.rest ≡ with_chunks (length l.fn.bytes) empty_form l.fn.bytes)

abbrev pub decreases-loop-rest : goal.decreases-loop-rest
decreases-loop-rest l = length l.rest
