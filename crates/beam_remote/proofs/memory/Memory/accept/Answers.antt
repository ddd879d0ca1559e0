use Rattle.std.proofs.Common.{◌≡◌, ◌≤◌, ◌∙◌, ◌++◌, List, ℕ, ap, arith, rules, length, length-append}
use Rattle.beam_remote.specs.Prelude.{Tape, moments_of}
use Rattle.beam_remote.proofs.Moments.{more_taken, taken_then}
use Rattle.beam_remote.proofs.memory.Memory.accept.Goals as goal

pub invariant_of-self-else-is_err : goal.invariant_of-self-else-is_err
invariant_of-self-else-is_err c =
    let items : c.extend_from_slice.new.self.items ≡ c.self.inside.taken.items ++ c.args.bytes.now = search rules in
    let grown : length c.self.inside.taken.items ≤ length c.extend_from_slice.new.self.items =
    omega (arith, ap length items, length-append c.self.inside.taken.items c.args.bytes.now) in
    (c.self.invariant.0, c.self.invariant.1, more_taken _ _ _ c.self.invariant.2 grown)

pub returns-clause-moments : goal.returns-clause-moments
returns-clause-moments c =
    let items : c.extend_from_slice.new.self.items ≡ c.self.inside.taken.items ++ c.args.bytes.now = search rules in
    let t : Tape = record {
      given = c.self.inside.given.items;
      at = c.self.inside.at;
      taken = c.self.inside.taken.items;
      failures = c.self.inside.failures;
      reads = c.self.inside.reads.items;
    } in
    ap (λ (w : List ℕ). moments_of (record t { taken = w })) items ∙ taken_then t c.args.bytes.now c.self.invariant.2 ∙ ap moments_of c.self.view_is
