use Rattle.std.proofs.Common.{◌≡◌, ◌∷◌, [], ◌++◌, List, arith, rules, subst, sym, length}
use Rattle.beam_remote.specs.declared.memory.Counts.{Counts}
use Rattle.beam_remote.specs.Prelude.{AreTaken}
use Rattle.beam_remote.proofs.Moments.{one_taken}
use Rattle.beam_remote.proofs.memory.Memory.begin_read.Goals as goal

pub invariant_of-self-else-is_err : goal.invariant_of-self-else-is_err
invariant_of-self-else-is_err c =
    let counts : Counts = record { given = c.self.inside.at; taken = c.len.result } in
    let many : c.len.result ≡ length c.self.inside.taken.items = search rules in
    let pushed : c.push.new.self.items ≡ c.self.inside.reads.items ++ counts ∷ [] = search rules in (
      c.self.invariant.0,
      c.self.invariant.1,
      subst (λ (cs : List Counts). AreTaken (length c.self.inside.taken.items) cs) (sym pushed)
          (one_taken (length c.self.inside.taken.items) c.self.inside.reads.items counts c.self.invariant.2 (omega (arith, many))),
    )
