use Rattle.std.proofs.Common.{◌≡◌, [], ◌++◌, length, if◌then◌else◌}
use Rattle.std.specs.List.{flat_map, zip}
use Rattle.beam_shapes.specs.Prelude.{is_of, numbers_in, named}
use Rattle.beam_shapes.proofs.named.push_each.Given as goal

-- the numbers so far, and then those of the remaining operands, are the result
abbrev pub invariant-loop-kind : goal.invariant-loop-kind
invariant-loop-kind l =
    l.found.items ++ flat_map (λ p. if is_of l.role l.fn.instruction.opcode p.0 then numbers_in l.role p.1 else []) (zip l.kinds l.rest)
    ≡ l.fn.found.items ++ named l.role l.fn.instruction

abbrev pub decreases-loop-kind : goal.decreases-loop-kind
decreases-loop-kind l = length l.kinds
