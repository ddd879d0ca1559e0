use Rattle.std.proofs.Common.{◌≡◌, ℕ, Bool, length}
use Rattle.std.specs.List.{list_any}
use Rattle.beam_machine.specs.Prelude.{old_of}
use Rattle.beam_codesrv.specs.Several.{passes}
use Rattle.beam_codesrv.proofs.Several.{passes_so_far}
use Rattle.beam_codesrv.proofs.code_table.CodeTable.old_numbers.Given as goal

abbrev pub invariant-loop-image : goal.invariant-loop-image
invariant-loop-image l = (test : ℕ → Bool)
    → passes_so_far test l.numbers.keys l.fn.self l.rest ≡ list_any (λ i. passes test (old_of l.fn.self i.name)) l.fn.images

abbrev pub decreases-loop-image : goal.decreases-loop-image
decreases-loop-image l = length l.rest
