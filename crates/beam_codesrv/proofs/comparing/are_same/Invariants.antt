use Rattle.std.proofs.Common.{◌≡◌, length}
use Rattle.beam_codesrv.specs.Homes.{code_of}
use Rattle.beam_codesrv.specs.Numbers.{same_numbers}
use Rattle.beam_codesrv.proofs.comparing.are_same.Given as goal

abbrev pub invariant-loop-name : goal.invariant-loop-name
invariant-loop-name l = same_numbers (code_of l.modules) (code_of l.others) ≡ same_numbers (code_of l.fn.modules) (code_of l.fn.others)

abbrev pub decreases-loop-name : goal.decreases-loop-name
decreases-loop-name l = length l.modules
