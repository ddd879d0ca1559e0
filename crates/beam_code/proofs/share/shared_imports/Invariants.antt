use Rattle.std.proofs.Common.{◌≡◌, ◌++◌, length}
use Rattle.beam_code.proofs.share.shared_imports.Given as goal

abbrev pub invariant-loop-import : goal.invariant-loop-import
invariant-loop-import l = l.shared.items ++ l.rest ≡ l.imports

abbrev pub decreases-loop-import : goal.decreases-loop-import
decreases-loop-import l = length l.rest
