use Rattle.std.proofs.Common.{◌≡◌}
use Rattle.beam_block_file.proofs.file_shelf.FileShelfShelf.append.Given as goal

abbrev pub invariant-loop : goal.invariant-loop
invariant-loop l = l.self.failures ≡ l.fn.self.failures
