use Rattle.std.proofs.Common.{◌≡◌, ◌+◌, ◌<◌, ◌^◌, length}
use Rattle.beam_block_file.proofs.file_shelf.FileShelfShelf.read_at.Given as goal

abbrev pub invariant-loop : goal.invariant-loop
invariant-loop l = record {
  place : l.fn.at + length l.buffer < 2 ^ 64;
  failed : l.self.failures ≡ l.fn.self.failures;
}
