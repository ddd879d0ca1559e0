use Rattle.std.proofs.Common.{rules, ◌≡◌, ◌-◌, ◌^◌, ◌++◌, length, List, ℕ, ◌∙◌}
use Rattle.std.specs.Int.{w32, to_be_bytes}
use Rattle.beam_blocks.specs.Blocks.{block, sums_of}
use Rattle.beam_blocks.proofs.RoundTrip.{joined}
use Rattle.beam_blocks.proofs.writing.put_block.Goals as goal

pub returns-clause-ok : goal.returns-clause-ok
unfolding block
returns-clause-ok c =
    let bytes : List ℕ = c.args.content.now in
    let out : List ℕ = c.args.out.now.items in
    let n = length bytes in
    let all : c.extend_from_slice-5.new.self.items
    ≡ ((((out ++ to_be_bytes w32 n) ++ to_be_bytes w32 (2 ^ 32 - 1 - n)) ++ to_be_bytes w32 (sums_of bytes).first) ++ to_be_bytes w32 (sums_of bytes).second) ++ bytes = search rules in
    all ∙ joined out (to_be_bytes w32 n) (to_be_bytes w32 (2 ^ 32 - 1 - n)) (to_be_bytes w32 (sums_of bytes).first) (to_be_bytes w32 (sums_of bytes).second) bytes
