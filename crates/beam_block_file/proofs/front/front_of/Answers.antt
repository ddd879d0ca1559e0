use Rattle.std.proofs.Common.{rules, ◌≡◌, List, ℕ}
use Rattle.beam_blocks.specs.Blocks.{block_in, one_block}
use Rattle.beam_block_file.proofs.KnownFronts.{first_one}
use Rattle.beam_block_file.proofs.front.front_of.Goals as goal

pub returns-in-Ok-Some-clause-block : goal.returns-in-Ok-Some-clause-block
returns-in-Ok-Some-clause-block c =
    let bytes : List ℕ = c.args.bytes.now in
    let found : block_in bytes ≡ one_block c.in-Ok-Some.content.now c.in-Ok-Some._rest.now = search rules in
    first_one bytes c.in-Ok-Some.content.now c.in-Ok-Some._rest.now (λ i. (c.type_inv.bytes i).fits) found
