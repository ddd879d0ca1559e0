use Rattle.std.proofs.Common.{◌∙◌, ◌++◌, ℕ, take}
use Rattle.beam_block_file.proofs.BytesAdded.{joined, split_on}
use Rattle.beam_block_file.proofs.file.append_all.Goals as goal

pub loop-rest-preserved : goal.loop-rest-preserved
loop-rest-preserved g c =
    let before = c.loop-rest.invariant.begun in
    let n : ℕ = c.in_ok-count.count in
    record {
      begun = (
        before.0 ++ take n c.loop-rest.rest.now,
        split_on before.0 c.loop-rest.rest.now c.args.bytes.now n before.1,
        joined _ _ _ before.0 (take n c.loop-rest.rest.now) before.2 c.in_ok-count.ensures.bytes,
      );
      failed = c.in_ok-count.ensures.failed ∙ c.loop-rest.invariant.failed;
    }
