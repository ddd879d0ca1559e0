use Rattle.beam_records.proofs.Images.{goes_on}
use Rattle.beam_records.proofs.command.files_of.Goals as goal

pub loop-image-preserved : goal.loop-image-preserved
loop-image-preserved c =
    rw c.in-Ok.ensures.items (goes_on c.loop-image.files.items c.args.images.now c.loop-image.image-index _ c.image-item.result c.in_ok-file.file
    c.loop-image-test.true c.image-item.is c.loop-image.invariant c.in_ok-file.ensures)
