use Rattle.std.proofs.Common.{◌≡◌, replicate, None, rules}
use Rattle.beam_shapes.proofs.Registers.{none_known}
use Rattle.beam_shapes.proofs.known.KnownShapes.new.Goals as goal

pub returns : goal.returns
returns c =
    let all : c.in_ok-shapes.shapes.items ≡ replicate c.args.places None = c.in_ok-shapes.ensures.items_if_clones_equal (search rules) in
    (none_known _ c.in_ok-shapes.shapes.items c.args.places all, c.new-2.ensures.items)
