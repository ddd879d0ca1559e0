use Rattle.std.proofs.Common.{arith}
use Rattle.beam_shapes.proofs.Registers.{drops, drops_not, trims, trims_not}
use Rattle.beam_shapes.proofs.shape.Shape.made.Goals as goal
use Rattle.beam_shapes.proofs.shape.Shape.made.Goals.{else-first-count-via-then-first-count+else-rest-count, else-first-count-via-else-first-count}

pub returns-in-Allocates-Bare-clause-shape : goal.returns-in-Allocates-Bare-clause-shape
returns-in-Allocates-Bare-clause-shape c = c.new.ensures.registers c.args.trees.now

pub returns-then-count-clause-made : goal.returns-then-count-clause-made
returns-then-count-clause-made c =
    drops c.args.trees.now c.args.effect c.args.self c.in-Drops-Sized.registers c.count.result c.in-Drops-Sized.is-1 c.count.ensures c.in-Drops-Sized.count c.in-Drops-Sized.is-0 c.if-count.true

pub returns-else-count-clause-made : goal.returns-else-count-clause-made
returns-else-count-clause-made c =
    drops_not c.args.trees.now c.args.effect c.args.self c.in-Drops-Sized.registers c.count.result c.in-Drops-Sized.is-1 c.count.ensures c.in-Drops-Sized.count c.in-Drops-Sized.is-0 c.if-count.false

pub returns-in_ok-registers-in-Trims-Sized-clause-made : goal.returns-in_ok-registers-in-Trims-Sized-clause-made
returns-in_ok-registers-in-Trims-Sized-clause-made c =
    trims c.args.trees.now c.args.effect c.args.self c.in-Trims-Sized.registers c.count-count.result c.in-Trims-Sized.is-1 c.count-count.ensures c.in-Trims-Sized.first c.in-Trims-Sized.rest _ c.in-Trims-Sized.is-0
    (omega (arith, c.if-first-count.true)) (omega (arith, c.if-rest-count.true)) c.in_ok-registers-in-Trims-Sized.ensures.shown

pub returns-else-first-count-clause-made : goal.returns-else-first-count-clause-made
returns-else-first-count-clause-made c =
    trims_not c.args.trees.now c.args.effect c.args.self c.in-Trims-Sized.registers c.count-count.result c.in-Trims-Sized.is-1 c.count-count.ensures c.in-Trims-Sized.first c.in-Trims-Sized.rest c.in-Trims-Sized.is-0
    (elim c.else-first-count.branch [ else-first-count-via-then-first-count+else-rest-count w ↦ (λ e. omega (arith, e, w.if-first-count.true, w.if-rest-count.false)) | else-first-count-via-else-first-count w ↦ (λ e. omega (arith, e, w.if-first-count.false)) ])
