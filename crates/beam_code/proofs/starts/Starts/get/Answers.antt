use Rattle.std.proofs.Common.{◌<◌, length, ap, sym, ◌∙◌, arith}
use Rattle.beam_code.proofs.Grouped.{as_many, near_start, far_start, stands_in, fits}
use Rattle.beam_code.proofs.starts.Starts.get.Goals as goal

pub index-offset-requires : goal.index-offset-requires
index-offset-requires c =
    let i = c.self.inside in
    omega (arith, c.requires, as_many i.bases.items i.offsets.items i.far, ap length c.self.view_is)

pub index-requires : goal.index-requires
index-requires c =
    let i = c.self.inside in
    omega (arith, c.requires, c.self.invariant.based, as_many i.bases.items i.offsets.items i.far, ap length c.self.view_is)

pub overflow_add-result : goal.overflow_add-result
overflow_add-result c =
    let i = c.self.inside in
    let lt : c.args.at < length i.offsets.items = omega (arith, c.requires, as_many i.bases.items i.offsets.items i.far, ap length c.self.view_is) in
    record {
      fits = fits i.bases.items i.offsets.items i.far c.args.at _ c.self.invariant lt
          (near_start i.bases.items i.offsets.items i.far c.args.at c.index.result.now c.index-offset.result.now lt (omega (arith, c.self.invariant.based)) c.index-offset.ensures c.index.ensures c.if-offset-lt-FAR.true);
    }

pub returns-then-offset-lt-FAR : goal.returns-then-offset-lt-FAR
returns-then-offset-lt-FAR c =
    let i = c.self.inside in
    let lt : c.args.at < length i.offsets.items = omega (arith, c.requires, as_many i.bases.items i.offsets.items i.far, ap length c.self.view_is) in
    stands_in i.bases.items i.offsets.items i.far c.args.self.now c.args.at _ c.self.view_is c.requires
    (near_start i.bases.items i.offsets.items i.far c.args.at c.index.result.now c.index-offset.result.now lt (omega (arith, c.self.invariant.based)) c.index-offset.ensures c.index.ensures c.if-offset-lt-FAR.true)

pub returns-else-offset-lt-FAR : goal.returns-else-offset-lt-FAR
returns-else-offset-lt-FAR c =
    let i = c.self.inside in
    let lt : c.args.at < length i.offsets.items = omega (arith, c.requires, as_many i.bases.items i.offsets.items i.far, ap length c.self.view_is) in
    stands_in i.bases.items i.offsets.items i.far c.args.self.now c.args.at _ c.self.view_is c.requires
    (far_start i.bases.items i.offsets.items i.far c.args.at c.index-offset.result.now lt c.index-offset.ensures c.if-offset-lt-FAR.false ∙ sym c.far_start.ensures)
