use Rattle.std.proofs.Common.{length, ap, arith}
use Rattle.beam_code.proofs.Grouped.{as_many}
use Rattle.beam_code.proofs.starts.Starts.len.Goals as goal

pub returns : goal.returns
returns c =
    let i = c.self.inside in
    omega (arith, c.len.ensures, as_many i.bases.items i.offsets.items i.far, ap length c.self.view_is)
