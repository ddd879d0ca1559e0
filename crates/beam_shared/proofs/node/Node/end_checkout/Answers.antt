use Rattle.beam_shared.proofs.CommittedRows.{few_rows}
use Rattle.beam_shared.proofs.node.Node.end_checkout.Goals as goal

pub rows_asked-requires : goal.rows_asked-requires
rows_asked-requires g c =
    let b = c.requires.back in
    few_rows b.origin b.limit c.args.rows b.done b.few

pub enter_rows-requires-clause-few : goal.enter_rows-requires-clause-few
enter_rows-requires-clause-few g c =
    let b = c.requires.back in
    few_rows b.origin b.limit c.args.rows b.done b.few
