use Rattle.beam_debug.proofs.ShortTurns.{short_halts}
use Rattle.beam_debug.proofs.short.rows_before_spots.Goals as goal

pub returns : goal.returns
returns c = short_halts c.args.spots.now c.args.passes c.args.pid c.args.core.now c.short_rows.result c.short_rows.new.self c.requires.none c.short_rows.ensures
