use Rattle.std.proofs.Common.{Err, ap, drop, arith, length-drop}
use Rattle.beam_term.specs.Prelude.{depth_of}
use Rattle.beam_etf.proofs.Exits.{exit_memory}
use Rattle.beam_etf.proofs.TextDepth.{text_depth}
use Rattle.beam_etf.proofs.reading.text_list.Goals as goal

pub returns-in_err-list-clause-memory : goal.returns-in_err-list-clause-memory
returns-in_err-list-clause-memory c =
    exit_memory c.from_residual.result c.in_err-list.field-0.0 c.from_residual.ensures.1
    (λ e. omega (
      arith,
      c.in_err-list.ensures.too_deep.0 (ap Err e),
      ap depth_of c.integer.ensures,
      ap depth_of c.loop-i.invariant,
      text_depth (drop c.loop-i.i c.args.text.now),
      length-drop c.loop-i.i c.args.text.now,
    ))
