use Rattle.std.proofs.Common.{◌≡◌, true, rules}
use Rattle.beam_model.specs.Prelude.{is_row, next_row, row_at}
use Rattle.beam_shapes.specs.Prelude.{assigned, shown}
use Rattle.beam_shapes.proofs.Fits.{does_step}
use Rattle.beam_shapes.proofs.Looked.{flows_step}
use Rattle.beam_shapes.proofs.search.step.Goals as goal

pub returns-clause-does : goal.returns-clause-does
returns-clause-does c =
    let row : is_row (row_at c.args.code.now c.args.at) ≡ true = search rules in
    does_step c.args.code.now c.args.at (shown c.args.known.now.parts c.in-Some.shape) c.args.known.now c.in-Some.ensures.shown row c.requires.places c.fit.result c.fit.new.known c.fit.ensures.does

pub returns-clause-flows : goal.returns-clause-flows
returns-clause-flows c =
    let code = c.args.code.now in let at = c.args.at in
    flows_step c.fit.result (assigned c.fit.new.known.known) code (row_at code at) (next_row at code) (shown c.args.known.now.parts c.in-Some.shape)
    (assigned c.args.known.now.known at) c.in-Some.ensures.shown c.fit.ensures.flows
