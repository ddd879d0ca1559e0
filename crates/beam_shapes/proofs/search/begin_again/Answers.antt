use Rattle.beam_shapes.proofs.Listed.{does_both}
use Rattle.std.proofs.Common.{◌≡◌, length, true}
use Rattle.std.specs.List.{list_all}
use Rattle.beam_model.specs.Prelude.{begins_bare, entries}
use Rattle.beam_shapes.specs.Prelude.{BeginBelow}
use Rattle.beam_shapes.proofs.search.begin_again.Goals as goal

pub returns : goal.returns
returns c =
    let code = c.args.code.now in
    does_both c.begin_all_called.result (λ a. list_all (begins_bare a code) (entries code) ≡ true) (λ a. BeginBelow a code (length code)) c.args.known.now c.begin_all.new.known c.begin_all_called.new.known
    c.in_ok-begin_all.ensures c.begin_all_called.ensures
