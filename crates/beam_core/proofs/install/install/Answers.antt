use Rattle.std.proofs.Common.{◌≡◌, sym, ap, ◌∙◌, rules}
use Rattle.beam_machine.specs.declared.event.Event.TheVariants.{Steps}
use Rattle.beam_machine.specs.Prelude.{Private, before_node_row}
use Rattle.beam_proc.specs.Prelude.{end_of}
use Rattle.beam_shape_laws.specs.Shaped.{IsFramedNode}
use Rattle.beam_shape_laws.proofs.Nodes.{next_framed}
use Rattle.beam_core.proofs.Effects.{ends_before, stands_in, effect, effect_keeps, goes_on_there, effect_and_row, stands_back, restored, part_in, rises_back}
use Rattle.beam_core.proofs.install.install.Goals as goal

pub advance-was-requires : goal.advance-was-requires
advance-was-requires c =
    let rows : Private = c.args.rows in
    let sent : c.deref.result.now ≡ rows.sent = search rules in
    let same : c.rows.inside.process ≡ rows.process = ap (λ (r : Private). r.process) c.rows.view_is in
    record {
      can = stands_in c.args.code.now c.args.state.now c.tell.new.state c.args.pid rows c.requires.rows c.deref.result.now c.rows.inside.process c.in_ok-then.then sent same c.in_ok-then.ensures.then c.in_ok-tell.ensures.ok;
      part = part_in c.args.code.now c.args.state.now c.tell.new.state c.args.pid rows c.requires.rows c.deref.result.now c.rows.inside.process c.in_ok-then.then sent same c.in_ok-then.ensures.then c.in_ok-tell.ensures.ok;
    }

pub returns-in_default : goal.returns-in_default
returns-in_default c =
    let rows : Private = c.args.rows in
    let sent : c.deref.result.now ≡ rows.sent = search rules in
    let same : c.rows.inside.process ≡ rows.process = ap (λ (r : Private). r.process) c.rows.view_is in
    record {
      ok = effect c.args.code.now c.args.state.now c.tell.new.state c.args.pid rows c.requires.rows c.deref.result.now c.rows.inside.process c.in_ok-then.then sent same c.in_ok-then.ensures.then c.in_ok-tell.ensures.ok
          c.advance-was.new.self c.advance-was.result c.advance-was.ensures c.recall_invariant.ensures.pids
          (λ e. c.in_default.not-BeforeNodeRow (ends_before c.rows.inside.end (ap (λ (r : Private). r.end) c.rows.view_is ∙ e)));
      err = tt;
      refused = tt;
      quiet = λ quiet. tt;
    }

pub one_row-requires-clause-runs : goal.one_row-requires-clause-runs
one_row-requires-clause-runs c =
    let rows : Private = c.args.rows in
    let sent : c.deref.result.now ≡ rows.sent = search rules in
    let same : c.rows.inside.process ≡ rows.process = ap (λ (r : Private). r.process) c.rows.view_is in
    let ends : rows.end ≡ before_node_row = sym (ap (λ (r : Private). r.end) c.rows.view_is) ∙ ap end_of c.in-BeforeNodeRow.is in
    goes_on_there c.args.code.now c.args.state.now c.tell.new.state c.args.pid rows c.requires.rows c.deref.result.now c.rows.inside.process c.in_ok-then.then sent same c.in_ok-then.ensures.then c.in_ok-tell.ensures.ok
    c.advance-was.new.self c.advance-was.result c.advance-was.ensures ends

pub one_row-requires-clause-framed : goal.one_row-requires-clause-framed
one_row-requires-clause-framed c =
    let rows : Private = c.args.rows in
    let sent : c.deref.result.now ≡ rows.sent = search rules in
    let same : c.rows.inside.process ≡ rows.process = ap (λ (r : Private). r.process) c.rows.view_is in
    effect_keeps c.args.code.now c.args.state.now c.tell.new.state c.args.pid rows c.requires.rows c.deref.result.now c.rows.inside.process c.in_ok-then.then sent same c.in_ok-then.ensures.then c.in_ok-tell.ensures.ok
    c.advance-was.new.self c.advance-was.result c.advance-was.ensures IsFramedNode (λ s pid n. next_framed s (Steps pid n) tt) c.recall_invariant.ensures.pids c.requires.framed

pub returns-in-Ok-clause-ok : goal.returns-in-Ok-clause-ok
returns-in-Ok-clause-ok c =
    let rows : Private = c.args.rows in
    let sent : c.deref.result.now ≡ rows.sent = search rules in
    let same : c.rows.inside.process ≡ rows.process = ap (λ (r : Private). r.process) c.rows.view_is in
    let ends : rows.end ≡ before_node_row = sym (ap (λ (r : Private). r.end) c.rows.view_is) ∙ ap end_of c.in-BeforeNodeRow.is in
    effect_and_row c.args.code.now c.args.state.now c.tell.new.state c.args.pid rows c.requires.rows c.deref.result.now c.rows.inside.process c.in_ok-then.then sent same c.in_ok-then.ensures.then c.in_ok-tell.ensures.ok
    c.advance-was.new.self c.advance-was.result c.advance-was.ensures ends c.recall_invariant.ensures.pids c.one_row.new.state c.in-Ok.then c.in-Ok.ensures.ok.0 c.in-Ok.ensures.ok.1

pub replace-made-requires : goal.replace-made-requires
replace-made-requires c =
    let rows : Private = c.args.rows in
    let sent : c.deref.result.now ≡ rows.sent = search rules in
    let same : c.rows.inside.process ≡ rows.process = ap (λ (r : Private). r.process) c.rows.view_is in
    let ends : rows.end ≡ before_node_row = sym (ap (λ (r : Private). r.end) c.rows.view_is) ∙ ap end_of c.in-BeforeNodeRow.is in
    record {
      can = stands_back c.args.code.now c.args.state.now c.tell.new.state c.args.pid rows c.requires.rows c.deref.result.now c.rows.inside.process c.in_ok-then.then sent same c.in_ok-then.ensures.then c.in_ok-tell.ensures.ok
          c.advance-was.new.self c.advance-was.result c.advance-was.ensures ends c.one_row.new.state c.in-Err.ensures.err;
      rise = rises_back c.args.code.now c.args.state.now c.tell.new.state c.args.pid rows c.requires.rows c.deref.result.now c.rows.inside.process c.in_ok-then.then sent same c.in_ok-then.ensures.then c.in_ok-tell.ensures.ok
          c.advance-was.new.self c.advance-was.result c.advance-was.ensures ends c.recall_invariant.ensures.references c.one_row.new.state c.in-Err.ensures.err;
    }

pub returns-clause-err : goal.returns-clause-err
returns-clause-err c =
    let rows : Private = c.args.rows in
    let sent : c.deref.result.now ≡ rows.sent = search rules in
    let again : c.deref-in-Err.result.now ≡ rows.sent = search rules in
    let same : c.rows.inside.process ≡ rows.process = ap (λ (r : Private). r.process) c.rows.view_is in
    let ends : rows.end ≡ before_node_row = sym (ap (λ (r : Private). r.end) c.rows.view_is) ∙ ap end_of c.in-BeforeNodeRow.is in
    restored c.args.code.now c.args.state.now c.tell.new.state c.args.pid rows c.requires.rows c.deref.result.now c.rows.inside.process c.in_ok-then.then sent same c.in_ok-then.ensures.then c.in_ok-tell.ensures.ok
    c.advance-was.new.self c.advance-was.result c.advance-was.ensures ends
    c.one_row.new.state c.replace-made.new.self c.take_all_back.new.self c.replace-made.result c.deref-in-Err.result.now c.in-Err.ensures.err c.replace-made.ensures again c.take_all_back.ensures
