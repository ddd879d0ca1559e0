use Rattle.std.proofs.Common.{◌≡◌, ◌+◌, ◌∙◌, sym, subst, arith}
use Rattle.beam_machine.specs.Prelude.{makes, outcome}
use Rattle.beam_rows.specs.Prelude.{AlwaysFinds}
use Rattle.beam_rows.proofs.Leading.{leads_both, leads_further}
use Rattle.beam_rows.proofs.Made.{goes_on_is}
use Rattle.beam_rows.proofs.Finding.{finds_after, finds_next}
use Rattle.beam_shape_laws.specs.Finds.{FindsNext}
use Rattle.beam_rows.proofs.short.short_rows.Goals as goal

pub cheap_rows-count-requires-clause-finds : goal.cheap_rows-count-requires-clause-finds
cheap_rows-count-requires-clause-finds c =
    let l = c.loop-count in
    subst (λ code. AlwaysFinds code l.process) (sym l.invariant.code) (finds_after c.args.code.now l.count c.args.process.now l.process l.invariant.rows c.requires.finds)

pub private_row-requires-clause-finds : goal.private_row-requires-clause-finds
private_row-requires-clause-finds c =
    let l = c.loop-count in
    let ran = c.cheap_rows-count in
    let code : c.admits_next.new.fetcher ≡ c.args.code.now = c.admits_next.ensures.code ∙ (ran.ensures.code ∙ l.invariant.code) in
    let quick = leads_both c.args.code.now l.count ran.result c.args.process.now l.process ran.new.process l.invariant.rows (rw l.invariant.code at ran.ensures.rows) in
    let next = finds_next c.args.code.now ran.new.process (finds_after c.args.code.now (l.count + ran.result) c.args.process.now ran.new.process quick c.requires.finds) ran.ensures.runs in
    subst (λ code. FindsNext code ran.new.process.goes ran.new.process) (sym code) next

pub loop-count-preserved : goal.loop-count-preserved
loop-count-preserved c =
    let l = c.loop-count in
    let ran = c.cheap_rows-count in
    let code : c.admits_next.new.fetcher ≡ c.args.code.now = c.admits_next.ensures.code ∙ (ran.ensures.code ∙ l.invariant.code) in
    let total = l.count + ran.result in
    let quick = leads_both c.args.code.now l.count ran.result c.args.process.now l.process ran.new.process l.invariant.rows (rw l.invariant.code at ran.ensures.rows) in
    let made = rw (c.in-Ok-Made-GoesOn.field-0-is, c.in-Ok-Made-GoesOn.field-0-0-is) at c.in-Ok-Made-GoesOn.ensures.does in
    let done : outcome c.args.code.now ran.new.process ≡ makes c.private_row.new.process = rw code at made.0 in
    record {
      code = c.private_row.ensures.code ∙ code;
      runs = goes_on_is c.private_row.new.process.status made.1;
      rows = leads_further c.args.code.now total c.args.process.now ran.new.process c.private_row.new.process quick ran.ensures.runs done;
      most = omega arith;
    }
