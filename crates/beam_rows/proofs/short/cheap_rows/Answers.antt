use Rattle.std.proofs.Common.{◌∙◌, sym, subst, arith}
use Rattle.beam_rows.specs.Prelude.{AlwaysFinds}
use Rattle.beam_rows.proofs.Finding.{finds_after}
use Rattle.beam_rows.proofs.Leading.{leads_both}
use Rattle.beam_rows.proofs.short.cheap_rows.Goals as goal

pub quick_rows-quick-requires-clause-finds : goal.quick_rows-quick-requires-clause-finds
quick_rows-quick-requires-clause-finds c =
    let l = c.loop-limit in
    subst (λ code. AlwaysFinds code l.process) (sym l.invariant.code) (finds_after c.args.fetcher.now l.count c.args.process.now l.process l.invariant.rows c.requires.finds)

pub returns-then-not-quick-clause-rows : goal.returns-then-not-quick-clause-rows
returns-then-not-quick-clause-rows c =
    leads_both c.args.fetcher.now c.loop-limit.count c.quick_rows-quick.result.count c.args.process.now c.loop-limit.process c.quick_rows-quick.new.process c.loop-limit.invariant.rows (rw c.loop-limit.invariant.code at c.quick_rows-quick.ensures.rows)

pub loop-limit-preserved : goal.loop-limit-preserved
loop-limit-preserved c = record {
  code = c.quick_rows-quick.ensures.code ∙ c.loop-limit.invariant.code;
  runs = c.quick_rows-quick.ensures.runs;
  rows = leads_both c.args.fetcher.now c.loop-limit.count c.quick_rows-quick.result.count c.args.process.now c.loop-limit.process c.quick_rows-quick.new.process c.loop-limit.invariant.rows (rw c.loop-limit.invariant.code at c.quick_rows-quick.ensures.rows);
  most = omega arith;
}
