use Rattle.std.proofs.Common.{◌≡◌, ◌+◌, ◌<◌, ◌≤◌, Ok, Some, None, ap, subst, ◌∙◌, arith, rules}
use Rattle.beam_machine.specs.declared.event.Then.TheVariants.{GoesOn, Waits, Ended}
use Rattle.beam_machine.specs.Prelude.{halting, IsLoud, State, process_of}
use Rattle.beam_rows.specs.Prelude.{passes_after}
use Rattle.beam_state.specs.Prelude.{node}
use Rattle.beam_core.specs.Rows.{StopsNext}
use Rattle.beam_core.proofs.PreservedByAnswers.{turn_stays_framed}
use Rattle.beam_core.proofs.Located.{halts_before}
use Rattle.beam_core.proofs.Stepping.{halts_more, halts_to_end, granted_some, none_done, passed, passes_twice}
use Rattle.beam_core.proofs.steps.run_rows.Goals as goal

pub loop-count-preserved : goal.loop-count-preserved
loop-count-preserved c =
    let at = node c.args.code.now in
    let done = c.some_rows-done in
    let is : done.result.then ≡ Ok (Some GoesOn) = search rules in
    let rows = rw is at done.ensures in
    let more = rw c.loop-count.invariant.passes at rows.2 in
    record {
      most = omega (arith, rows.1, c.loop-count.invariant.most);
      passes = passed c.args.passes (c.loop-count.count + done.result.count) (omega (arith, rows.0));
      runs = rows.3;
      framed = turn_stays_framed c.args.spots.now c.loop-count.passing c.args.pid done.result.count (at c.loop-count.state) (at done.new.state) rows.2 c.loop-count.invariant.framed;
      done = halts_more c.loop-count.count done.result.count c.args.spots.now c.args.passes c.args.pid (at c.args.state.now) (at c.loop-count.state) (at done.new.state) c.loop-count.invariant.done more;
    }

pub returns-in-Ok-Some-Waits-clause-halts : goal.returns-in-Ok-Some-Waits-clause-halts
returns-in-Ok-Some-Waits-clause-halts c =
    let at = node c.args.code.now in
    let done = c.some_rows-done in
    let is : done.result.then ≡ Ok (Some Waits) = search rules in
    let rows = rw is at done.ensures in
    let more = rw c.loop-count.invariant.passes at rows.2 in
    let most : c.loop-count.count + done.result.count ≤ c.args.limit = omega (arith, rows.1, c.loop-count.invariant.most) in
    (halts_to_end c.loop-count.count done.result.count c.args.limit c.args.spots.now c.args.passes c.args.pid (at c.args.state.now) (at c.loop-count.state) (at done.new.state) Waits c.loop-count.invariant.done most more rows.3 (λ e. cc), rows.3)

pub returns-in-Ok-Some-Ended-clause-halts : goal.returns-in-Ok-Some-Ended-clause-halts
returns-in-Ok-Some-Ended-clause-halts c =
    let at = node c.args.code.now in
    let done = c.some_rows-done in
    let is : done.result.then ≡ Ok (Some (Ended c.in-Ok-Some-Ended.reason c.in-Ok-Some-Ended.value)) = search rules in
    let rows = rw is at done.ensures in
    let more = rw c.loop-count.invariant.passes at rows.2 in
    let most : c.loop-count.count + done.result.count ≤ c.args.limit = omega (arith, rows.1, c.loop-count.invariant.most) in
    (halts_to_end c.loop-count.count done.result.count c.args.limit c.args.spots.now c.args.passes c.args.pid (at c.args.state.now) (at c.loop-count.state) (at done.new.state) (Ended c.in-Ok-Some-Ended.reason c.in-Ok-Some-Ended.value) c.loop-count.invariant.done most more rows.3 (λ e. cc), rows.3)

pub returns-in-Ok-None-clause-halts : goal.returns-in-Ok-None-clause-halts
returns-in-Ok-None-clause-halts c =
    let at = node c.args.code.now in
    let done = c.some_rows-done in
    let spots = c.args.spots.now in
    let is : done.result.then ≡ Ok None = search rules in
    let rows = rw is at done.ensures in
    let count = c.loop-count.count + done.result.count in
    let less : count < c.args.limit = omega (arith, rows.0) in
    let more = rw c.loop-count.invariant.passes at rows.1 in
    let halts = halts_more c.loop-count.count done.result.count spots c.args.passes c.args.pid (at c.args.state.now) (at c.loop-count.state) (at done.new.state) c.loop-count.invariant.done more in
    let next = rw c.loop-count.invariant.passes at rows.3 in
    let stops : StopsNext spots (passes_after c.args.passes count) (process_of done.new.state.processes c.args.pid) =
    subst (λ b. StopsNext spots b (process_of done.new.state.processes c.args.pid)) (passes_twice c.args.passes c.loop-count.count done.result.count) next in
    (halts_before spots c.args.passes c.args.pid (at c.args.state.now) (at done.new.state) count c.args.limit less halts rows.2 stops, rows.2)

pub returns-in-Err-clause-loud : goal.returns-in-Err-clause-loud
returns-in-Err-clause-loud c =
    let at = node c.args.code.now in
    let done = c.some_rows-done in
    let rows = rw c.in-Err.is at done.ensures in
    let count = c.loop-count.count + done.result.count in
    let more = rw c.loop-count.invariant.passes at rows.1 in
    let halts = halts_more c.loop-count.count done.result.count c.args.spots.now c.args.passes c.args.pid (at c.args.state.now) (at c.loop-count.state) (at done.new.state) c.loop-count.invariant.done more in
    subst (λ (s : State). IsLoud s.code (process_of s.processes c.args.pid))
    (none_done count c.args.spots.now c.args.passes c.args.pid (at c.args.state.now) (at done.new.state) c.if-count-eq0.true halts) rows.3

pub returns-in-Err-2-clause-halts : goal.returns-in-Err-2-clause-halts
returns-in-Err-2-clause-halts c =
    let at = node c.args.code.now in
    let done = c.some_rows-done in
    let rows = rw c.in-Err-2.is at done.ensures in
    let count = c.loop-count.count + done.result.count in
    let less : count < c.args.limit = omega (arith, rows.0) in
    let more = rw c.loop-count.invariant.passes at rows.1 in
    let halts = halts_more c.loop-count.count done.result.count c.args.spots.now c.args.passes c.args.pid (at c.args.state.now) (at c.loop-count.state) (at done.new.state) c.loop-count.invariant.done more in
    (ap (λ k. halting c.args.spots.now c.args.passes (at c.args.state.now) c.args.pid k) (granted_some c.args.limit count c.if-count-eq0.false less) ∙ halts, rows.2)
