use Rattle.std.proofs.Common.{arith, ◌+◌, ◌-◌, ◌≡◌, ◌∙◌, ap, sym, ℕ}
use Rattle.beam_tools.specs.Prelude.{after_lines, up_to}
use Rattle.beam_tools.proofs.TextLines.{line_passed, no_line_left}
use Rattle.beam_tools.proofs.place.line_in.Goals as goal

pub loop-preserved : goal.loop-preserved
loop-preserved c =
    let n : ℕ = c.args.number - (c.loop.counter + 1) in
    let more : c.args.number - c.loop.counter ≡ n + 1 = omega arith in
    ap (after_lines n) c.after_mark-rest.ensures ∙ line_passed (c.args.number - c.loop.counter) n c.loop.rest.now more ∙ c.loop.invariant

pub returns : goal.returns
returns c =
    let over : c.args.number - c.loop.counter ≡ 0 = omega arith in
    c.up_to.ensures ∙ ap (up_to 10) (sym (no_line_left (c.args.number - c.loop.counter) c.loop.rest.now over) ∙ c.loop.invariant)
