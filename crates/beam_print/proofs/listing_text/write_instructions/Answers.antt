use Rattle.std.proofs.Common.{◌≡◌, ap, rules, ◌∷◌, ◌++◌, List, ℕ}
use Rattle.beam_lemmas.proofs.AnyError.{on_err}
use Rattle.beam_model.specs.Prelude.{before_text, instruction_text, instructions_text, stop}
use Rattle.beam_print.proofs.Begun.{step, step_begun}
use Rattle.beam_print.proofs.listing_text.write_instructions.Goals as goal

pub returns-in_err-write_line-clause-begun : goal.returns-in_err-write_line-clause-begun
returns-in_err-write_line-clause-begun g c =
    let first = c.in-Some.first.now in
    let others = c.in-Some.others.now in
    let left : c.loop-first.left.now ≡ first ∷ others = search rules in
    on_err c.from_residual.result _
    (step_begun _ _ _ _ c.loop-first.waiting.items _ (before_text first others ++ instruction_text first ++ stop) (instructions_text others)
    c.loop-first.invariant (ap instructions_text left) c.in_err-write_line.ensures.begun)

pub loop-first-preserved : goal.loop-first-preserved
loop-first-preserved g c =
    let first = c.in-Some.first.now in
    let others = c.in-Some.others.now in
    let left : c.loop-first.left.now ≡ first ∷ others = search rules in
    step _ _ _ _ c.loop-first.waiting.items _ (before_text first others ++ instruction_text first ++ stop) (instructions_text others) _
    c.loop-first.invariant (ap instructions_text left) c.in_ok-write_line.ensures.written
