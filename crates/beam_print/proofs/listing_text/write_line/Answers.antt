use Rattle.std.proofs.Common.{◌≡◌, ◌++◌, ℕ, List}
use Rattle.beam_lemmas.proofs.AnyError.{on_err}
use Rattle.beam_model.specs.Prelude.{before_text, instruction_text, stop}
use Rattle.beam_print.proofs.Begun.{begun_longer, between, closed, not_begun, stopped}
use Rattle.beam_print.proofs.listing_text.write_line.Goals as goal

-- the text of the line, in the pieces in which it is written
pieces : (old start before middle : List ℕ) → start ≡ old ++ before → old ++ (before ++ middle ++ stop) ≡ (start ++ middle) ++ stop
pieces old start before middle is = between old start before middle stop is

pub returns-in_err-print_before-clause-begun : goal.returns-in_err-print_before-clause-begun
returns-in_err-print_before-clause-begun g c = not_begun _ _ _

pub returns-in_err-write_instruction-clause-begun : goal.returns-in_err-write_instruction-clause-begun
returns-in_err-write_instruction-clause-begun g c =
    let start : List ℕ = c.print_before.new.out.items in
    let middle : List ℕ = instruction_text c.args.first.now in
    on_err _ _ (begun_longer _ _ (start ++ middle) stop _ c.in_err-write_instruction.ensures.begun
    (pieces c.args.waiting.now.items start (before_text c.args.first.now c.args.rest.now) middle c.in_ok-print_before.ensures))

pub returns-in_err-extend_from_slice-clause-begun : goal.returns-in_err-extend_from_slice-clause-begun
returns-in_err-extend_from_slice-clause-begun g c =
    let start : List ℕ = c.print_before.new.out.items in
    let middle : List ℕ = instruction_text c.args.first.now in
    on_err _ _ (stopped _ _ (start ++ middle) c.write_instruction.new.waiting.items stop _ c.in_ok-write_instruction.ensures.written
    (pieces c.args.waiting.now.items start (before_text c.args.first.now c.args.rest.now) middle c.in_ok-print_before.ensures))

pub returns-clause-written : goal.returns-clause-written
returns-clause-written g c =
    let start : List ℕ = c.print_before.new.out.items in
    let middle : List ℕ = instruction_text c.args.first.now in
    closed _ _ (start ++ middle) c.write_instruction.new.waiting.items stop _ _ c.in_ok-write_instruction.ensures.written
    (pieces c.args.waiting.now.items start (before_text c.args.first.now c.args.rest.now) middle c.in_ok-print_before.ensures)
    c.in_ok-extend_from_slice.ensures.items
