use Rattle.std.proofs.Common.{ap}
use Rattle.std.proofs.lemmas.List.{nil_from_length}
use Rattle.std.proofs.lemmas.Result.{err_from_is_err_and}
use Rattle.beam_model.specs.Prelude.{instruction_bytes, instructions_bytes}
use Rattle.beam_code.proofs.Written.{goes_on, stops, finishes}
use Rattle.beam_code.proofs.write.push_instructions.Goals as goal

pub returns-in_err-push_instruction : goal.returns-in_err-push_instruction
unfolding instructions_bytes
returns-in_err-push_instruction c =
    let p = err_from_is_err_and c.from_residual.result c.from_residual.ensures.1 in
    rw (p.1, p.2) (stops c.in_err-push_instruction.field-0.0 c.loop-instruction.out.items c.args.out.now.items (instruction_bytes c.args.numbering.now c.in-Some.instruction.now) (instructions_bytes c.args.numbering.now c.in-Some.others.now) (instructions_bytes c.args.numbering.now c.loop-instruction.rest.now) (instructions_bytes c.args.numbering.now c.args.instructions.now) (ap (instructions_bytes c.args.numbering.now) c.in-Some.ensures.cases.0) c.in_err-push_instruction.ensures c.loop-instruction.invariant)

pub loop-instruction-preserved : goal.loop-instruction-preserved
unfolding instructions_bytes
loop-instruction-preserved c =
    goes_on c.loop-instruction.out.items c.push_instruction.new.out.items c.args.out.now.items (instruction_bytes c.args.numbering.now c.in-Some.instruction.now) (instructions_bytes c.args.numbering.now c.in-Some.others.now) (instructions_bytes c.args.numbering.now c.loop-instruction.rest.now) (instructions_bytes c.args.numbering.now c.args.instructions.now) (ap (instructions_bytes c.args.numbering.now) c.in-Some.ensures.cases.0) c.in_ok-push_instruction.ensures c.loop-instruction.invariant

pub returns : goal.returns
unfolding instructions_bytes
returns c = finishes c.loop-instruction.out.items c.args.out.now.items (instructions_bytes c.args.numbering.now c.loop-instruction.rest.now) (instructions_bytes c.args.numbering.now c.args.instructions.now) (ap (instructions_bytes c.args.numbering.now) (nil_from_length c.loop-instruction.rest.now c.in_default.ensures.cases)) c.loop-instruction.invariant
