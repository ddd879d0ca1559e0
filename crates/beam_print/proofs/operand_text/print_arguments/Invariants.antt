use Rattle.std.proofs.Common.{◌≡◌, ◌++◌, [], drop}
use Rattle.beam_model.specs.Prelude.{arguments_text}
use Rattle.beam_print.proofs.operand_text.print_arguments.Given as goal

-- the output so far, with the remaining arguments printed, is the whole
abbrev pub invariant-loop-argument : goal.invariant-loop-argument
invariant-loop-argument l = l.out.items ++ arguments_text l.separator (drop l.argument-index l.arguments) ≡ l.initial.out.items ++ arguments_text [] l.arguments
