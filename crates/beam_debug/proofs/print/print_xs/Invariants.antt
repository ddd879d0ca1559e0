use Rattle.std.proofs.Common.{◌≡◌, ◌+◌, ◌++◌, length}
use Rattle.beam_machine.specs.Prelude.{xs_text}
use Rattle.beam_debug.proofs.print.print_xs.Given as goal

-- the text so far and the registers that are left make the text of all registers
abbrev pub invariant-loop-value : goal.invariant-loop-value
invariant-loop-value l = record {
  text : l.out ++ xs_text l.register l.rest ≡ l.initial.out ++ xs_text 0 l.fn.values;
  count : l.register + length l.rest ≡ length l.fn.values;
}

abbrev pub decreases-loop-value : goal.decreases-loop-value
decreases-loop-value l = length l.rest
