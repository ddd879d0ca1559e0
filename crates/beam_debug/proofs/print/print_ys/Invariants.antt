use Rattle.std.proofs.Common.{◌≡◌, ◌+◌, ◌++◌, length}
use Rattle.beam_machine.specs.Prelude.{ys_text}
use Rattle.beam_debug.proofs.print.print_ys.Given as goal

-- the text so far and the registers that are left make the text of all registers
abbrev pub invariant-loop-slot : goal.invariant-loop-slot
invariant-loop-slot l = record {
  text : l.out ++ ys_text l.register l.rest ≡ l.initial.out ++ ys_text 0 l.fn.slots;
  count : l.register + length l.rest ≡ length l.fn.slots;
}

abbrev pub decreases-loop-slot : goal.decreases-loop-slot
decreases-loop-slot l = length l.rest
