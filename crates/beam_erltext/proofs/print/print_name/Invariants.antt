use Rattle.std.proofs.Common.{◌≡◌, ◌++◌, drop}
use Rattle.std.specs.List.{flat_map}
use Rattle.beam_model.specs.Prelude.{escaped}
use Rattle.beam_erltext.proofs.print.print_name.Given as goal

-- the output so far, with the remaining bytes printed, is the whole name
abbrev pub invariant-loop-byte : goal.invariant-loop-byte
invariant-loop-byte l = l.out.items ++ flat_map escaped (drop l.byte-index l.byte-items) ≡ l.initial.out.items ++ flat_map escaped l.byte-items
