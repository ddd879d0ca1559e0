use Rattle.std.proofs.Common.{◌≡◌, ◌++◌, length, take}
use Rattle.std.specs.List.{flat_map}
use Rattle.byteorder.specs.Endian.{big_bytes}
use Rattle.beam_machine.specs.Prelude.{numbers_bytes}
use Rattle.beam_frame.proofs.writing.put_list.Given as goal

abbrev pub invariant-loop-numbers : goal.invariant-loop-numbers
invariant-loop-numbers l = l.out.items ≡ (l.fn.out.items ++ big_bytes 4 (length l.list)) ++ flat_map numbers_bytes (take l.numbers-index l.list)
