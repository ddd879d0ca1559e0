-- Numbers that are written are read back by the bytes that they take.
use Rattle.std.proofs.Common.{ℕ, ◌^◌, ◌<◌, [], ◌++◌, sym, ap, ◌∙◌, append-nil}
use Rattle.byteorder.specs.Endian.{big_number, big_bytes}
use Rattle.byteorder.specs.Numbers.{big_number-reads_back, length-bytes_high_first}
use Rattle.beam_machine.specs.declared.debug.DebugEvent.TheVariants.{Node}
use Rattle.beam_machine.specs.declared.event.Event.TheVariants as event
use Rattle.beam_machine.specs.Prelude.{IsNumber, SpellsCommand}
use Rattle.beam_machine.specs.Frames.{steps}

pub number_written : (count n : ℕ) → n < 256 ^ count → IsNumber count (big_bytes count n) n
number_written count n lt = record {
  wide = length-bytes_high_first count n;
  value = ap (big_number count) (sym (append-nil (big_bytes count n))) ∙ big_number-reads_back count n [] lt;
}

pub steps_written : (pid rows : ℕ) → pid < 256 ^ 4 → rows < 256 ^ 4 → SpellsCommand 8 (big_bytes 4 pid ++ big_bytes 4 rows) (Node (event.Steps pid rows))
steps_written pid rows p r = steps (big_bytes 4 pid) (big_bytes 4 rows) pid rows (number_written 4 pid p) (number_written 4 rows r)
