use Rattle.std.proofs.Common.{◌≡◌, ◌<◌, ◌+◌, ◌^◌, length}
use Rattle.beam_laws.specs.Prelude.{Ordered, loaded_each}
use Rattle.beam_codesrv.proofs.code_table.CodeTable.put_each.Given as goal

abbrev pub invariant-loop-image : goal.invariant-loop-image
invariant-loop-image l = record {
  loaded : loaded_each l.self l.count l.rest ≡ loaded_each l.fn.self l.fn.count l.fn.images;
  ordered : Ordered l.self l.count;
  room : l.count + length l.rest < 2 ^ 32;
}

abbrev pub decreases-loop-image : goal.decreases-loop-image
decreases-loop-image l = length l.rest
