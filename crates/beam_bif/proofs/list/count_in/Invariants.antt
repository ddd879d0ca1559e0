use Rattle.std.proofs.Common.{◌≡◌, ◌≤◌, ◌+◌, length}
use Rattle.std.specs.Option.{option_map}
use Rattle.beam_model.specs.Prelude.{elements_in}
use Rattle.beam_term.specs.Prelude.{depth_of}
use Rattle.beam_bif.proofs.list.count_in.Given as goal

-- the count so far and that of the rest add up to the list's
abbrev pub invariant-loop-tail : goal.invariant-loop-tail
invariant-loop-tail l = record {
  counted : option_map (λ items. l.count + length items) (elements_in l.rest) ≡ option_map length (elements_in l.list);
  in_range : l.count + depth_of l.rest ≤ 4096;
}
