use Rattle.std.proofs.Common.{◌≡◌, ◌+◌, length, reverse}
use Rattle.beam_model.specs.Prelude.{stop_from, stop_in}
use Rattle.beam_listing.proofs.forms.stop.Given as goal

abbrev pub invariant-loop-first : goal.invariant-loop-first
invariant-loop-first l = record {
  found : stop_from l.mark l.state (reverse l.brackets.items) l.count l.rest ≡ stop_in l.mark l.text;
  place : l.count + length l.rest ≡ length l.text;
}

abbrev pub decreases-loop-first : goal.decreases-loop-first
decreases-loop-first l = length l.rest
