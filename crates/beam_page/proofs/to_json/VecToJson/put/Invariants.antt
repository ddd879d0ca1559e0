use Rattle.std.proofs.Common.{◌≡◌, ◌++◌, length}
use Rattle.std.specs.List.{flat_map}
use Rattle.beam_page.proofs.to_json.VecToJson.put.Given as goal

-- what is left completes the list
abbrev pub invariant-loop-value : goal.invariant-loop-value
invariant-loop-value g l = record {
  tokens : l.writer.tokens ++ flat_map g.T.ToJson.tokens l.rest ≡ l.initial.writer.tokens ++ flat_map g.T.ToJson.tokens l.fn.self.items;
  before : l.writer.before ≡ l.initial.writer.before;
}

abbrev pub decreases-loop-value : goal.decreases-loop-value
decreases-loop-value g l = length l.rest
