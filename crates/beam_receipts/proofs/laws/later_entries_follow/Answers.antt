use Rattle.std.proofs.lemmas.List.Elements.{filter-append}
use Rattle.beam_receipts.specs.Receipts.{is_of}
use Rattle.beam_receipts.proofs.laws.later_entries_follow.Goals as goal

pub returns : goal.returns
returns c = λ n journal more. filter-append (is_of n) journal more
