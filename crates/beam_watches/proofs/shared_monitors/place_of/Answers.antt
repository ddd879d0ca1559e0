use Rattle.std.proofs.Common.{rules}
use Rattle.std.proofs.lemmas.List.Sorted.{answers_always}
use Rattle.beam_watches.proofs.Flags.{searched}
use Rattle.beam_watches.proofs.shared_monitors.place_of.Goals as goal

pub returns : goal.returns
returns c =
    let facts = c.binary_search_by_key.ensures in
    searched c.args.reference _ c.requires _ facts.bound (facts.position (λ e. e.0) (answers_always _ _ _ (λ f a r g called. search rules)))
