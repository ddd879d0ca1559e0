use Rattle.std.proofs.Common.{◌≡◌, length, remove, slice_index_or, [], ap, ◌∙◌, rules}
use Rattle.beam_mailbox.specs.Chunks.{joined}
use Rattle.beam_mailbox.proofs.Joined.{joined_without}
use Rattle.beam_mailbox.proofs.places.remove_from.Goals as goal

pub returns-then-len-eq1-clause-messages : goal.returns-then-len-eq1-clause-messages
returns-then-len-eq1-clause-messages c =
    let left : c.remove.new.self.items ≡ remove c.args.chunks.now.items c.args.chunk = search rules in
    let one : length (slice_index_or c.args.chunks.now.items c.args.chunk []) ≡ 1 = search rules in
    ap joined left ∙ joined_without c.args.chunks.now.items [] c.args.chunk c.args.place c.requires.chunk c.requires.place one
