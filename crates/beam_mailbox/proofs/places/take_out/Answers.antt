use Rattle.std.proofs.Common.{◌≡◌, ◌<◌, ◌≤◌, ◌++◌, length, remove, ap, ◌∙◌, rules, arith}
use Rattle.std.proofs.lemmas.List.{get_or_past}
use Rattle.beam_mailbox.specs.Chunks.{joined}
use Rattle.beam_mailbox.proofs.Pointer.{taken_chunk, taken_last}
use Rattle.beam_mailbox.proofs.places.take_out.Goals as goal

pub returns-then-chunk-len-clause-messages : goal.returns-then-chunk-len-clause-messages
returns-then-chunk-len-clause-messages c =
    taken_chunk c.args.chunks.now.items c.remove_from.new.chunks.items c.args.last.now.items c.args.chunk c.args.place (search rules) c.requires.place c.remove_from.ensures.messages

pub returns-else-chunk-len-clause-messages : goal.returns-else-chunk-len-clause-messages
returns-else-chunk-len-clause-messages c =
    let past : length c.args.chunks.now.items ≤ c.args.chunk = search rules in
    let among : c.args.place < length c.args.last.now.items = omega (arith, c.requires.place, ap length (get_or_past c.args.chunks.now.items c.args.chunk c.args.last.now.items past)) in
    let left : c.remove.new.self.items ≡ remove c.args.last.now.items c.args.place = search rules in
    ap (λ l. joined c.args.chunks.now.items ++ l) left ∙ taken_last c.args.chunks.now.items c.args.last.now.items c.args.chunk c.args.place past
