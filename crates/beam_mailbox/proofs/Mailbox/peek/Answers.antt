use Rattle.std.proofs.Common.{◌<◌, ◌≤◌, length, ap, ◌∙◌, rules}
use Rattle.beam_model.specs.Prelude.{message_at}
use Rattle.beam_mailbox.proofs.Pointer.{peek_chunk, peek_last}
use Rattle.beam_mailbox.proofs.Mailbox.peek.Goals as goal

pub returns-in-Some : goal.returns-in-Some
returns-in-Some c =
    let within : c.self.inside.chunk < length c.self.inside.chunks.items = search rules in
    c.get-in-Some.ensures
    ∙ peek_chunk c.self.inside.chunks.items c.self.inside.last.items c.self.inside.chunk c.self.inside.place c.self.inside.position c.in-Some.chunk.now c.in-Some.ensures.lookup within c.self.invariant.2
    ∙ ap message_at c.self.view_is

pub returns-in-None : goal.returns-in-None
returns-in-None c =
    let past : length c.self.inside.chunks.items ≤ c.self.inside.chunk = search rules in
    c.last_at.ensures
    ∙ peek_last c.self.inside.chunks.items c.self.inside.last.items c.self.inside.chunk c.self.inside.place c.self.inside.position past c.self.invariant.2
    ∙ ap message_at c.self.view_is
