use Rattle.std.specs.Arc.{arc_value}
use Rattle.beam_mailbox.proofs.Chosen.{chosen_remove}
use Rattle.beam_mailbox.proofs.chunk.Chunk.remove.Goals as goal

pub returns : goal.returns
returns c =
    rw (c.remove.ensures.items, ← c.self.view_is) (chosen_remove (arc_value c.self.inside.messages).items c.self.inside.left.items c.args.place)
