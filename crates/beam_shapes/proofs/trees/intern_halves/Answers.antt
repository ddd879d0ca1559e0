use Rattle.beam_shapes.proofs.Interned.{interned, same_halves, halves_sound, halves_same}
use Rattle.beam_shapes.proofs.trees.intern_halves.Goals as goal

pub returns-in-Ok-clause-interned : goal.returns-in-Ok-clause-interned
returns-in-Ok-clause-interned c =
    interned same_halves halves_sound halves_same c.args.halves.now.keys c.insert_full.new.self.keys c.args.both c.in-Ok.at c.in-Ok.ensures.keys c.in-Ok.ensures.stored c.in-Ok.ensures.within
