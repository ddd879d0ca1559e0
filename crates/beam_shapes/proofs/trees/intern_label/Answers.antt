use Rattle.std.proofs.Common.{refl, nat_eq, eqb-true, eq-eqb}
use Rattle.beam_shapes.proofs.Interned.{interned}
use Rattle.beam_shapes.proofs.trees.intern_label.Goals as goal

pub returns-in-Ok-clause-interned : goal.returns-in-Ok-clause-interned
returns-in-Ok-clause-interned c =
    interned nat_eq (λ x y e. eqb-true x y e) (λ x. eq-eqb x x refl) c.args.labels.now.keys c.insert_full.new.self.keys c.args.label c.in-Ok.at c.in-Ok.ensures.keys c.in-Ok.ensures.stored c.in-Ok.ensures.within
