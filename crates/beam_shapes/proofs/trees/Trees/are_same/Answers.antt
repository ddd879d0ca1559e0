use Rattle.std.proofs.Common.{subst, ap, eqb-true, eq-eqb}
use Rattle.beam_shapes.specs.Prelude.{tags_of, IsTidy}
use Rattle.beam_shapes.proofs.UniqueTrees.{same_tree}
use Rattle.beam_shapes.proofs.trees.Trees.are_same.Goals as goal

pub returns : goal.returns
returns c =
    let p = c.args.self.now in
    let tidy : IsTidy p = subst (λ q. IsTidy q) c.self.view_is c.self.invariant in (
      λ t. ap (λ n. tags_of p 10 n) (eqb-true c.args.one c.args.other t),
      λ e. eq-eqb c.args.one c.args.other (same_tree p 10 c.args.one c.args.other tidy c.requires.one c.requires.other e),
    )
