use Rattle.std.proofs.Common.{◌≡◌, List, Option, ap, sym, subst, ⊎_elim, unwrap_or}
use Rattle.beam_shapes.specs.declared.trees.Halves.{Halves}
use Rattle.beam_shapes.specs.Prelude.{no_halves, IsAbsent, AreDistinct}
use Rattle.beam_shapes.proofs.Tidy.{interned_grows, interned_part, distinct_interned, absent_interned, grows_halves, as_before, not_none}
use Rattle.beam_shapes.proofs.trees.Trees.join.Goals as goal

pub returns-clause-grows : goal.returns-clause-grows
returns-clause-grows c =
    grows_halves c.args.self.now c.self.inside.labels.keys c.self.inside.halves.keys c.intern_halves.new.halves.keys c.self.view_is
    (interned_grows (record { left = c.args.left; right = c.args.right }) c.self.inside.halves.keys c.intern_halves.new.halves.keys c.in_ok-tree.tree c.in_ok-tree.ensures.interned)

pub returns-clause-tree : goal.returns-clause-tree
returns-clause-tree c =
    let keeps = c.in_ok-tree.ensures.interned in (
      ap (λ (o : Option Halves). unwrap_or o no_halves) (interned_part (record { left = c.args.left; right = c.args.right }) c.self.inside.halves.keys c.intern_halves.new.halves.keys c.in_ok-tree.tree keeps),
      keeps.2,
    )

pub returns-in_err-tree-clause-grows : goal.returns-in_err-tree-clause-grows
returns-in_err-tree-clause-grows c =
    grows_halves c.args.self.now c.self.inside.labels.keys c.self.inside.halves.keys c.intern_halves.new.halves.keys c.self.view_is
    (as_before c.self.inside.halves.keys c.intern_halves.new.halves.keys c.in_err-tree.ensures.err)

pub invariant_of-self : goal.invariant_of-self
invariant_of-self c = (
  c.self.invariant.0,
  subst (λ (hs : List Halves). AreDistinct hs) (sym c.in_err-tree.ensures.err) c.self.invariant.1,
  subst (λ (hs : List Halves). IsAbsent no_halves hs) (sym c.in_err-tree.ensures.err) c.self.invariant.2,
)

pub invariant_of-self-2 : goal.invariant_of-self-2
invariant_of-self-2 c =
    let keeps = c.in_ok-tree.ensures.interned in
    let both : Halves = record { left = c.args.left; right = c.args.right } in
    let some : c.args.left ≡ 0 → c.args.right ≡ 0 → ⊥ =
    λ l r. ⊎_elim (λ (a : (c.args.left ≡ 0) × (c.args.right ≡ 0 → ⊥)). a.1 r) (λ (b : c.args.left ≡ 0 → ⊥). b l) c.else-left-eq0.either in (
      c.self.invariant.0,
      distinct_interned both c.self.inside.halves.keys c.intern_halves.new.halves.keys c.in_ok-tree.tree keeps c.self.invariant.1,
      absent_interned no_halves both c.self.inside.halves.keys c.intern_halves.new.halves.keys c.in_ok-tree.tree (not_none c.args.left c.args.right some) keeps c.self.invariant.2,
    )
