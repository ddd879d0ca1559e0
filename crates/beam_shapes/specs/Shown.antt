-- The values that the code's types stand for.
use Rattle.std.specs.Prelude.{◌≡◌, ℕ, ◌≤◌, List, take, drop, replicate, Option, Some, None}
use Rattle.beam_model.specs.Framed as book
use Rattle.beam_shapes.specs.Trees.{Parts, tags_of, IsTree}
use Rattle.beam_shapes.specs.declared.row.Effect.{Effect}
use Rattle.beam_shapes.specs.declared.row.Effect.TheVariants as effect
use Rattle.beam_shapes.specs.declared.shape.YRegisters.{YRegisters}
use Rattle.beam_shapes.specs.declared.shape.Shape.{Shape}
use Rattle.beam_shapes.specs.declared.shape.Shape.TheVariants as shape

abbrev pub shown_effect : Effect → book.FrameEffect
shown_effect effect.Keeps = book.keeps
shown_effect effect.WantsBare = book.wants_bare
shown_effect (effect.Allocates n) = book.allocates n
shown_effect (effect.Drops n) = book.drops n
shown_effect (effect.Trims m n) = book.trims m n

-- an allocation of at most 1,024 registers, or none
abbrev pub IsSmall : book.FrameEffect → Type 0
IsSmall (book.allocates n) = n ≤ 1024
IsSmall _ = Unit {0}

-- the y registers: the tags in their tree, from a place on
abbrev pub shown_registers : Parts → YRegisters → List (Option ℕ)
shown_registers p r = drop r.from (tags_of p 10 r.tags)

abbrev pub shown : Parts → Shape → book.Shape
shown p shape.Bare = book.bare
shown p (shape.Sized r) = book.sized (shown_registers p r)
shown p shape.Any = book.any

-- the tree of the registers is there, and no tag stands before that place
abbrev pub AreRegisters : Parts → YRegisters → Type 0
AreRegisters p r = (r.from ≤ 1024) × IsTree p 10 r.tags × (take r.from (tags_of p 10 r.tags) ≡ replicate r.from None)

abbrev pub IsShape : Parts → Shape → Type 0
IsShape p (shape.Sized r) = AreRegisters p r
IsShape p _ = Unit {0}

abbrev pub IsKnown : Parts → Option Shape → Type 0
IsKnown p (Some s) = IsShape p s
IsKnown p None = Unit {0}
