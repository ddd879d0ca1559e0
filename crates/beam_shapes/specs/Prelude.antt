-- The definitions of this crate that specs and proofs above cite, passed on from one place. Declares nothing.
pub use Rattle.beam_shapes.specs.Forced.{AreLookedAt, BeginBare, BeginBelow, BeginsAt, BeginsIf, Does, Fails, FitsAt, Flows, FlowsAt, FlowsIf, Forces, IsAssignment, IsBelow, Joins, Leaves, LiesUnder, MayGo, NeverLeaves, Refuses, Rises, Settles, ShapeState, Spreads, Unites, Waits, assigned, room, room_of}
pub use Rattle.beam_shapes.specs.OperandRoles.{is_of, is_some_of, may_name, may_name_some, named, numbers_in, numbers_of}
pub use Rattle.beam_shapes.specs.Shown.{AreRegisters, IsKnown, IsShape, IsSmall, shown, shown_effect, shown_registers}
pub use Rattle.beam_shapes.specs.Tabled.{HasRows, row_after_label}
pub use Rattle.beam_shapes.specs.Trees.{AreDistinct, Grows, IsAbsent, IsInterned, IsTidy, Parts, halves_of, no_halves, part_of}
unfoldable pub use Rattle.beam_shapes.specs.Trees.{IsTree, tags_of}
