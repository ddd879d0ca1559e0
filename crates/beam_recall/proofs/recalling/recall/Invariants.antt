use Rattle.std.proofs.Common.{◌≡◌, ◌+◌, length}
use Rattle.beam_recall.specs.Recalling.{AreNumbered, EntersThose, HasSameCheckouts}
use Rattle.beam_recall.proofs.recalling.recall.Given as goal

abbrev pub invariant-loop : goal.invariant-loop
invariant-loop g l =
    AreNumbered l.node.seats l.seats.items × HasSameCheckouts l.initial.node l.node
    × EntersThose g.S.RecordedEvents.next_gives l.initial.events l.initial.node l.events l.node
    × (length l.node.journal ≡ length l.initial.node.journal + l.counter)
