use Rattle.beam_shared.specs.Prelude.{refused_now}
use Rattle.beam_shared.proofs.node.Node.refuse.Given as goal

abbrev pub ghosts-note_refused : goal.ghosts-note_refused
ghosts-note_refused g a = record { refused = refused_now a.keeper.now a.drained a.seat.now a.event.now a.refusal }
