use Rattle.beam_replay.proofs.Pieces.{is_piece}
use Rattle.beam_replay.proofs.journal_recovery.enter_some.Goals as goal

pub returns-in-Ok : goal.returns-in-Ok
returns-in-Ok g c =
    let piece = is_piece c.in-Ok.is_over c.args.reader.now c.recall.new.events c.args.node.now c.recall.new.node c.in-Ok.ensures.those c.in-Ok.ensures.all in record {
      numbered = c.recall.ensures.numbered;
      read = piece.read;
      on = piece.on;
      over = piece.over;
      fault = tt;
    }
