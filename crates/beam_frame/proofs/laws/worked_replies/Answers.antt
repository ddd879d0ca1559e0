use Rattle.beam_frame.proofs.Worked.{ended_reply, started_reply, loaded_reply, upgraded_reply, busy_reply, full_reply, kind_reply}
use Rattle.beam_frame.proofs.laws.worked_replies.Goals as goal

pub returns : goal.returns
returns c = record {
  ended = ended_reply;
  started = started_reply;
  loaded = loaded_reply;
  upgraded = upgraded_reply;
  busy = busy_reply;
  full = full_reply;
  kind = kind_reply;
}
