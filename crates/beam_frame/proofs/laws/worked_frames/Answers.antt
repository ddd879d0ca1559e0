use Rattle.beam_frame.proofs.Worked.{steps_frame, versions_frame, spawn_body, upgrade_frame, cut_file, empty_frame, unknown_frame, long_frame, cut_body}
use Rattle.beam_frame.proofs.laws.worked_frames.Goals as goal

pub returns : goal.returns
returns c = record {
  steps = steps_frame;
  versions = versions_frame;
  spawn = spawn_body;
  upgrade = upgrade_frame;
  empty = empty_frame;
  kind = unknown_frame;
  long = long_frame;
  cut = cut_body;
  cut_file = cut_file;
}
