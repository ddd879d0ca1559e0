use Rattle.beam_journal.specs.Entering.{most_entries}
use Rattle.beam_replay.proofs.replaying.replay.Given as goal

abbrev pub ghosts-replay_on : goal.ghosts-replay_on
ghosts-replay_on g a = record { table = a.unbranded; limit = most_entries }
