use Rattle.std.specs.Prelude.{min}
use Rattle.beam_journal.specs.Entering.{most_entries}
use Rattle.sched_tests.proofs.shared.closed_here.Given as goal

abbrev pub ghosts-play-B-NodeBrand : goal.ghosts-play-B-NodeBrand
ghosts-play-B-NodeBrand g a = record { table = a.unbranded; limit = min a.scenario.limit most_entries }

abbrev pub ghosts-play-B-QueueBrand : goal.ghosts-play-B-QueueBrand
ghosts-play-B-QueueBrand g a = record { deques = a.queues }
