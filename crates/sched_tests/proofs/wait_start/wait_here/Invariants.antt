use Rattle.beam_journal.specs.Entering.{most_entries}
use Rattle.sched_tests.proofs.wait_start.wait_here.Given as goal

abbrev pub ghosts-wait_once-B-NodeBrand : goal.ghosts-wait_once-B-NodeBrand
ghosts-wait_once-B-NodeBrand g a = record { table = a.unbranded; limit = most_entries }

abbrev pub ghosts-wait_once-B-QueueBrand : goal.ghosts-wait_once-B-QueueBrand
ghosts-wait_once-B-QueueBrand g a = record { deques = a.queues }
