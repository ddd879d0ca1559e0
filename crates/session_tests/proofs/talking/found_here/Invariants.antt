use Rattle.beam_journal.specs.Entering.{most_entries}
use Rattle.session_tests.proofs.talking.found_here.Given as goal

abbrev pub ghosts-found-B-NodeBrand : goal.ghosts-found-B-NodeBrand
ghosts-found-B-NodeBrand g a = record { table = a.unbranded; limit = most_entries }

abbrev pub ghosts-found-B-QueueBrand : goal.ghosts-found-B-QueueBrand
ghosts-found-B-QueueBrand g a = record { deques = a.queues }
