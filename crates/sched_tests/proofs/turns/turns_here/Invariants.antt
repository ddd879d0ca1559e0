use Rattle.beam_journal.specs.Entering.{most_entries}
use Rattle.sched_tests.proofs.turns.turns_here.Given as goal

abbrev pub ghosts-turns_after-B-NodeBrand : goal.ghosts-turns_after-B-NodeBrand
ghosts-turns_after-B-NodeBrand a = record { table = a.unbranded; limit = most_entries }

abbrev pub ghosts-turns_after-B-QueueBrand : goal.ghosts-turns_after-B-QueueBrand
ghosts-turns_after-B-QueueBrand a = record { deques = a.queues }
