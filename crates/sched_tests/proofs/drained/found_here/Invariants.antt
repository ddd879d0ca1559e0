use Rattle.sched_tests.proofs.drained.found_here.Given as goal

abbrev pub ghosts-found : goal.ghosts-found
ghosts-found a = record { table = a.unbranded; limit = 3 }
