use Rattle.sched_tests.proofs.limits.refusals_here.Given as goal

abbrev pub ghosts-refusals : goal.ghosts-refusals
ghosts-refusals a = record { table = a.unbranded; limit = 3 }
