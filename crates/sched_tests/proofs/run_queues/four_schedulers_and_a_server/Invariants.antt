use Rattle.sched_tests.proofs.run_queues.four_schedulers_and_a_server.Given as goal

-- the queues that were just made
abbrev pub ghosts-check_counts : goal.ghosts-check_counts
ghosts-check_counts g a = record { deques = a.unbranded }
