use Rattle.sched_tests.proofs.receipts.a_drain_receipt.Given as goal

-- the table that was just made
abbrev pub ghosts-check_drain : goal.ghosts-check_drain
ghosts-check_drain g a = record { table = a.unbranded; limit = 0 }
