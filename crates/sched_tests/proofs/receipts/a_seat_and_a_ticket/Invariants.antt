use Rattle.sched_tests.proofs.receipts.a_seat_and_a_ticket.Given as goal

-- the table that was just made
abbrev pub ghosts-check_receipts : goal.ghosts-check_receipts
ghosts-check_receipts g a = record { table = a.unbranded; limit = 0 }
