use Rattle.beam_shared.proofs.node.Node.check_in.Given as goal

abbrev pub ghosts-check_in : goal.ghosts-check_in
ghosts-check_in g a = record { pid = a.pid }
