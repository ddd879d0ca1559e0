use Rattle.beam_streams.proofs.stream_session.pipe_over.Given as goal

abbrev pub ghosts-pipe_from : goal.ghosts-pipe_from
ghosts-pipe_from g a = record { remaining = g.I.Read.remaining a.input; contents = g.O.Write.contents a.output }
