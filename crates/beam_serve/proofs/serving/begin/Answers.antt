use Rattle.beam_serve.proofs.serving.begin.Goals as goal

pub returns-in-Err : goal.returns-in-Err
returns-in-Err g c = record { fault = c.in-Err.ensures.fault c.args.line.now.port }
