use Rattle.beam_serve.proofs.serving.finish.Goals as goal

pub returns-in-Err : goal.returns-in-Err
returns-in-Err g c = record { fault = c.write_fault.ensures c.args.line.now.port }
