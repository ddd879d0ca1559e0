use Rattle.beam_serve.proofs.serving.start_up.Goals as goal

pub returns-in-Some-Some : goal.returns-in-Some-Some
returns-in-Some-Some g c = record { fault = c.write_fault.ensures c.args.line.now.port }
