use Rattle.beam_state.proofs.natives.sending.Goals as goal

pub returns-in-Exit : goal.returns-in-Exit
returns-in-Exit c = λ references. rw c.in-Exit.is (c.exit.ensures references c.args.processes.now)

pub returns-in-Send : goal.returns-in-Send
returns-in-Send c = λ references. rw c.in-Send.is (c.send.ensures references c.args.caller)
