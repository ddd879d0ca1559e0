use Rattle.beam_core.proofs.row.respond.Goals as goal

pub ask_dropping-requires-clause-slots : goal.ask_dropping-requires-clause-slots
ask_dropping-requires-clause-slots c = rw c.in-AskDropping.is at c.requires.can

pub returns-in-Sleep : goal.returns-in-Sleep
returns-in-Sleep c = rw c.in-Sleep.is c.sleep.ensures

pub returns-in-Send : goal.returns-in-Send
returns-in-Send c = rw c.in-Send.is c.send_on.ensures
