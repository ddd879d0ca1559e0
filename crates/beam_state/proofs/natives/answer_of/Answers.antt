use Rattle.beam_state.proofs.Monitored.{gives_makes}
use Rattle.beam_state.proofs.natives.answer_of.Goals as goal

pub returns-in-Spawn : goal.returns-in-Spawn
returns-in-Spawn c = rw c.in-Spawn.is (gives_makes _ _ _ _ _ (c.spawn.ensures c.args.references.now c.args.caller))

pub returns-in-Register : goal.returns-in-Register
returns-in-Register c = rw c.in-Register.is (gives_makes _ _ _ _ _ (c.register.ensures c.args.references.now c.args.caller))

pub returns-in-Unregister : goal.returns-in-Unregister
returns-in-Unregister c = rw c.in-Unregister.is (gives_makes _ _ _ _ _ (c.unregister.ensures c.args.references.now c.args.caller))

pub returns-in-Whereis : goal.returns-in-Whereis
returns-in-Whereis c = rw c.in-Whereis.is (gives_makes _ _ _ _ _ (c.whereis.ensures c.args.references.now c.args.caller))

pub returns-in-IsProcessAlive : goal.returns-in-IsProcessAlive
returns-in-IsProcessAlive c = rw c.in-IsProcessAlive.is (gives_makes _ _ _ _ _ (c.is_process_alive.ensures c.args.references.now c.args.caller))

pub returns-in-Exit : goal.returns-in-Exit
returns-in-Exit c = gives_makes _ _ _ _ _ (c.send_one.ensures c.args.references.now)

pub returns-in-Send : goal.returns-in-Send
returns-in-Send c = gives_makes _ _ _ _ _ (c.send_one-in-Send.ensures c.args.references.now)

pub returns-in-Monitor : goal.returns-in-Monitor
returns-in-Monitor c = rw c.in-Monitor.is c.monitor.ensures
