use Rattle.beam_machine.specs.declared.debug.DebugEvent.TheVariants.{Node}
use Rattle.beam_serve.proofs.NodeStart.{kept_if_reply}
use Rattle.beam_serve.proofs.loading.apply_event.Goals as goal

pub returns-in-None : goal.returns-in-None
returns-in-None g c = record { kept = kept_if_reply c.args.desk.now c.command.new.self (Node c.args.event) c.command.result c.command.ensures (c.refusal_in.ensures c.in-None.is) }
