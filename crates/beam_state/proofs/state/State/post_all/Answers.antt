use Rattle.beam_state.proofs.Posted.{posting_lawful}
use Rattle.beam_state.proofs.state.State.post_all.Goals as goal

pub invariant_of-self : goal.invariant_of-self
invariant_of-self c = posting_lawful c.self.inside.references c.post_all.result c.self.inside.processes c.post_all.new.processes c.args.sent.now c.post_all.ensures.ok c.post_all.ensures.err c.self.invariant
