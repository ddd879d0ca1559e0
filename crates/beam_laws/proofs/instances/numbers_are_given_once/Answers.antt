use Rattle.beam_laws.proofs.Numbering.{once, live_given}
use Rattle.beam_laws.proofs.instances.numbers_are_given_once.Goals as goal

pub returns-clause-once : goal.returns-clause-once
returns-clause-once c = once

pub returns-clause-given : goal.returns-clause-given
returns-clause-given c = live_given
