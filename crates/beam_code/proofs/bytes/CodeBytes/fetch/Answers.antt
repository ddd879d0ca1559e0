use Rattle.std.proofs.Common.{subst}
use Rattle.beam_code.specs.Prelude.{AreStarts}
use Rattle.beam_code.proofs.InstructionsAtStarts.{spells}
use Rattle.beam_code.proofs.bytes.CodeBytes.fetch.Goals as goal

pub returns-clause-spells : goal.returns-clause-spells
returns-clause-spells c = spells c.args.self.now (subst AreStarts c.self.view_is c.self.invariant.0) c.args.at
