use Rattle.beam_shapes.proofs.Registers.{none_new, shown_new}
use Rattle.beam_shapes.proofs.shape.YRegisters.new.Goals as goal

pub returns-clause-registers : goal.returns-clause-registers
returns-clause-registers c = λ p. none_new p c.args.count c.requires

pub returns-clause-shown : goal.returns-clause-shown
returns-clause-shown c = λ p. shown_new p c.args.count c.requires
