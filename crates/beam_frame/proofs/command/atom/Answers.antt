use Rattle.beam_term.specs.declared.error.AtomError.TheVariants.{TooLong}
use Rattle.beam_frame.proofs.Bodies.{atom_there, no_text, not_error}
use Rattle.beam_frame.proofs.command.atom.Goals as goal

pub returns-in_default : goal.returns-in_default
returns-in_default c = no_text c.args.body.now c.in_default.ensures.cases.0

pub returns-in-Ok-new : goal.returns-in-Ok-new
returns-in-Ok-new c =
    atom_there c.args.body.now c.in-Ok.text.now c.in-Ok-new.atom c.in-Ok.ensures.cases.0 c.in-Ok.ensures.cases.1 (λ long. not_error c.in-Ok-new.atom TooLong (c.in-Ok-new.ensures.too_long.1 long)) c.in-Ok-new.ensures.ok
