-- What the code's stages stand for.
use Rattle.beam_model.specs.Prelude.{Stage as TheStage, start, first_label, informed, body, body_label}
use Rattle.beam_check.specs.declared.functions.Stage.{Stage}
use Rattle.beam_check.specs.declared.functions.Stage.TheVariants.{Start, FirstLabel, Informed, Body, BodyLabel}

abbrev pub shown : Stage → TheStage
shown Start = start
shown FirstLabel = first_label
shown (Informed name arity) = informed name.now arity
shown Body = body
shown BodyLabel = body_label
