use Rattle.beam_model.specs.Prelude.{text_of}
use Rattle.beam_erltext.proofs.TermRoundTrip.{text_again}
use Rattle.beam_erltext.proofs.ReadingSound.{text_spelled}
use Rattle.beam_erltext.proofs.law.printed_text_is_read.Goals as goal

pub returns-clause-read : goal.returns-clause-read
returns-clause-read c = text_again

pub returns-clause-spelled : goal.returns-clause-spelled
returns-clause-spelled c = λ t lawful printed. text_spelled (text_of t) t (text_again t lawful printed)
