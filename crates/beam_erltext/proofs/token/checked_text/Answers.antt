use Rattle.std.proofs.lemmas.Str.{is_utf8-from_IsUtf8}
use Rattle.beam_erltext.proofs.Texts.{isnt_utf8}
use Rattle.beam_erltext.proofs.token.checked_text.Goals as goal

pub returns-in-Ok : goal.returns-in-Ok
returns-in-Ok c = (is_utf8-from_IsUtf8 c.args.bytes.now c.in-Ok.ensures.cases.1, c.in-Ok.ensures.cases.0)

pub returns-in-Err : goal.returns-in-Err
returns-in-Err c = isnt_utf8 c.args.bytes.now c.in-Err.ensures.cases.0
