use Rattle.std.proofs.Common.{rules}
use Rattle.beam_etf.proofs.Texts.{text_found, text_long, text_bad}
use Rattle.beam_etf.proofs.fields.read_text.Goals as goal

pub returns-in_default : goal.returns-in_default
returns-in_default c = λ _.
    text_bad c.args.count c.args.bytes.now c.in_ok-field.field.now c.in_ok-field.rest.now c.in_ok-field.ensures.read c.in_default.ensures.cases.0

pub returns-in-Ok-new : goal.returns-in-Ok-new
returns-in-Ok-new c =
    rw (c.in-Ok-new.ensures.ok, c.in-Ok.ensures.cases.0)
    (text_found c.args.count c.args.bytes.now c.in_ok-field.field.now c.in_ok-field.rest.now c.in_ok-field.ensures.read c.in-Ok.ensures.cases.1
    (λ k. cc ((rw c.in-Ok.ensures.cases.0 at c.in-Ok-new.ensures.too_long.1) k)))

pub returns-in-Err-TooLong : goal.returns-in-Err-TooLong
returns-in-Err-TooLong c = λ _.
    text_long c.args.count c.args.bytes.now c.in_ok-field.field.now c.in_ok-field.rest.now c.in_ok-field.ensures.read c.in-Ok.ensures.cases.1
    (rw c.in-Ok.ensures.cases.0 at (c.in-Err-TooLong.ensures.too_long.0 (search rules)))
