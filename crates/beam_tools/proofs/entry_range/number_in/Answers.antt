use Rattle.std.proofs.Common.{arith, None, Some}
use Rattle.std.specs.Str.Parse.{ParsesUnsigned, ExplainsUnsignedError, HasUnsignedDigitsIfOk}
use Rattle.beam_tools.proofs.Numbers.{number_read}
use Rattle.beam_tools.proofs.entry_range.number_in.Goals as goal

pub returns-in-Ok : goal.returns-in-Ok
returns-in-Ok c =
    number_read 32 4294967295 (omega arith, omega arith) _ (λ bs r. ParsesUnsigned 32 10 bs r × ExplainsUnsignedError 10 bs r × HasUnsignedDigitsIfOk bs r)
    c.args.text.now (Some c.in-Ok.number) c.in-Ok.ensures.value (λ u x g. g.0)

pub returns-in-Err : goal.returns-in-Err
returns-in-Err c =
    number_read 32 4294967295 (omega arith, omega arith) _ (λ bs r. ParsesUnsigned 32 10 bs r × ExplainsUnsignedError 10 bs r × HasUnsignedDigitsIfOk bs r)
    c.args.text.now None (c.in-Err.field-0, c.in-Err.ensures.value) (λ u x g. g.0)
