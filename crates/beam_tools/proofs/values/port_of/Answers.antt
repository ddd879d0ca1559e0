use Rattle.std.proofs.Common.{arith, refl, ◌≡◌, ◌∙◌, ap, option_and_then}
use Rattle.std.specs.Str.Parse.{ParsesUnsigned, ExplainsUnsignedError, HasUnsignedDigitsIfOk}
use Rattle.clap.specs.Words.{found_of, one_of, one_text, rows_of}
use Rattle.clap.proofs.WalkLemmas.{one_text-rows}
use Rattle.beam_tools.specs.Prelude.{port_of}
use Rattle.beam_tools.proofs.Numbers.{option_read}
use Rattle.beam_tools.proofs.values.port_of.Goals as goal

pub returns : goal.returns
returns c =
    let text = one_text (found_of c.args.matches.now) c.args.id.now in
    let rows : text ≡ one_of c.args.id.now (rows_of (found_of c.args.matches.now)) = one_text-rows (found_of c.args.matches.now) c.args.id.now in
    let reads : c.get_one.result ≡ option_and_then port_of text =
    option_read 16 65535 (refl, omega arith) _ (λ bs r. ParsesUnsigned 16 10 bs r × ExplainsUnsignedError 10 bs r × HasUnsignedDigitsIfOk bs r) text c.get_one.result
    c.get_one.ensures.none c.get_one.ensures.value (λ u x g. g.0) in
    reads ∙ ap (option_and_then port_of) rows
