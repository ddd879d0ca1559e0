use Rattle.std.proofs.Common.{◌∙◌, ap, codes, ◌++◌}
use Rattle.std.specs.Fmt.{decimal}
use Rattle.std.specs.Io.KnownBytes.{append_known}
use Rattle.beam_tools.specs.Prelude.{newline}
use Rattle.beam_tools.proofs.AppendedTexts.{three}
use Rattle.beam_tools.proofs.place.tell_bad.Goals as goal

pub returns : goal.returns
returns g c =
    let byte = codes "  byte " ++ decimal c.args.at in
    let number = codes ", entry " ++ decimal c.args.entry in
    c.tell.ensures ∙ ap (λ told. append_known told newline) c.tell_number-2.ensures
    ∙ ap (λ told. append_known (append_known told number) newline) c.tell_number.ensures
    ∙ three (g.E.Errors.told c.args.errors.now) byte number newline
