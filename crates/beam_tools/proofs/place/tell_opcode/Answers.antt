use Rattle.std.proofs.Common.{rules, ◌≡◌, ◌∙◌, ap, codes, ℕ, List, ◌++◌}
use Rattle.std.specs.Fmt.{decimal}
use Rattle.std.specs.Io.KnownBytes.{append_known}
use Rattle.beam_tools.specs.Prelude.{newline, byte_text}
use Rattle.beam_tools.proofs.AppendedTexts.{one_three}
use Rattle.beam_tools.proofs.place.tell_opcode.Goals as goal

pub returns : goal.returns
returns g c =
    let number : c.as_bytes-number.result.now ≡ decimal c.args.opcode = search rules in
    c.tell_three.ensures ∙ ap (λ (t : List ℕ). append_known (g.E.Errors.told c.tell_byte.new.errors) (codes ": opcode " ++ t ++ newline)) number
    ∙ ap (λ told. append_known told (codes ": opcode " ++ decimal c.args.opcode ++ newline)) c.tell_byte.ensures
    ∙ one_three (g.E.Errors.told c.args.errors.now) (byte_text c.args.at) (codes ": opcode ") (decimal c.args.opcode) newline
