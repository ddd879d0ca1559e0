-- The names of the opcodes of the profile are atoms, and name them.
use Rattle.std.proofs.Common.{◌≡◌, ◌≤◌, true, length, Some, refl, arith}
use Rattle.std.specs.Str.{is_utf8, chars}
use Rattle.std.proofs.lemmas.Str.{IsUtf8-from_is_utf8}
use Rattle.beam_model.specs.declared.opcode.Opcode.{Opcode}
use Rattle.beam_model.specs.Prelude.{name_of, opcode_named}
use Rattle.beam_term.specs.Prelude.{IsAtomText}
use Rattle.beam_model.specs.declared.opcode.Opcode.TheVariants as op

name_utf8 : (o : Opcode) → is_utf8 (name_of o) ≡ true
unfolding is_utf8 chars lib.Utf8.encode
name_utf8 op.Label = refl
name_utf8 _ = refl

name_short : (o : Opcode) → length (chars (name_of o)) ≤ 255
unfolding is_utf8 chars lib.Utf8.encode
name_short op.Label = omega arith
name_short _ = omega arith

-- some of them, as `catch`, are written in quotes
pub name_lawful : (o : Opcode) → IsAtomText (name_of o)
name_lawful o = record { utf8 = IsUtf8-from_is_utf8 (name_of o) (name_utf8 o); short = name_short o }

pub named_again : (o : Opcode) → opcode_named (name_of o) ≡ Some o
named_again op.Label = refl
named_again _ = refl
