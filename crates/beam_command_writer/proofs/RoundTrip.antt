-- A body that spells its command is read as it, and a frame of it as this command before what follows: its length is read back.
use Rattle.std.proofs.Common.{◌≡◌, ℕ, ◌≤◌, List, ◌∷◌, ◌++◌, length, Option, Some, None, refl, ap, ◌∙◌, append_assoc, length-append, arith, le-ltb, take_at, drop_at}
use Rattle.std.specs.Option.{option_and_then}
use Rattle.byteorder.specs.Endian.{big_bytes}
use Rattle.byteorder.specs.Numbers.{big_number-reads_back, length-bytes_high_first}
use Rattle.beam_machine.specs.declared.command.CommandKind.{CommandKind}
use Rattle.beam_machine.specs.Prelude.{Command, SpellsCommand, kind_of, command_in, command_of, longest_frame, one_frame, of_kind, frame_content, after_length, frame_in, frame_of}
use Rattle.beam_frame.proofs.Spelling.{read_again}
use Rattle.beam_command_writer.specs.Bodies.{kind_number, command_body}

pub body_again : (c : Command) → SpellsCommand (kind_number c) (command_body c) c → command_of (kind_number c) (command_body c) ≡ Some c
body_again c spelled = read_again (kind_number c) (command_body c) c spelled

found : (o : Option CommandKind) (body rest : List ℕ) (c : Command) → option_and_then (λ kind. command_in kind body) o ≡ Some c → of_kind o body rest ≡ one_frame c rest
found None body rest c e = absurd cc
found (Some kind) body rest c e = rw e refl

after_again : (content more : List ℕ) → length content ≤ longest_frame → after_length (length content) (content ++ more) ≡ frame_content content more
unfolding after_length
after_again content more short =
    let whole : length content ≤ length (content ++ more) = omega (arith, length-append content more) in
    rw (le-ltb longest_frame (length content) short, le-ltb (length (content ++ more)) (length content) whole, take_at content more (length content) refl, drop_at content more (length content) refl) refl

in_frame : (content more : List ℕ) → length content ≤ longest_frame → frame_in (frame_of content ++ more) ≡ frame_content content more
unfolding frame_in
in_frame content more short =
    let field = big_bytes 4 (length content) in
    let wide : length field ≡ 4 = length-bytes_high_first 4 (length content) in
    let parts : frame_of content ++ more ≡ field ++ (content ++ more) = append_assoc field content more in
    let long : 4 ≤ length (field ++ (content ++ more)) = omega (arith, wide, length-append field (content ++ more)) in
    ap frame_in parts
    ∙ rw (le-ltb (length (field ++ (content ++ more))) 4 long, big_number-reads_back 4 (length content) (content ++ more) (omega arith), drop_at field (content ++ more) 4 wide)
    (after_again content more short)

pub frame_again : (c : Command) (more : List ℕ) → SpellsCommand (kind_number c) (command_body c) c → length (kind_number c ∷ command_body c) ≤ longest_frame
    → frame_in (frame_of (kind_number c ∷ command_body c) ++ more) ≡ one_frame c more
frame_again c more spelled short =
    in_frame (kind_number c ∷ command_body c) more short ∙ found (kind_of (kind_number c)) (command_body c) more c (body_again c spelled)
