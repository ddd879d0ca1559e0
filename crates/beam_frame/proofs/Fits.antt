-- A reply that has a term which is too long is too long itself: the term's bytes are a part of its body.
use Rattle.std.proofs.Common.{ℕ, ◌<◌, arith, ◌∷◌, ◌++◌, length, length-append}
use Rattle.byteorder.specs.Endian.{big_bytes}
use Rattle.beam_term.specs.Prelude.{TermValue}
use Rattle.beam_model.specs.Prelude.{external_bytes}
use Rattle.beam_machine.specs.declared.command.Response.TheVariants.{Node}
use Rattle.beam_machine.specs.declared.event.Reply.TheVariants.{Ran}
use Rattle.beam_machine.specs.declared.event.Then.TheVariants.{Ended}
use Rattle.beam_machine.specs.Prelude.{reply_body}

pub long_reason : (count : ℕ) (reason value : TermValue) (n : ℕ) → n < length (external_bytes reason) → n < length (reply_body (Node (Ran count (Ended reason value))))
long_reason count reason value n h =
    omega (arith, length-append (3 ∷ big_bytes 4 count) ((3 ∷ external_bytes reason) ++ external_bytes value), length-append (3 ∷ external_bytes reason) (external_bytes value))

pub long_value : (count : ℕ) (reason value : TermValue) (n : ℕ) → n < length (external_bytes value) → n < length (reply_body (Node (Ran count (Ended reason value))))
long_value count reason value n h =
    omega (arith, length-append (3 ∷ big_bytes 4 count) ((3 ∷ external_bytes reason) ++ external_bytes value), length-append (3 ∷ external_bytes reason) (external_bytes value))
