use Rattle.std.proofs.Common.{◌≡◌, ◌-◌, length}
use Rattle.beam_model.specs.Prelude.{with_front, quoted_within, quoted_at}
use Rattle.beam_erltext.proofs.token.read_quoted.Given as goal

abbrev pub invariant-loop : goal.invariant-loop
invariant-loop l = with_front l.content.items (quoted_within (length l.text - l.counter) l.quote l.rest) ≡ quoted_at l.quote l.text
