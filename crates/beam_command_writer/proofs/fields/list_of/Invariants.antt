use Rattle.std.proofs.Common.{◌≡◌, ◌++◌, drop}
use Rattle.beam_command_writer.proofs.fields.list_of.Given as goal

abbrev pub invariant-loop-term : goal.invariant-loop-term
invariant-loop-term l = l.items.items ++ drop l.term-index l.terms ≡ l.terms
