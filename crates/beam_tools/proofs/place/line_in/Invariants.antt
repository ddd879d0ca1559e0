use Rattle.std.proofs.Common.{◌≡◌, ◌-◌}
use Rattle.beam_tools.specs.Prelude.{after_lines}
use Rattle.beam_tools.proofs.place.line_in.Given as goal

-- passing the lines that are left, from the rest on, leads where passing all of them leads from the text
abbrev pub invariant-loop : goal.invariant-loop
invariant-loop l = after_lines (l.number - l.counter) l.rest ≡ after_lines (l.number - 1) l.text
