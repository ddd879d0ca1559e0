use Rattle.std.proofs.Common.{◌≡◌, drop}
use Rattle.std.specs.Prelude.{◌&&◌}
use Rattle.std.specs.Str.{bytes_eq}
use Rattle.beam_http.proofs.text.is_same.Given as goal

-- what was compared and what is left decide as the whole
abbrev pub invariant-loop-i : goal.invariant-loop-i
invariant-loop-i l = (l.is_same && bytes_eq (drop l.i l.one) (drop l.i l.other)) ≡ bytes_eq l.one l.other
