-- Terms that own no memory.
use Rattle.std.specs.Prelude.{Bool, true, false}
use Rattle.beam_term.specs.Prelude.{TermValue, int_term, nil_term}

-- whether a term owns no memory: an integer or []
abbrev pub is_plain : TermValue → Bool
is_plain (int_term n) = true
is_plain nil_term = true
is_plain t = false
