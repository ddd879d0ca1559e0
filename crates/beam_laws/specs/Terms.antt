-- Terms in few words.
use Prim.Native.String.{String}
use Rattle.std.specs.Prelude.{ℕ, pos, List, codes}
use Rattle.beam_term.specs.Prelude.{TermValue, int_term, atom_term, tuple_of}

abbrev pub atom : String → TermValue
atom text = atom_term (codes text)

abbrev pub integer : ℕ → TermValue
integer n = int_term (pos n)

abbrev pub tuple : List TermValue → TermValue
tuple = tuple_of
