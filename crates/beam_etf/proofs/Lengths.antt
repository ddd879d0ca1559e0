-- How many bytes the text of an atom has.
use Rattle.std.proofs.Common.{ℕ, ◌*◌, ◌≤◌, List, [], ◌∷◌, length, ap, arith, length-append}
use Rattle.std.specs.Str.{chars}
use Rattle.std.proofs.lemmas.Str.{encodes-chars, length-encode, len_utf8_bounds}
use lib.Utf8.{encode, encodes}
use Rattle.beam_term.specs.Prelude.{IsAtomText}

encodes_short : (cs : List ℕ) → length (encodes cs) ≤ 4 * length cs
encodes_short [] = omega arith
encodes_short (c ∷ cs) = omega (arith, length-append (encode c) (encodes cs), length-encode c, (len_utf8_bounds c).1, encodes_short cs)

pub atom_short : (text : List ℕ) → IsAtomText text → length text ≤ 1020
atom_short text h = omega (arith, ap length (encodes-chars text h.utf8), encodes_short (chars text), h.short)
