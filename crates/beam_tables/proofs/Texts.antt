-- Bytes that are UTF-8, and how many characters they spell.
use Rattle.std.proofs.Common.{◌≡◌, ◌≤◌, ℕ, Bool, true, false, List, ◌∷◌, length, Ok, refl, arith, ap, le-ltb}
use Rattle.std.specs.Str.{is_utf8, IsUtf8, chars}
use Rattle.beam_model.specs.Prelude.{utf8_text, atom_bytes}
use Rattle.std.proofs.lemmas.Str.{IsUtf8-from_is_utf8, is_utf8-from_IsUtf8, encodes-chars, length-le-encodes}

refuted : (b : Bool) → (b ≡ true → ⊥) → b ≡ false
refuted true h = absurd (h refl)
refuted false h = refl

pub same_text : (bytes : List ℕ) → IsUtf8 bytes → is_utf8 bytes ≡ true
same_text bytes h = is_utf8-from_IsUtf8 bytes h

pub is_no_text : (bytes : List ℕ) → ¬ (IsUtf8 bytes) → is_utf8 bytes ≡ false
is_no_text bytes h = refuted (is_utf8 bytes) (λ e. h (IsUtf8-from_is_utf8 bytes e))

-- a character has at least one byte
pub length-chars-le : (bytes : List ℕ) → IsUtf8 bytes → length (chars bytes) ≤ length bytes
length-chars-le bytes h = omega (arith, length-le-encodes (chars bytes), ap length (encodes-chars bytes h))

pub ruleset texts = (same_text, is_no_text)

-- an atom of at most 255 bytes can be written
pub written : (text : List ℕ) → IsUtf8 text → length text ≤ 255 → atom_bytes text ≡ Ok (length text ∷ text)
unfolding atom_bytes utf8_text
written text utf8 short = rw (le-ltb 255 (length text) short, same_text text utf8) refl
