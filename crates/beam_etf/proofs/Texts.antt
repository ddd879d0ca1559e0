-- The texts of atoms, by the tests of the code.
use Rattle.std.proofs.Common.{◌≡◌, ℕ, ◌≤◌, ◌<◌, Bool, true, false, List, length, Ok, Err, refl, arith, le-ltb, lt-ltb}
use Rattle.std.specs.Str.{is_utf8, chars, IsUtf8}
use Rattle.std.proofs.lemmas.Str.{IsUtf8-from_is_utf8, is_utf8-from_IsUtf8}
use Rattle.beam_model.specs.Prelude.{out_of_profile, bad_utf8, bytes_at, text_at}

not_utf8 : (bytes : List ℕ) → ¬ (IsUtf8 bytes) → is_utf8 bytes ≡ false
not_utf8 bytes h = by (is_utf8 bytes) refl
  where
    by : (b : Bool) → is_utf8 bytes ≡ b → is_utf8 bytes ≡ false
    by true e = absurd (h (IsUtf8-from_is_utf8 bytes e))
    by false e = e

pub text_found : (n : ℕ) (bytes front rest : List ℕ) → bytes_at n bytes ≡ Ok (front, rest) → IsUtf8 front → ¬ (255 < length (chars front)) → text_at n bytes ≡ Ok (front, rest)
unfolding text_at
text_found n bytes front rest e u k =
    let s : length (chars front) ≤ 255 = omega arith in
    rw (e, is_utf8-from_IsUtf8 front u, le-ltb 255 (length (chars front)) s) refl

pub text_long : (n : ℕ) (bytes front rest : List ℕ) → bytes_at n bytes ≡ Ok (front, rest) → IsUtf8 front → 255 < length (chars front) → text_at n bytes ≡ Err out_of_profile
unfolding text_at
text_long n bytes front rest e u s = rw (e, is_utf8-from_IsUtf8 front u, lt-ltb 255 (length (chars front)) s) refl

pub text_bad : (n : ℕ) (bytes front rest : List ℕ) → bytes_at n bytes ≡ Ok (front, rest) → ¬ (IsUtf8 front) → text_at n bytes ≡ Err bad_utf8
unfolding text_at
text_bad n bytes front rest e u = rw (e, not_utf8 front u) refl
