-- The list of the processes that are checked out.
use Rattle.std.proofs.Common.{◌≡◌, ℕ, ◌==◌, ◌||◌, Bool, true, false, cond, List, [], ◌∷◌, map, Option, Some, None, refl, ap, ◌∙◌, arith, is_some}
use Rattle.std.proofs.lemmas.Bool.Decides.{nat_tests}
use Rattle.std.specs.List.{list_any}
use Rattle.beam_shared.specs.declared.checked_out.CheckoutEntry.{CheckoutEntry}
use Rattle.beam_shared.specs.Prelude.{CheckedOut, serial_of, checked_out_of, entry_of}

abbrev pub serial_in : Option CheckoutEntry → Option ℕ
serial_in None = None
serial_in (Some entry) = Some entry.serial

-- ---- the entry of a process that is checked out

found_by : (pid : ℕ) (entry : CheckoutEntry) (rest : List CheckoutEntry) (b : Bool) → serial_of pid (map checked_out_of rest) ≡ serial_in (entry_of pid rest)
    → cond b (Some entry.serial) (serial_of pid (map checked_out_of rest)) ≡ serial_in (cond b (Some entry) (entry_of pid rest))
found_by pid entry rest true e = refl
found_by pid entry rest false e = e

pub serial_found : (pid : ℕ) (entries : List CheckoutEntry) → serial_of pid (map checked_out_of entries) ≡ serial_in (entry_of pid entries)
serial_found pid [] = refl
serial_found pid (entry ∷ rest) = found_by pid entry rest (entry.pid == pid) (serial_found pid rest)

some_serial : (o : Option CheckoutEntry) → is_some (serial_in o) ≡ is_some o
some_serial None = refl
some_serial (Some entry) = refl

pub is_found : (pid : ℕ) (entries : List CheckoutEntry) → is_some (serial_of pid (map checked_out_of entries)) ≡ is_some (entry_of pid entries)
is_found pid entries = ap is_some (serial_found pid entries) ∙ some_serial (entry_of pid entries)

-- ---- events of a process that isn't checked out

same_test : (m n : ℕ) → (m == n) ≡ (n == m)
same_test m n = grind (arith, nat_tests)

free_by : (pid : ℕ) (entry : CheckoutEntry) (rest : List CheckoutEntry) (b : Bool) → is_some (cond b (Some entry.serial) (serial_of pid (map checked_out_of rest))) ≡ false
    → (is_some (serial_of pid (map checked_out_of rest)) ≡ false → list_any (λ (o : CheckedOut). pid == o.pid) (map checked_out_of rest) ≡ false) → b || list_any (λ (o : CheckedOut). pid == o.pid) (map checked_out_of rest) ≡ false
free_by pid entry rest true e more = absurd (cc e)
free_by pid entry rest false e more = more e

-- an event of its own, such as a delivery, needn't wait
pub is_free : (pid : ℕ) (entries : List CheckoutEntry) → is_some (serial_of pid (map checked_out_of entries)) ≡ false → list_any (λ (o : CheckedOut). pid == o.pid) (map checked_out_of entries) ≡ false
is_free pid [] e = refl
is_free pid (entry ∷ rest) e =
    ap (λ b. b || list_any (λ (o : CheckedOut). pid == o.pid) (map checked_out_of rest)) (same_test pid entry.pid)
    ∙ free_by pid entry rest (entry.pid == pid) e (is_free pid rest)
