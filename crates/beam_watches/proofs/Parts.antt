-- Monitors in two parts, one after the other.
use Rattle.std.proofs.Common.{◌≡◌, ℕ, zero, suc, ◌-◌, ◌==◌, ◌<◌, ◌≤◌, Bool, true, false, cond, not, List, [], ◌∷◌, ◌++◌, length, filter, Option, Some, None, ap, ◌∙◌, refl, arith, option_map, length-append}
use Rattle.std.specs.Option.{option_or}
use Rattle.std.specs.List.{AllByRecursion}
use Rattle.std.proofs.lemmas.List.{get_or_append_left, get_or-append_right}
use Rattle.std.proofs.lemmas.List.Folds.{find-append}
use Rattle.beam_machine.specs.declared.process.Monitor.{Monitor}
use Rattle.beam_machine.specs.Prelude.{monitor_of, without_monitor}
use Rattle.beam_term.specs.Prelude.{TermValue, nil_term}
use Rattle.beam_watches.specs.MonitorEntries.{monitors_in, AreBelow, AreApart, AreRising, reference_at}
use Rattle.beam_watches.proofs.Flags.{below_each}

abbrev Entries : Type 0
Entries = List (ℕ × TermValue)

-- ---- the references rise through both

across : (es fs : Entries) → AreApart (monitors_in es) (monitors_in fs) → (i j : ℕ) → i < length es → j < length fs → reference_at es i < reference_at fs j
across es [] apart i j first second = absurd (omega (arith, second))
across es (f ∷ fs) apart i zero first second = below_each f.0 es apart.0 i first
across es (f ∷ fs) apart i (suc j) first second = across es fs apart.1 i j first (omega (arith, second))

pub joined_rising : (es fs : Entries) → AreRising es → AreRising fs → AreApart (monitors_in es) (monitors_in fs) → AreRising (es ++ fs)
joined_rising es fs first second apart i j less within =
    let left : (k : ℕ) → k < length es → reference_at (es ++ fs) k ≡ reference_at es k = λ k h. ap (λ (e : ℕ × TermValue). e.0) (get_or_append_left es fs (0, nil_term) k h) in
    let right : (k : ℕ) → length es ≤ k → reference_at (es ++ fs) k ≡ reference_at fs (k - length es) = λ k h. ap (λ (e : ℕ × TermValue). e.0) (get_or-append_right es fs (length es) k (0, nil_term) refl h) in
    let at = j - length es in
    grind (arith, length-append es fs, left i, left j, right i, right j, first i j, second (i - length es) at, across es fs apart i at)

-- ---- a monitor of a greater reference comes after the later part

pub below_first : (n : ℕ) (ms ns : List Monitor) → AreBelow n (ms ++ ns) → AreBelow n ms
below_first n [] ns below = tt
below_first n (m ∷ ms) ns below = (below.0, below_first n ms ns below.1)

pub below_second : (n : ℕ) (ms ns : List Monitor) → AreBelow n (ms ++ ns) → AreBelow n ns
below_second n [] ns below = below
below_second n (m ∷ ms) ns below = below_second n ms ns below.1

pub apart_pushed : (m : Monitor) (ms ns : List Monitor) → AreApart ms ns → AreBelow m.reference ms → AreApart ms (ns ++ m ∷ [])
apart_pushed m ms [] apart below = (below, tt)
apart_pushed m ms (n ∷ ns) apart below = (apart.0, apart_pushed m ms ns apart.1 below)

-- ---- a monitor is taken away

left : (P : Monitor → Type 0) (test : Monitor → Bool) (ms : List Monitor) → AllByRecursion P ms → AllByRecursion P (filter test ms)
left P test [] all = tt
left P test (m ∷ ms) all = by (test m) (left P test ms all.1)
  where
    by : (b : Bool) → AllByRecursion P (filter test ms) → AllByRecursion P (cond b (m ∷ filter test ms) (filter test ms))
    by true rest = (all.0, rest)
    by false rest = rest

apart_first : (n : ℕ) (ms ns : List Monitor) → AreApart ms ns → AreApart (without_monitor n ms) ns
apart_first n ms [] apart = tt
apart_first n ms (m ∷ ns) apart = (left (λ k. k.reference < m.reference) (λ k. not (k.reference == n)) ms apart.0, apart_first n ms ns apart.1)

pub apart_removed : (n : ℕ) (ms ns : List Monitor) → AreApart ms ns → AreApart (without_monitor n ms) (without_monitor n ns)
apart_removed n ms ns apart = left (λ m. AreBelow m.reference (without_monitor n ms)) (λ m. not (m.reference == n)) ns (apart_first n ms ns apart)

-- ---- a monitor is looked for

mapped : (o p : Option Monitor) → option_map (λ m. m.pid) (option_or o p) ≡ option_or (option_map (λ m. m.pid) o) (option_map (λ m. m.pid) p)
mapped None p = refl
mapped (Some m) p = refl

pub read_both : (n : ℕ) (ms ns : List Monitor)
    → option_map (λ m. m.pid) (monitor_of n (ms ++ ns)) ≡ option_or (option_map (λ m. m.pid) (monitor_of n ms)) (option_map (λ m. m.pid) (monitor_of n ns))
read_both n ms ns = ap (option_map (λ m. m.pid)) (find-append (λ m. m.reference == n) ms ns) ∙ mapped (monitor_of n ms) (monitor_of n ns)
