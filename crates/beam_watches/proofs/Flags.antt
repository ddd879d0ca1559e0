-- Which entries are flagged as kept, and where the one of a reference stands.
use Rattle.std.proofs.Common.{◌≡◌, ℕ, zero, suc, ◌+◌, ◌-◌, ◌==◌, ◌<◌, ◌≤◌, Bool, true, false, cond, not, List, [], ◌∷◌, ◌++◌, length, get_or, set, replicate, Result, Ok, Err, IfOk, IfErr, refl, sym, ap, ◌∙◌, arith, Some, None, option_map, length-append, length-set}
use mathlib.Core.Bool.{false≢true}
use Rattle.std.specs.List.Sorted.{IsSearchInRange, IsBinarySearchResult, IsNonDecreasingBy}
use Rattle.std.specs.Ordering.{ordering_index, nat_cmp}
use Rattle.std.proofs.lemmas.Bool.Decides.{nat_tests}
use Rattle.std.proofs.lemmas.Cmp.{ranked}
use Rattle.std.proofs.lemmas.List.{length-replicate, get_or_append_left, get_or_push, get_or_default, set-get_or, map-append, length-map}
use Rattle.std.proofs.lemmas.List.Sorted.{IsNonDecreasingBy-from_default}
use Rattle.beam_machine.specs.declared.process.Monitor.{Monitor}
use Rattle.beam_machine.specs.Prelude.{monitor_of, without_monitor}
use Rattle.beam_term.specs.Prelude.{TermValue, nil_term}
use Rattle.beam_watches.specs.MonitorEntries.{monitors_in, AreBelow, flagged, reference_at, AreRising, IsPlaceOf, IsAbsent, AreFlagged}

abbrev Entries : Type 0
Entries = List (ℕ × TermValue)

-- ---- no entry is of a reference

absent_rest : (e : ℕ × TermValue) (es : Entries) (n : ℕ) → IsAbsent (e ∷ es) n → IsAbsent es n
absent_rest e es n absent i within same = absent (suc i) (omega arith) same

other : (n k : ℕ) → (k ≡ n → ⊥) → (k == n) ≡ false
other n k differs = grind (arith, nat_tests, differs)

pub none_found : (n : ℕ) (es : Entries) (fs : List Bool) → IsAbsent es n → monitor_of n (monitors_in (flagged es fs)) ≡ None
none_found n [] fs absent = refl
none_found n (e ∷ es) [] absent = refl
none_found n (e ∷ es) (false ∷ fs) absent = none_found n es fs (absent_rest e es n absent)
none_found n (e ∷ es) (true ∷ fs) absent =
    let m : Monitor = record { reference = e.0; pid = e.1 } in
    ap (λ b. cond b (Some m) (monitor_of n (monitors_in (flagged es fs)))) (other n e.0 (absent 0 (omega arith))) ∙ none_found n es fs (absent_rest e es n absent)

pub none_removed : (n : ℕ) (es : Entries) (fs : List Bool) → IsAbsent es n → monitors_in (flagged es fs) ≡ without_monitor n (monitors_in (flagged es fs))
none_removed n [] fs absent = refl
none_removed n (e ∷ es) [] absent = refl
none_removed n (e ∷ es) (false ∷ fs) absent = none_removed n es fs (absent_rest e es n absent)
none_removed n (e ∷ es) (true ∷ fs) absent =
    let m : Monitor = record { reference = e.0; pid = e.1 } in
    let rest = without_monitor n (monitors_in (flagged es fs)) in
    ap (λ ms. m ∷ ms) (none_removed n es fs (absent_rest e es n absent)) ∙ sym (ap (λ b. cond (not b) (m ∷ rest) rest) (other n e.0 (absent 0 (omega arith))))

-- ---- an entry is the only one of a reference

-- no entry at another place is of the reference
abbrev IsOnly : Entries → ℕ → ℕ → Type 0
IsOnly es n i = (j : ℕ) → j < length es → reference_at es j ≡ n → j ≡ i

pub only : (es : Entries) (n i : ℕ) → AreRising es → IsPlaceOf es n i → IsOnly es n i
only es n i rising at j within same = grind (arith, rising i j, rising j i, at.within, at.same)

only_rest : (e : ℕ × TermValue) (es : Entries) (n i : ℕ) → IsOnly (e ∷ es) n (suc i) → IsOnly es n i
only_rest e es n i only j within same = omega (arith, only (suc j) (omega arith) same)

absent_after : (e : ℕ × TermValue) (es : Entries) (n : ℕ) → IsOnly (e ∷ es) n zero → IsAbsent es n
absent_after e es n only j within same = omega (arith, only (suc j) (omega arith) same)

place_rest : (e : ℕ × TermValue) (es : Entries) (n i : ℕ) → IsPlaceOf (e ∷ es) n (suc i) → IsPlaceOf es n i
place_rest e es n i at = record { within = omega (arith, at.within); same = at.same }

first_other : (e : ℕ × TermValue) (es : Entries) (n i : ℕ) → IsOnly (e ∷ es) n (suc i) → (e.0 == n) ≡ false
first_other e es n i only = other n e.0 (λ same. omega (arith, only zero (omega arith) same))

same_reference : (n k : ℕ) → k ≡ n → (k == n) ≡ true
same_reference n k same = grind (arith, nat_tests, same)

pub found : (n i : ℕ) (es : Entries) (fs : List Bool) → IsPlaceOf es n i → IsOnly es n i
    → option_map (λ m. m.pid) (monitor_of n (monitors_in (flagged es fs))) ≡ cond (get_or fs i false) (Some (get_or es i (0, nil_term)).1) None
found n i [] fs at only = absurd (omega (arith, at.within))
found n i (e ∷ es) [] at only = refl
found n zero (e ∷ es) (false ∷ fs) at only = ap (option_map (λ m. m.pid)) (none_found n es fs (absent_after e es n only))
found n zero (e ∷ es) (true ∷ fs) at only =
    let m : Monitor = record { reference = e.0; pid = e.1 } in
    ap (λ b. option_map (λ m. m.pid) (cond b (Some m) (monitor_of n (monitors_in (flagged es fs))))) (same_reference n e.0 at.same)
found n (suc i) (e ∷ es) (false ∷ fs) at only = found n i es fs (place_rest e es n i at) (only_rest e es n i only)
found n (suc i) (e ∷ es) (true ∷ fs) at only =
    let m : Monitor = record { reference = e.0; pid = e.1 } in
    ap (λ b. option_map (λ m. m.pid) (cond b (Some m) (monitor_of n (monitors_in (flagged es fs))))) (first_other e es n i only)
    ∙ found n i es fs (place_rest e es n i at) (only_rest e es n i only)

pub removed : (n i : ℕ) (es : Entries) (fs : List Bool) → IsPlaceOf es n i → IsOnly es n i
    → monitors_in (flagged es (set fs i false)) ≡ without_monitor n (monitors_in (flagged es fs))
removed n i [] fs at only = absurd (omega (arith, at.within))
removed n i (e ∷ es) [] at only = refl
removed n zero (e ∷ es) (false ∷ fs) at only = none_removed n es fs (absent_after e es n only)
removed n zero (e ∷ es) (true ∷ fs) at only =
    let m : Monitor = record { reference = e.0; pid = e.1 } in
    let rest = without_monitor n (monitors_in (flagged es fs)) in
    none_removed n es fs (absent_after e es n only) ∙ sym (ap (λ b. cond (not b) (m ∷ rest) rest) (same_reference n e.0 at.same))
removed n (suc i) (e ∷ es) (false ∷ fs) at only = removed n i es fs (place_rest e es n i at) (only_rest e es n i only)
removed n (suc i) (e ∷ es) (true ∷ fs) at only =
    let m : Monitor = record { reference = e.0; pid = e.1 } in
    let rest = without_monitor n (monitors_in (flagged es fs)) in
    ap (λ ms. m ∷ ms) (removed n i es fs (place_rest e es n i at) (only_rest e es n i only)) ∙ sym (ap (λ b. cond (not b) (m ∷ rest) rest) (first_other e es n i only))

-- an entry whose flag isn't set has no monitor to take away
pub removed_before : (n i : ℕ) (es : Entries) (fs : List Bool) → IsPlaceOf es n i → IsOnly es n i → get_or fs i false ≡ false
    → monitors_in (flagged es fs) ≡ without_monitor n (monitors_in (flagged es fs))
removed_before n i es fs at only unset =
    ap (λ l. monitors_in (flagged es l)) (sym (set-get_or fs i false) ∙ ap (λ b. set fs i b) unset) ∙ removed n i es fs at only

-- ---- how many are kept

pub cleared : (es : Entries) (fs : List Bool) (i : ℕ) → i < length es → get_or fs i false ≡ true → length (flagged es (set fs i false)) + 1 ≡ length (flagged es fs)
cleared [] fs i within flag = absurd (omega (arith, within))
cleared (e ∷ es) [] i within flag = absurd (false≢true flag)
cleared (e ∷ es) (false ∷ fs) zero within flag = absurd (false≢true flag)
cleared (e ∷ es) (true ∷ fs) zero within flag = omega arith
cleared (e ∷ es) (false ∷ fs) (suc i) within flag = cleared es fs i (omega (arith, within)) flag
cleared (e ∷ es) (true ∷ fs) (suc i) within flag = omega (arith, cleared es fs i (omega (arith, within)) flag)

pub flagged_short : (es : Entries) (fs : List Bool) → length (flagged es fs) ≤ length fs
flagged_short [] fs = omega arith
flagged_short (e ∷ es) [] = omega arith
flagged_short (e ∷ es) (false ∷ fs) = omega (arith, flagged_short es fs)
flagged_short (e ∷ es) (true ∷ fs) = omega (arith, flagged_short es fs)

pub flagged_whole : (es : Entries) → flagged es (replicate (length es) true) ≡ es
flagged_whole [] = refl
flagged_whole (e ∷ es) = ap (λ l. e ∷ l) (flagged_whole es)

pub pushed : (es : Entries) (fs : List Bool) (e : ℕ × TermValue) → length es ≡ length fs → flagged (es ++ e ∷ []) (fs ++ true ∷ []) ≡ flagged es fs ++ e ∷ []
pushed [] [] e same = refl
pushed [] (f ∷ fs) e same = absurd (omega (arith, same))
pushed (x ∷ es) [] e same = absurd (omega (arith, same))
pushed (x ∷ es) (false ∷ fs) e same = pushed es fs e (omega (arith, same))
pushed (x ∷ es) (true ∷ fs) e same = ap (λ l. x ∷ l) (pushed es fs e (omega (arith, same)))

-- ---- the references rise

rising_rest : (e : ℕ × TermValue) (es : Entries) → AreRising (e ∷ es) → AreRising es
rising_rest e es rising i j less within = rising (suc i) (suc j) (omega arith) (omega arith)

above : (k : ℕ) (es : Entries) (fs : List Bool) → ((j : ℕ) → j < length es → k < reference_at es j) → (j : ℕ) → j < length (flagged es fs) → k < reference_at (flagged es fs) j
above k [] fs greater j within = absurd (omega (arith, within))
above k (e ∷ es) [] greater j within = absurd (omega (arith, within))
above k (e ∷ es) (false ∷ fs) greater j within = above k es fs (λ l h. greater (suc l) (omega arith)) j within
above k (e ∷ es) (true ∷ fs) greater zero within = greater zero (omega arith)
above k (e ∷ es) (true ∷ fs) greater (suc j) within = above k es fs (λ l h. greater (suc l) (omega arith)) j (omega arith)

pub flagged_rising : (es : Entries) (fs : List Bool) → AreRising es → AreRising (flagged es fs)
flagged_rising [] fs rising i j less within = absurd (omega (arith, within))
flagged_rising (e ∷ es) [] rising i j less within = absurd (omega (arith, within))
flagged_rising (e ∷ es) (false ∷ fs) rising i j less within = flagged_rising es fs (rising_rest e es rising) i j less within
flagged_rising (e ∷ es) (true ∷ fs) rising i zero less within = absurd (omega (arith, less))
flagged_rising (e ∷ es) (true ∷ fs) rising zero (suc j) less within = above e.0 es fs (λ k h. rising zero (suc k) (omega arith) (omega arith)) j (omega arith)
flagged_rising (e ∷ es) (true ∷ fs) rising (suc i) (suc j) less within = flagged_rising es fs (rising_rest e es rising) i j (omega arith) (omega arith)

pub below_each : (n : ℕ) (es : Entries) → AreBelow n (monitors_in es) → (j : ℕ) → j < length es → reference_at es j < n
below_each n [] below j within = absurd (omega (arith, within))
below_each n (e ∷ es) below zero within = below.0
below_each n (e ∷ es) below (suc j) within = below_each n es below.1 j (omega arith)

-- one of a greater reference follows
pub followed : (es : Entries) (n : ℕ) (t : TermValue) → ((j : ℕ) → j < length es → reference_at es j < n) → AreRising es → AreRising (es ++ (n, t) ∷ [])
followed es n t below rising i j less within =
    let new = es ++ (n, t) ∷ [] in
    let count = length-append es ((n, t) ∷ []) in
    let old : (k : ℕ) → k < length es → reference_at new k ≡ reference_at es k = λ k h. ap (λ (e : ℕ × TermValue). e.0) (get_or_append_left es ((n, t) ∷ []) (0, nil_term) k h) in
    let last : (k : ℕ) → k ≡ length es → reference_at new k ≡ n = λ k h. ap (reference_at new) h ∙ ap (λ (e : ℕ × TermValue). e.0) (get_or_push es (n, t) (0, nil_term) (length es) refl) in
    grind (arith, old i, old j, last j, rising i j, below i)

-- ---- a search among rising references

rise : (n : ℕ) (es : Entries) → AreRising es → IsNonDecreasingBy (λ e. ordering_index (nat_cmp e.0 n)) es
rise n es rising = IsNonDecreasingBy-from_default (λ e. ordering_index (nat_cmp e.0 n)) es (0, nil_term) (λ i j le within.
    let not_less : reference_at es i ≤ reference_at es j = grind (arith, rising i j, λ (same : i ≡ j). ap (reference_at es) same) in
    grind (arith, nat_tests))

pub searched : (n : ℕ) (es : Entries) → AreRising es → (r : Result ℕ ℕ) → IsSearchInRange r (length es) → IsBinarySearchResult (λ e. nat_cmp e.0 n) es r
    → record { found : IfOk r (IsPlaceOf es n); absent : IfErr r (λ _. IsAbsent es n) }
searched n es rising (Ok at) within equal = record { found = record { within = within; same = ranked _ n _ (sym (equal (0, nil_term))) }; absent = tt }
searched n es rising (Err at) within parted = record {
  found = tt;
  absent = λ j h same.
      grind (arith, less j, greater j, h, same);
}
  where
    less : (j : ℕ) → j < at → reference_at es j < n
    less j h = ranked _ n _ (sym ((parted (rise n es rising)).0 j (0, nil_term) (omega arith) h))

    greater : (j : ℕ) → at ≤ j → j < length es → n < reference_at es j
    greater j h within = ranked _ n _ (sym ((parted (rise n es rising)).1 j (0, nil_term) h within))

-- the count of the flags that are set is that of the monitors
pub counted_monitors : (es : Entries) (fs : List Bool) (count : ℕ) → AreFlagged es fs count → count ≡ length (monitors_in (flagged es fs))
counted_monitors es fs count kept = kept.counted ∙ sym (length-map {B = Monitor} (flagged es fs) (λ (e : ℕ × TermValue). record { reference = e.0; pid = e.1 }))

-- ---- changes of the kept entries

pub flagged_past : (es : Entries) (fs : List Bool) → length fs ≡ 0 → flagged es fs ≡ []
flagged_past [] fs past = refl
flagged_past (e ∷ es) [] past = refl
flagged_past (e ∷ es) (f ∷ fs) past = absurd (omega (arith, past))

pub whole_is : (es : Entries) (fs : List Bool) (count : ℕ) → count ≡ length es → fs ≡ replicate count true → flagged es fs ≡ es
whole_is es fs count many all = ap (flagged es) (all ∙ ap (λ k. replicate k true) many) ∙ flagged_whole es

pub are_whole : (es : Entries) (fs : List Bool) (count : ℕ) → AreRising es → count ≡ length es → fs ≡ replicate count true → AreFlagged es fs count
are_whole es fs count rising many all = record {
  each = sym many ∙ sym (ap length all ∙ length-replicate count true);
  rising = rising;
  counted = many ∙ sym (ap length (whole_is es fs count many all));
}

pub are_pushed : (es : Entries) (fs : List Bool) (count : ℕ) (e : ℕ × TermValue) → AreFlagged es fs count → AreRising (es ++ e ∷ [])
    → AreFlagged (es ++ e ∷ []) (fs ++ true ∷ []) (count + 1)
are_pushed es fs count e kept rising = record {
  each = omega (arith, length-append es (e ∷ []), length-append fs (true ∷ []), kept.each);
  rising = rising;
  counted = omega (arith, kept.counted, ap length (pushed es fs e kept.each), length-append (flagged es fs) (e ∷ []));
}

pub are_cleared : (es : Entries) (fs : List Bool) (count i : ℕ) → AreFlagged es fs count → i < length es → get_or fs i false ≡ true → AreFlagged es (set fs i false) (count - 1)
are_cleared es fs count i kept within flag = record {
  each = kept.each ∙ sym (length-set fs i false);
  rising = kept.rising;
  counted = omega (arith, kept.counted, cleared es fs i within flag);
}

pub none_read : (n : ℕ) (es : Entries) (fs : List Bool) → IsAbsent es n → None ≡ option_map (λ m. m.pid) (monitor_of n (monitors_in (flagged es fs)))
none_read n es fs absent = sym (ap (option_map (λ m. m.pid)) (none_found n es fs absent))

-- of an entry at a place, whose flag was read
module _ (es : Entries) (fs : List Bool) (count n i : ℕ) (kept : AreFlagged es fs count) (at : IsPlaceOf es n i) (b : Bool) (read : b ≡ get_or fs i b) where
  spot : IsOnly es n i
  spot = only es n i kept.rising at

  flag_is : get_or fs i false ≡ b
  flag_is = get_or_default fs i false b (omega (arith, kept.each, at.within)) ∙ sym read

  pub flagged_read : (e : ℕ × TermValue) → e ≡ get_or es i e → b ≡ true → Some e.1 ≡ option_map (λ m. m.pid) (monitor_of n (monitors_in (flagged es fs)))
  flagged_read e here is =
      sym (found n i es fs at spot
      ∙ ap (λ f. cond f (Some (get_or es i (0, nil_term)).1) None) (flag_is ∙ is)
      ∙ ap (λ (x : ℕ × TermValue). Some x.1) (get_or_default es i (0, nil_term) e at.within ∙ sym here))

  pub dropped_read : b ≡ false → None ≡ option_map (λ m. m.pid) (monitor_of n (monitors_in (flagged es fs)))
  dropped_read is = sym (found n i es fs at spot ∙ ap (λ f. cond f (Some (get_or es i (0, nil_term)).1) None) (flag_is ∙ is))

  pub flagged_removed : monitors_in (flagged es (set fs i false)) ≡ without_monitor n (monitors_in (flagged es fs))
  flagged_removed = removed n i es fs at spot

  pub dropped_removed : b ≡ false → monitors_in (flagged es fs) ≡ without_monitor n (monitors_in (flagged es fs))
  dropped_removed is = removed_before n i es fs at spot (flag_is ∙ is)

  pub are_left : b ≡ true → AreFlagged es (set fs i false) (count - 1)
  are_left is = are_cleared es fs count i kept at.within (flag_is ∙ is)

  pub some_flagged : b ≡ true → 1 ≤ count
  some_flagged is = omega (arith, kept.counted, cleared es fs i at.within (flag_is ∙ is))

pub pushed_monitors : (es : Entries) (fs : List Bool) (n : ℕ) (t : TermValue) → length es ≡ length fs
    → monitors_in (flagged (es ++ (n, t) ∷ []) (fs ++ true ∷ [])) ≡ monitors_in (flagged es fs) ++ record { reference = n; pid = t } ∷ []
pushed_monitors es fs n t same =
    ap monitors_in (pushed es fs (n, t) same) ∙ map-append {B = Monitor} (λ (e : ℕ × TermValue). record { reference = e.0; pid = e.1 }) (flagged es fs) ((n, t) ∷ [])
