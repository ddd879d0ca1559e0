-- Entries made of numbers and times.
use Rattle.std.proofs.Common.{◌≡◌, ℕ, zero, suc, ◌+◌, ◌<◌, ◌≤◌, Bool, true, false, cond, nat_le, List, [], ◌∷◌, ◌++◌, length, drop, slice_get, refl, sym, ap, subst, ◌∙◌, length-append, arith, Option, Some, None, option_map, IfSome}
use Rattle.std.proofs.Math.ListN.{set}
use Rattle.std.specs.Int.{from_bool}
use Rattle.beam_agenda.specs.declared.entry.AgendaEntry.{AgendaEntry}
use Rattle.beam_agenda.specs.Prelude.{earlier, is_due_by, first_of, first_ready, least_time, with_position, least_due, is_set, least_of, entries_of, Covers, first_position, position_from}
use Rattle.beam_agenda.proofs.Pairing.{nat_le_false, earlier_none, earlier_of_three}
use Rattle.beam_agenda.proofs.Positions.{add_none, all_within}

-- ---- their count

pub length-entries_of : (ns : List ℕ) (ts : List (Option ℕ)) → Covers ns ts → length (entries_of ns ts) ≡ length ts
length-entries_of [] [] h = refl
length-entries_of [] (t ∷ ts) h = absurd h
length-entries_of (n ∷ ns) [] h = refl
length-entries_of (n ∷ ns) (t ∷ ts) h = ap suc (length-entries_of ns ts h)

pub length-Covers : (ns : List ℕ) (ts : List (Option ℕ)) → Covers ns ts → length ts ≤ length ns
length-Covers [] [] h = omega arith
length-Covers [] (t ∷ ts) h = absurd h
length-Covers (n ∷ ns) [] h = omega arith
length-Covers (n ∷ ns) (t ∷ ts) h = omega (arith, length-Covers ns ts h)

-- ---- an entry that changes

pub set_as : (t : Bool) → is_set (from_bool t) ≡ t
set_as true = refl
set_as false = refl

pub set_same : (ts : List (Option ℕ)) (i : ℕ) (t : Option ℕ) → Some t ≡ slice_get ts i → ts ≡ set ts i t
set_same [] i t h = refl
set_same (u ∷ ts) zero t h = let same : u ≡ t = cc in ap (λ t. t ∷ ts) same
set_same (u ∷ ts) (suc i) t h = ap (λ ts. u ∷ ts) (set_same ts i t h)

pub entries_of-set : (ns : List ℕ) (ts : List (Option ℕ)) (i n : ℕ) (due : Option ℕ) → entries_of (set ns i n) (set ts i due) ≡ set (entries_of ns ts) i (record { ready = is_set n; due = due })
entries_of-set [] ts i n due = refl
entries_of-set (m ∷ ns) [] zero n due = refl
entries_of-set (m ∷ ns) [] (suc i) n due = refl
entries_of-set (m ∷ ns) (t ∷ ts) zero n due = refl
entries_of-set (m ∷ ns) (t ∷ ts) (suc i) n due = ap (λ es. record { ready = is_set m; due = t } ∷ es) (entries_of-set ns ts i n due)

pub changed : (ns : List ℕ) (ts : List (Option ℕ)) (i : ℕ) (e : AgendaEntry) → entries_of (set ns i (from_bool e.ready)) (set ts i e.due) ≡ set (entries_of ns ts) i e
changed ns ts i e = entries_of-set ns ts i (from_bool e.ready) e.due ∙ ap (λ ready. set (entries_of ns ts) i (record { ready = ready; due = e.due })) (set_as e.ready)

pub Covers-set : (ns : List ℕ) (ts : List (Option ℕ)) (i n : ℕ) (due : Option ℕ) → i < length ts → Covers ns ts → Covers (set ns i n) (set ts i due)
Covers-set [] ts i n due l h = absurd (omega (arith, length-Covers [] ts h))
Covers-set (m ∷ ns) [] i n due l h = absurd (omega arith)
Covers-set (m ∷ ns) (t ∷ ts) zero n due l h = h
Covers-set (m ∷ ns) (t ∷ ts) (suc i) n due l h = Covers-set ns ts i n due (omega arith) h

-- ---- one entry more

pub entries_of-append : (ns : List ℕ) (ts : List (Option ℕ)) → Covers ns ts → entries_of (ns ++ 0 ∷ []) ts ≡ entries_of ns ts
entries_of-append [] [] h = refl
entries_of-append [] (t ∷ ts) h = absurd h
entries_of-append (n ∷ ns) [] h = refl
entries_of-append (n ∷ ns) (t ∷ ts) h = ap (λ es. record { ready = is_set n; due = t } ∷ es) (entries_of-append ns ts h)

pub Covers-append : (ns : List ℕ) (ts : List (Option ℕ)) → Covers ns ts → Covers (ns ++ 0 ∷ []) ts
Covers-append [] [] h = (refl, tt)
Covers-append [] (t ∷ ts) h = absurd h
Covers-append (n ∷ ns) [] h = (h.0, Covers-append ns [] h.1)
Covers-append (n ∷ ns) (t ∷ ts) h = Covers-append ns ts h

pub entries_of-push : (ns : List ℕ) (ts : List (Option ℕ)) (n : ℕ) (due : Option ℕ) → length ts < length ns
    → entries_of (set ns (length ts) n) (ts ++ due ∷ []) ≡ entries_of ns ts ++ record { ready = is_set n; due = due } ∷ []
entries_of-push [] ts n due l = absurd (omega arith)
entries_of-push (m ∷ ns) [] n due l = ap (λ es. record { ready = is_set n; due = due } ∷ es) (none ns)
  where
    none : (ns : List ℕ) → entries_of ns [] ≡ []
    none [] = refl
    none (n ∷ ns) = refl
entries_of-push (m ∷ ns) (t ∷ ts) n due l = ap (λ es. record { ready = is_set m; due = t } ∷ es) (entries_of-push ns ts n due (omega arith))

pub pushed : (ns : List ℕ) (ts : List (Option ℕ)) (e : AgendaEntry) → length ts < length ns → entries_of (set ns (length ts) (from_bool e.ready)) (ts ++ e.due ∷ []) ≡ entries_of ns ts ++ e ∷ []
pushed ns ts e l = entries_of-push ns ts (from_bool e.ready) e.due l ∙ ap (λ ready. entries_of ns ts ++ record { ready = ready; due = e.due } ∷ []) (set_as e.ready)

pub Covers-push : (ns : List ℕ) (ts : List (Option ℕ)) (n : ℕ) (due : Option ℕ) → length ts < length ns → Covers ns ts → Covers (set ns (length ts) n) (ts ++ due ∷ [])
Covers-push [] ts n due l h = absurd (omega arith)
Covers-push (m ∷ ns) [] n due l h = h.1
Covers-push (m ∷ ns) (t ∷ ts) n due l h = Covers-push ns ts n due (omega arith) h

-- room for one more entry
abbrev pub Room : List ℕ → List (Option ℕ) → List AgendaEntry → Type 0
Room ns ts es = Covers ns ts × (length ts < length ns) × (entries_of ns ts ≡ es)

pub room_made : (ns : List ℕ) (ts : List (Option ℕ)) (new : List ℕ) → Covers ns ts → new ≡ cond (nat_le (length ns) (length ts)) (ns ++ 0 ∷ []) ns → Room new ts (entries_of ns ts)
room_made ns ts new h e = at (nat_le (length ns) (length ts)) refl e
  where
    at : (t : Bool) → nat_le (length ns) (length ts) ≡ t → new ≡ cond t (ns ++ 0 ∷ []) ns → Room new ts (entries_of ns ts)
    at true l e = subst (λ ns'. Room ns' ts (entries_of ns ts)) (sym e) (Covers-append ns ts h, omega (arith, length-Covers ns ts h, length-append ns (0 ∷ [])), entries_of-append ns ts h)
    at false l e = subst (λ ns'. Room ns' ts (entries_of ns ts)) (sym e) (h, nat_le_false (length ns) (length ts) l, refl)

pub least_of-append : (ts : List (Option ℕ)) (due : Option ℕ) → least_of (ts ++ due ∷ []) ≡ earlier (least_of ts) due
least_of-append [] due = earlier_none due
least_of-append (t ∷ ts) due = ap (earlier t) (least_of-append ts due) ∙ sym (earlier_of_three t (least_of ts) due)

-- ---- what comes first

first_of_is : (test : AgendaEntry → Bool) (es : List AgendaEntry) → first_of test es ≡ first_position test es
first_of_is test [] = refl
first_of_is test (e ∷ rest) = ap (λ o. cond (test e) (Some 0) (option_map (λ n. n + 1) o)) (first_of_is test rest)

none_set : (ns : List ℕ) → Covers ns [] → first_position is_set ns ≡ None
none_set [] h = refl
none_set (n ∷ ns) h = ap (λ n. cond (is_set n) (Some 0) (option_map (λ n. n + 1) (first_position is_set ns))) h.0 ∙ ap (option_map (λ n. n + 1)) (none_set ns h.1)

first_ready_of : (ns : List ℕ) (ts : List (Option ℕ)) → Covers ns ts → first_position is_set ns ≡ first_of (λ e. e.ready) (entries_of ns ts)
first_ready_of [] [] h = refl
first_ready_of [] (t ∷ ts) h = absurd h
first_ready_of (n ∷ ns) [] h = none_set (n ∷ ns) h
first_ready_of (n ∷ ns) (t ∷ ts) h = ap (λ o. cond (is_set n) (Some 0) (option_map (λ n. n + 1) o)) (first_ready_of ns ts h)

drop-entries_of : (from : ℕ) (ns : List ℕ) (ts : List (Option ℕ)) → drop from (entries_of ns ts) ≡ entries_of (drop from ns) (drop from ts)
drop-entries_of zero ns ts = refl
drop-entries_of (suc from) [] ts = refl
drop-entries_of (suc from) (n ∷ ns) [] = none (drop from ns)
  where
    none : (ns : List ℕ) → [] ≡ entries_of ns []
    none [] = refl
    none (n ∷ ns) = refl
drop-entries_of (suc from) (n ∷ ns) (t ∷ ts) = drop-entries_of from ns ts

Covers-drop : (from : ℕ) (ns : List ℕ) (ts : List (Option ℕ)) → Covers ns ts → Covers (drop from ns) (drop from ts)
Covers-drop zero ns ts h = h
Covers-drop (suc from) [] [] h = tt
Covers-drop (suc from) [] (t ∷ ts) h = absurd h
Covers-drop (suc from) (n ∷ ns) [] h = rest from ns h.1
  where
    rest : (from : ℕ) (ns : List ℕ) → Covers ns [] → Covers (drop from ns) []
    rest zero ns h = h
    rest (suc from) [] h = tt
    rest (suc from) (n ∷ ns) h = rest from ns h.1
Covers-drop (suc from) (n ∷ ns) (t ∷ ts) h = Covers-drop from ns ts h

pub ready_from : (from : ℕ) (ns : List ℕ) (ts : List (Option ℕ)) → Covers ns ts → position_from is_set from ns ≡ first_ready from (entries_of ns ts)
ready_from from ns ts h =
    ap (option_map (λ n. from + n)) (first_ready_of (drop from ns) (drop from ts) (Covers-drop from ns ts h)
    ∙ ap (first_of (λ e. e.ready)) (sym (drop-entries_of from ns ts)))

pub ready_within : (from : ℕ) (es : List AgendaEntry) (o : Option ℕ) → o ≡ first_ready from es → IfSome o (λ n. n < length es)
ready_within from es o h = all_within (λ e. e.ready) from es o (h ∙ ap (option_map (λ n. from + n)) (first_of_is (λ e. e.ready) (drop from es)))

-- ---- what is due first

least_time_of : (ns : List ℕ) (ts : List (Option ℕ)) → Covers ns ts → least_of ts ≡ least_time (entries_of ns ts)
least_time_of [] [] h = refl
least_time_of [] (t ∷ ts) h = absurd h
least_time_of (n ∷ ns) [] h = refl
least_time_of (n ∷ ns) (t ∷ ts) h = ap (earlier t) (least_time_of ns ts h)

first_due_of : (by : ℕ) (ns : List ℕ) (ts : List (Option ℕ)) → Covers ns ts → first_position (is_due_by by) ts ≡ first_of (λ e. is_due_by by e.due) (entries_of ns ts)
first_due_of by [] [] h = refl
first_due_of by [] (t ∷ ts) h = absurd h
first_due_of by (n ∷ ns) [] h = refl
first_due_of by (n ∷ ns) (t ∷ ts) h = ap (λ o. cond (is_due_by by t) (Some 0) (option_map (λ n. n + 1) o)) (first_due_of by ns ts h)

pub no_least : (ns : List ℕ) (ts : List (Option ℕ)) → Covers ns ts → None ≡ least_of ts → None ≡ least_due (entries_of ns ts)
no_least ns ts h l = ap (with_position (entries_of ns ts)) (l ∙ least_time_of ns ts h)

pub least_is : (at : ℕ) (o : Option ℕ) (ns : List ℕ) (ts : List (Option ℕ)) → Covers ns ts → Some at ≡ least_of ts → o ≡ position_from (is_due_by at) 0 ts
    → option_map (λ n. (at, n)) o ≡ least_due (entries_of ns ts)
least_is at o ns ts h l f =
    let place : o ≡ first_of (λ e. is_due_by at e.due) (entries_of ns ts) = f ∙ (add_none (first_position (is_due_by at) ts) ∙ first_due_of at ns ts h) in
    ap (option_map (λ (n : ℕ). (at, n))) place ∙ ap (with_position (entries_of ns ts)) (l ∙ least_time_of ns ts h)
