-- The first entries of a list that pass a test, and the least time.
use Rattle.std.specs.Prelude.{ℕ, ◌+◌, Bool, if◌then◌else◌, List, [], ◌∷◌, drop, Option, Some, None, option_map}
use Rattle.beam_agenda.specs.declared.entry.AgendaEntry.{AgendaEntry}
use Rattle.beam_agenda.specs.Entries.{earlier, is_due_by}

-- the position of the first entry that passes a test
abbrev pub first_of : (AgendaEntry → Bool) → List AgendaEntry → Option ℕ
first_of test [] = None
first_of test (e ∷ rest) = if test e then Some 0 else option_map (λ n. n + 1) (first_of test rest)

-- the position of the first entry, at this position or after it, that passes a test
abbrev pub first_from : (AgendaEntry → Bool) → ℕ → List AgendaEntry → Option ℕ
first_from test from es = option_map (λ n. from + n) (first_of test (drop from es))

-- the first position, at this one or after it, whose entry is ready
abbrev pub first_ready : ℕ → List AgendaEntry → Option ℕ
first_ready from es = first_from (λ e. e.ready) from es

-- the least time at which an entry is due
abbrev pub least_time : List AgendaEntry → Option ℕ
least_time [] = None
least_time (e ∷ rest) = earlier e.due (least_time rest)

abbrev pub with_position : List AgendaEntry → Option ℕ → Option (ℕ × ℕ)
with_position es (Some at) = option_map (λ n. (at, n)) (first_of (λ e. is_due_by at e.due) es)
with_position es None = None

-- the least time at which an entry is due, and the position of the first entry that is due then
abbrev pub least_due : List AgendaEntry → Option (ℕ × ℕ)
least_due es = with_position es (least_time es)
