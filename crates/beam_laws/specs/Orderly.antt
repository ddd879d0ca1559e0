-- Processes in their order: process n has pid n, an ended one is its pid, its reason and its value, and no two have one name.
use Rattle.std.specs.Prelude.{◌≡◌, ℕ, ◌+◌, List, slice_get, Option, Some}
use Rattle.beam_term.specs.Prelude.{TermValue}
use Rattle.beam_machine.specs.declared.process.Status.TheVariants.{Ended}
use Rattle.beam_machine.specs.Prelude.{Process, ended}

-- where a process has ended, it is its pid, its reason and its value
abbrev pub Ends : Process → Type 0
Ends p = (reason value : TermValue) → p.status ≡ Ended reason value → p ≡ ended p reason value

-- a process that a change made of one of this pid and name: it keeps the pid, and the name or none
abbrev pub Follows : ℕ → Option (List ℕ) → Process → Type 0
Follows pid name q = (q.pid ≡ pid) × (((n : List ℕ) → q.name ≡ Some n → name ≡ Some n) × Ends q)

-- process n of the list has pid n
abbrev pub Numbered : List Process → Type 0
Numbered ps = (i : ℕ) (p : Process) → slice_get ps i ≡ Some p → (p.pid ≡ i + 1) × Ends p

-- no two have one name
abbrev pub Apart : List Process → Type 0
Apart ps = (i j : ℕ) (p q : Process) (name : List ℕ) → slice_get ps i ≡ Some p → slice_get ps j ≡ Some q → p.name ≡ Some name → q.name ≡ Some name → i ≡ j

abbrev pub Orderly : List Process → Type 0
Orderly ps = Numbered ps × Apart ps
