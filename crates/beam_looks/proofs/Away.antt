-- Who lingers, one process after another.
use Rattle.std.proofs.Common.{◌≡◌, ℕ, ◌+◌, ◌-◌, ◌<◌, ◌≤◌, Bool, true, false, cond, List, [], ◌∷◌, length, map, filter, ap, ◌∙◌, arith, Some, None}
use Rattle.std.specs.List.{list_any}
use Rattle.beam_machine.specs.Prelude.{Debugged, Process, lingers, process_of}
use Rattle.beam_looks.specs.Lingering.{lingering}
use Rattle.beam_looks.specs.Rows.{processes_after}
use Rattle.beam_looks.proofs.After.{next_process, no_process, none_behind}

abbrev test : List ℕ → Process → Bool
test numbers p = list_any (λ n. lingers n p) numbers

-- of a process and others: its number, if it lingers, and then those of the others that do
one : (numbers : List ℕ) (p : Process) (ps : List Process) (b : Bool) → test numbers p ≡ b
    → lingering numbers (p ∷ ps) ≡ cond b (p.pid ∷ lingering numbers ps) (lingering numbers ps)
one numbers p ps true is = ap (λ b. map (λ (q : Process). q.pid) (cond b (p ∷ filter (test numbers) ps) (filter (test numbers) ps))) is
one numbers p ps false is = ap (λ b. map (λ (q : Process). q.pid) (cond b (p ∷ filter (test numbers) ps) (filter (test numbers) ps))) is

pub next_lingers : (d : Debugged) (numbers : List ℕ) (pid end : ℕ) (p : Process) → Some p ≡ process_of d.node.processes (pid + 1) → pid < end
    → list_any (λ n. lingers n p) numbers ≡ true
    → lingering numbers (processes_after d pid (end - pid)) ≡ p.pid ∷ lingering numbers (processes_after d (pid + 1) (end - (pid + 1)))
next_lingers d numbers pid end p is less there =
    ap (lingering numbers) (next_process d pid end p is less) ∙ one numbers p (processes_after d (pid + 1) (end - (pid + 1))) true there

pub next_is_away : (d : Debugged) (numbers : List ℕ) (pid end : ℕ) (p : Process) → Some p ≡ process_of d.node.processes (pid + 1) → pid < end
    → list_any (λ n. lingers n p) numbers ≡ false
    → lingering numbers (processes_after d pid (end - pid)) ≡ lingering numbers (processes_after d (pid + 1) (end - (pid + 1)))
next_is_away d numbers pid end p is less away =
    ap (lingering numbers) (next_process d pid end p is less) ∙ one numbers p (processes_after d (pid + 1) (end - (pid + 1))) false away

pub next_visited : (d : Debugged) (pid end : ℕ) (p : Process) → Some p ≡ process_of d.node.processes (pid + 1) → pid < end
    → length (processes_after d pid (end - pid)) ≡ length (processes_after d (pid + 1) (end - (pid + 1))) + 1
next_visited d pid end p is less = let all = ap length (next_process d pid end p is less) in omega (arith, all)

-- one more is visited, and one fewer is left
pub one_more : (after pid left behind all : ℕ) → after ≤ pid + 1 → after ≤ pid → (pid - after) + left ≡ all → left ≡ behind + 1 → (pid + 1 - after) + behind ≡ all
one_more after pid left behind all within before is next = omega (arith, before, is, next)

pub no_more : (d : Debugged) (numbers : List ℕ) (pid n : ℕ) → None ≡ process_of d.node.processes (pid + 1) → lingering numbers (processes_after d pid n) ≡ []
no_more d numbers pid n is = ap (lingering numbers) (no_process d pid n is)

pub none_visited : (d : Debugged) (pid n : ℕ) → None ≡ process_of d.node.processes (pid + 1) → length (processes_after d pid n) ≡ 0
none_visited d pid n is = ap length (no_process d pid n is)

-- behind the end nobody is left
pub record NoneLeft (d : Debugged) (numbers : List ℕ) (pid end : ℕ) : Type 0 where
  pub pids : lingering numbers (processes_after d pid (end - pid)) ≡ []
  pub count : length (processes_after d pid (end - pid)) ≡ 0

pub none_left : (d : Debugged) (numbers : List ℕ) (pid end : ℕ) → end ≤ pid → NoneLeft d numbers pid end
none_left d numbers pid end over =
    record { pids = ap (lingering numbers) (none_behind d pid end over); count = ap length (none_behind d pid end over) }
