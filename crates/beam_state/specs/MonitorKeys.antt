-- Monitors as numbers, in the order of the monitored processes, of those that monitor them, and of the references.
use Rattle.std.specs.Prelude.{◌≡◌, ◌==◌, ◌&&◌, ◌+◌, ◌*◌, ◌/◌, ◌%◌, ◌<◌, ℕ, Bool, true, false, not, List, slice_get, Option, Some, None, option_map, filter, map}
use Rattle.std.specs.List.{list_any}
use Rattle.std.specs.declared.ops.Bound.TheVariants.{Included, Excluded}
use Rattle.std.specs.BTreeMap.Range.{range_contains}
use Rattle.std.specs.Ordering.{nat_cmp}
use Rattle.beam_machine.specs.declared.process.Monitor.{Monitor}
use Rattle.beam_machine.specs.Prelude.{Process, monitor_of, Sent, own_number, live_process, monitors_process}
use Rattle.beam_machine.specs.declared.process.Signal.TheVariants.{Down}
use Rattle.beam_term.specs.Prelude.{TermValue}
use Rattle.beam_model.specs.Prelude.{is_this_number}
use Rattle.beam_state.specs.Posting.{AreLawful, notices_of}

-- ---- keys

-- the key of a monitor: the numbers of the monitored process, of the one that monitors it, and of the reference, each of them below 2^32
abbrev pub monitor_key : ℕ → ℕ → ℕ → ℕ
monitor_key watched receiver reference = (watched * 4294967296 + receiver) * 4294967296 + reference

abbrev pub monitored_in : ℕ → ℕ
monitored_in key = key / 4294967296 / 4294967296 % 4294967296

abbrev pub receiver_in : ℕ → ℕ
receiver_in key = key / 4294967296 % 4294967296

abbrev pub reference_in : ℕ → ℕ
reference_in key = key % 4294967296

abbrev pub has_key : List ℕ → ℕ → Bool
has_key keys key = list_any (λ k. key == k) keys

-- whether a key is of the monitored process of that number
abbrev pub is_key_of : ℕ → ℕ → Bool
is_key_of watched key = range_contains nat_cmp (Included (monitor_key watched 0 0)) (Excluded (monitor_key (watched + 1) 0 0)) key

-- ---- what the keys hold of the processes

-- whether one of these monitors has that reference and is on the process of that number
abbrev pub is_monitored_by : ℕ → ℕ → List Monitor → Bool
is_monitored_by watched reference ms = list_any (λ m. (m.reference == reference) && monitors_process watched m) ms

-- the second monitors are all among the first
abbrev pub MonitorNoMore : List Monitor → List Monitor → Type 0
MonitorNoMore ms ns = (watched reference : ℕ) → is_monitored_by watched reference ns ≡ true → is_monitored_by watched reference ms ≡ true

abbrev pub IsKeyed : List ℕ → ℕ → ℕ → ℕ → Type 0
IsKeyed keys watched receiver reference =
    (watched < 4294967296) × ((receiver < 4294967296) × (has_key keys (monitor_key watched receiver reference) ≡ true))

-- each of these monitors of a process is among the keys
abbrev pub AreKeyed : List ℕ → ℕ → List Monitor → Type 0
AreKeyed keys receiver ms = (watched reference : ℕ) → is_monitored_by watched reference ms ≡ true → IsKeyed keys watched receiver reference

-- each monitor of each process is among the keys, which may have others too
abbrev pub AreMonitorsKeyed : List ℕ → List Process → Type 0
AreMonitorsKeyed keys ps = (i : ℕ) (p : Process) → slice_get ps i ≡ Some p → AreKeyed keys (i + 1) p.monitors

-- each monitor of each process is among the keys, if the keys are flagged as complete
unfoldable pub AreMonitorsKeyedIf : Bool → List ℕ → List Process → Type 0
AreMonitorsKeyedIf complete keys ps = complete ≡ true → AreMonitorsKeyed keys ps

-- ---- the keys that are live

abbrev pub names_number : ℕ → Option TermValue → Bool
names_number number (Some pid) = is_this_number number (own_number pid)
names_number number None = false

abbrev pub monitors_under : ℕ → ℕ → Option Process → Bool
monitors_under watched reference (Some p) = names_number watched (option_map (λ m. m.pid) (monitor_of reference p.monitors))
monitors_under watched reference None = false

-- whether the process of a key lives, and monitors the process of the given number under the key's reference
abbrev pub is_live_key : List Process → ℕ → ℕ → Bool
is_live_key ps watched key = monitors_under watched (reference_in key) (live_process ps (receiver_in key))

-- whether the process of a key isn't the monitored one, and the key is live: so it hears of the end
abbrev pub is_told : List Process → ℕ → ℕ → Bool
is_told ps watched key = not (receiver_in key == watched) && is_live_key ps watched key

-- the DOWN of a key, for that reason
abbrev pub down_of : TermValue → ℕ → Sent
down_of reason key = record { to = receiver_in key; signal = Down (reference_in key) reason }

-- the keys find all other processes that hear of the end of a process, in order
abbrev pub TellAll : List ℕ → List Process → Type 0
TellAll keys ps =
    (pid count : ℕ) (reason : TermValue) → count < 4294967296 → AreLawful count ps
    → map (down_of reason) (filter (is_told ps pid) (filter (is_key_of pid) keys)) ≡ notices_of ps pid reason
