-- What the node's code compares and keeps when a process is checked in. (This node's own.)
use Rattle.std.specs.Prelude.{ℕ, ◌==◌, not, ◌&&◌, Bool, List, filter}
use Rattle.std.specs.Cmp.Lexicographic.{pointwise}
use Rattle.beam_machine.specs.Prelude.{Debugged}
use Rattle.beam_model.specs.Prelude.{Place, is_same_place}
use Rattle.beam_codesrv.specs.Numbers.{same_numbers}
use Rattle.beam_shared.specs.declared.checked_out.CheckoutEntry.{CheckoutEntry}
use Rattle.beam_shared.specs.FinishedSlice.{CodeContext}

abbrev pub without_entry : ℕ → List CheckoutEntry → List CheckoutEntry
without_entry pid entries = filter (λ (e : CheckoutEntry). not (e.pid == pid)) entries

abbrev pub same_places : List Place → List Place → Bool
same_places = pointwise is_same_place

-- code and break spots have the same numbers of instances and the same places as a context
abbrev pub is_alike : Debugged → CodeContext → Bool
is_alike d context = same_numbers context.code d.node.code && same_places context.spots d.spots
