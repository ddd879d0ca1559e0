-- What lists of modules tell. (This node's own.)
use Rattle.std.specs.Prelude.{ℕ, List, length, map, take, drop, Option, Some, None}
use Rattle.beam_model.specs.Prelude.{Listing}
use Rattle.beam_machine.specs.Prelude.{Code, Versions, listing_of}
use Rattle.beam_codesrv.specs.Homes.{number_of}
use Rattle.beam_looks.specs.declared.module_rows.InstanceRow.{InstanceRow}
use Rattle.beam_looks.specs.declared.module_rows.ModuleRow.{ModuleRow}

abbrev pub length_in : Option Listing → ℕ
length_in (Some listing) = length listing.instructions
length_in None = 0

-- how many instructions the instance of a number has
abbrev pub instruction_count : Code → ℕ → ℕ
instruction_count code number = length_in (listing_of code number)

abbrev pub instance_row : Code → Option ℕ → Option InstanceRow
instance_row code (Some number) = Some (record { number = number; instructions = instruction_count code number })
instance_row code None = None

abbrev pub module_row : Code → Versions → ModuleRow
module_row code v = record { name = v.name; current = instance_row code (number_of v.current); old = instance_row code (number_of v.old) }

-- the rows of modules from an index on, at most so many
abbrev pub modules_after : Code → ℕ → ℕ → List ModuleRow
modules_after code after most = map (module_row code) (take most (drop after code))
