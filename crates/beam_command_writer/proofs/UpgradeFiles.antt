-- Files that are written are spelled: by recursion on them.
use Rattle.std.proofs.Common.{◌≡◌, ℕ, ◌^◌, ◌<◌, ◌&&◌, Bool, true, false, IsTrue, List, [], ◌∷◌, length, refl, sym, subst, append_assoc, ltb-true}
use Rattle.std.specs.List.{flat_map, list_all}
use Rattle.byteorder.specs.Endian.{big_bytes}
use Rattle.beam_machine.specs.declared.debug.DebugEvent.TheVariants.{Node}
use Rattle.beam_machine.specs.declared.event.Event.TheVariants as event
use Rattle.beam_machine.specs.declared.event.UpgradeMode.{UpgradeMode}
use Rattle.beam_machine.specs.Prelude.{AreFiles, no_files, one_file, SpellsCommand, atomic_load}
use Rattle.beam_command_writer.specs.Bodies.{is_short, sized_bytes, command_body}
use Rattle.beam_command_writer.proofs.BigNumbers.{number_written}

both : (a b : Bool) → IsTrue (a && b) → (a ≡ true) × IsTrue b
both true b h = (refl, h)
both false b h = let no : false ≡ true = h in absurd cc

files_written : (files : List (List ℕ)) → IsTrue (list_all is_short files) → AreFiles (flat_map sized_bytes files) files
files_written [] short = no_files
files_written (file ∷ files) short =
    let each = both (is_short file) (list_all is_short files) short in
    let size = big_bytes 4 (length file) in
    let fits : length file < 2 ^ 32 = ltb-true (length file) (2 ^ 32) each.0 in
    subst (λ (body : List ℕ). AreFiles body (file ∷ files)) (sym (append_assoc size file (flat_map sized_bytes files)))
    (one_file size file (flat_map sized_bytes files) files (number_written 4 (length file) fits) (files_written files each.1))

pub load_written : (mode : UpgradeMode) (files : List (List ℕ)) → length files < 2 ^ 32 → IsTrue (list_all is_short files)
    → SpellsCommand 18 (command_body (Node (event.AtomicLoad mode files))) (Node (event.AtomicLoad mode files))
load_written mode files few short =
    atomic_load mode (big_bytes 4 (length files)) (flat_map sized_bytes files) files (number_written 4 (length files) few) (files_written files short)
