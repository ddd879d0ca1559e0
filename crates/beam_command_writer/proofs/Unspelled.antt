-- Commands that no body spells: each constructor of `SpellsCommand` gives what its command needs, and these commands lack it.
use Rattle.std.proofs.Common.{◌≡◌, ℕ, zero, suc, ◌^◌, ◌<◌, ◌≤◌, true, false, IsTrue, List, [], ◌∷◌, ◌++◌, length, refl, sym, ◌∙◌, arith, lt-ltb}
use Rattle.std.specs.List.{list_all}
use Rattle.beam_term.specs.Prelude.{TermValue, list_of, depth_of}
use Rattle.beam_machine.specs.declared.debug.DebugEvent.TheVariants.{Node}
use Rattle.beam_machine.specs.declared.debug.Spot.{Spot}
use Rattle.beam_machine.specs.declared.event.Event.TheVariants as event
use Rattle.beam_machine.specs.declared.event.UpgradeMode.{UpgradeMode}
use Rattle.beam_machine.specs.Prelude.{Command, IsNumber, names_process, AreFiles, no_files, one_file, SpellsCommand, load, load_strict, delete, soft_purge, purge, spawn, send, deliver, timeout, set_break, clear_break, resume, step_one, inspect, versions, atomic_load}
use Rattle.beam_machine.specs.Frames.{steps, clock}
use Rattle.beam_command_writer.specs.Bodies.{AreBytes, IsUnspelled, is_short, spawn_term, send_term, term_of_spot}

-- ---- bytes

first_bytes : (first rest : List ℕ) → AreBytes (first ++ rest) → AreBytes first
first_bytes [] rest fit i = omega arith
first_bytes (b ∷ first) rest fit zero = fit 0
first_bytes (b ∷ first) rest fit (suc i) = first_bytes first rest (λ j. fit (suc j)) i

later_bytes : (first rest : List ℕ) → AreBytes (first ++ rest) → AreBytes rest
later_bytes [] rest fit = fit
later_bytes (b ∷ first) rest fit = later_bytes first rest (λ j. fit (suc j))

number_fits : (field : List ℕ) (n : ℕ) → AreBytes field → IsNumber 4 field n → n < 2 ^ 32
number_fits field n fit h = omega (arith, h.value, fit 0, fit 1, fit 2, fit 3)

files_short : (body : List ℕ) (files : List (List ℕ)) → AreBytes body → AreFiles body files → IsTrue (list_all is_short files)
files_short _ _ fit no_files = refl
files_short _ _ fit (one_file size file rest files h parts) =
    let short : is_short file ≡ true = lt-ltb (length file) (2 ^ 32) (number_fits size (length file) (first_bytes size (file ++ rest) fit) h) in
    rw short (files_short rest files (later_bytes file rest (later_bytes size (file ++ rest) fit)) parts)

-- ---- what commands need

abbrev Needs : Command → Type 0
Needs (Node (event.Spawn name function arguments)) = depth_of (spawn_term name function arguments) ≤ 4096
Needs (Node (event.Send to message)) = IsTrue (names_process to) × (depth_of (send_term to message) ≤ 4096)
Needs (Node (event.AtomicLoad mode files)) = (length files < 2 ^ 32) × IsTrue (list_all is_short files)
Needs c = Unit {0}

needs : (kind : ℕ) (body : List ℕ) (c : Command) → AreBytes body → SpellsCommand kind body c → Needs c
needs _ _ _ fit (load file) = tt
needs _ _ _ fit (load_strict file) = tt
needs _ _ _ fit (delete name h) = tt
needs _ _ _ fit (soft_purge name h) = tt
needs _ _ _ fit (purge name h) = tt
needs _ _ _ fit (spawn body name function arguments few h) = h.shallow
needs _ _ _ fit (send body to message names h) = (names, h.shallow)
needs _ _ _ fit (steps first second pid rows h k) = tt
needs _ _ _ fit (deliver field pid h) = tt
needs _ _ _ fit (clock field now h) = tt
needs _ _ _ fit (timeout field pid h) = tt
needs _ _ _ fit (set_break body version name label rows h) = tt
needs _ _ _ fit (clear_break body version name label rows h) = tt
needs _ _ _ fit (resume field pid h) = tt
needs _ _ _ fit (step_one field pid h) = tt
needs _ _ _ fit (inspect field pid h) = tt
needs _ _ _ fit (versions name h) = tt
needs _ _ _ fit (atomic_load mode count body files h parts) = (
  number_fits count (length files) (first_bytes count body (λ i. fit (suc i))) h,
  files_short body files (later_bytes count body (λ i. fit (suc i))) parts,
)

-- ---- commands that lack it

pub deep_spawn : (name function : List ℕ) (arguments : List TermValue) → 4096 < depth_of (spawn_term name function arguments) → IsUnspelled (Node (event.Spawn name function arguments))
deep_spawn name function arguments deep = λ kind body fit spelled.
    let least : depth_of (spawn_term name function arguments) ≤ 4096 = needs kind body (Node (event.Spawn name function arguments)) fit spelled in
    omega (arith, deep, least)

pub deep_arguments : (name function : List ℕ) (arguments : List TermValue) → 4096 < depth_of (list_of arguments) → IsUnspelled (Node (event.Spawn name function arguments))
deep_arguments name function arguments deep = deep_spawn name function arguments (omega arith)

pub deep_send : (to message : TermValue) → 4096 < depth_of (send_term to message) → IsUnspelled (Node (event.Send to message))
deep_send to message deep = λ kind body fit spelled.
    let least = needs kind body (Node (event.Send to message)) fit spelled in
    omega (arith, deep, least.1)

pub no_receiver : (to message : TermValue) → names_process to ≡ false → IsUnspelled (Node (event.Send to message))
no_receiver to message none = λ kind body fit spelled.
    let names : IsTrue (names_process to) = (needs kind body (Node (event.Send to message)) fit spelled).0 in
    let no : false ≡ true = sym none ∙ names in
    absurd cc

pub many_files : (mode : UpgradeMode) (files : List (List ℕ)) → 2 ^ 32 ≤ length files → IsUnspelled (Node (event.AtomicLoad mode files))
many_files mode files many = λ kind body fit spelled.
    let least = needs kind body (Node (event.AtomicLoad mode files)) fit spelled in
    omega (arith, many, least.0)

pub long_file : (mode : UpgradeMode) (files : List (List ℕ)) → list_all is_short files ≡ false → IsUnspelled (Node (event.AtomicLoad mode files))
long_file mode files long = λ kind body fit spelled.
    let short : IsTrue (list_all is_short files) = (needs kind body (Node (event.AtomicLoad mode files)) fit spelled).1 in
    let no : false ≡ true = sym long ∙ short in
    absurd cc

-- the tuple of a spot has no parts with parts
pub shallow_spot : (spot : Spot) → 4096 < depth_of (term_of_spot spot) → ⊥
shallow_spot spot deep = omega arith
