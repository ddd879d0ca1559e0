-- Faults of files that are read.
use Rattle.std.specs.Prelude.{◌≡◌, ℕ, length, IfSome, Result, Ok, Err}
use Rattle.beam_block_file.specs.declared.front.Front.TheVariants.{Cut, Bad}
use Rattle.beam_block_file.specs.declared.reader.ReadFault.{ReadFault}
use Rattle.beam_block_file.specs.declared.reader.ReadFault.TheVariants.{CutFile, BadFile, ShelfFailed, NoMemory}
use Rattle.beam_block_file.specs.Fronts.{front_in}
use Rattle.beam_block_file.specs.Shelves.{saturating_increment}
use Rattle.beam_block_file.specs.StoredBlocks.{BlocksRead}

-- how many calls of the device failed after a call that reads
abbrev pub failures_after : {T : Type 0} → Result T ReadFault → ℕ → ℕ
failures_after (Ok x) n = n
failures_after (Err (ShelfFailed failed)) n = saturating_increment n
failures_after (Err NoMemory) n = n
failures_after (Err (CutFile at bytes)) n = n
failures_after (Err (BadFile at)) n = n

-- the device failed, or memory was refused
abbrev pub IsRefusal : ReadFault → Type 0
IsRefusal (ShelfFailed failed) = Unit {0}
IsRefusal NoMemory = Unit {0}
IsRefusal (CutFile at bytes) = ⊥
IsRefusal (BadFile at) = ⊥

-- the fault is what stands behind the blocks that were read
abbrev pub IsFaultOf : ReadFault → BlocksRead → Type 0
IsFaultOf (CutFile at bytes) reader = (at ≡ reader.end) × IfSome reader.known (λ k. (front_in k.rest ≡ Cut) × (bytes ≡ length k.rest))
IsFaultOf (BadFile at) reader = (at ≡ reader.end) × IfSome reader.known (λ k. front_in k.rest ≡ Bad)
IsFaultOf (ShelfFailed failed) reader = Unit {0}
IsFaultOf NoMemory reader = Unit {0}
