-- The first file that isn't loaded, and why.
use Rattle.std.specs.Prelude.{◌≡◌, ◌++◌, ◌∷◌, ℕ, List, Err, ⊤}
use Rattle.clap.specs.Words.{Text}
use Rattle.beam_disasm.specs.Refusals.{Refuses}
use Rattle.beam_model.specs.Prelude.{listing_of_file, Listing}
use Rattle.beam_machine.specs.declared.event.Event.TheVariants.{Load}
use Rattle.beam_machine.specs.declared.event.Refused.{Refused as NodeRefused}
use Rattle.beam_machine.specs.declared.event.Refused.TheVariants.{NoMemory}
use Rattle.beam_machine.specs.Prelude.{next, State}
use Rattle.beam_tools.specs.Call.{AreFilesOf, IsFileOf, Loads}
use Rattle.beam_tools.specs.Files.{Contents, HasBytes}
use Rattle.beam_tools.specs.declared.fault.FileFaultKind.{FileFaultKind}
use Rattle.beam_tools.specs.declared.fault.FileFaultKind.TheVariants.{BadFile, Refused, Unread}

-- the node refuses with this to load the listing; an allocation failure implies nothing
abbrev pub IsRefusal : State → Listing → NodeRefused → Type 0
IsRefusal s l NoMemory = ⊤
IsRefusal s l r = (next s (Load l)).answer ≡ Err r

-- why the file of that name isn't loaded: its bytes are refused, or the node refuses its listing; a failed device and an allocation failure
-- imply nothing
abbrev pub IsNotLoaded : Contents → Text → State → FileFaultKind → Type 0
IsNotLoaded files name s (Unread e) = ⊤
IsNotLoaded files name s (BadFile e) = (bytes : List ℕ) × HasBytes files name bytes × Refuses e (listing_of_file bytes)
IsNotLoaded files name s (Refused r) = (l : Listing) × IsFileOf files name l × IsRefusal s l r
IsNotLoaded files name s _ = ⊥

-- the files before the one of that name are loaded, and that one isn't, for this reason
abbrev pub IsFirstUnloaded : Contents → List Text → State → Text → FileFaultKind → Type 0
IsFirstUnloaded files names old name why =
    (before : List Text) × (after : List Text) × (ls : List Listing) × (s : State) × (names ≡ before ++ name ∷ after)
    × Loads old ls s × AreFilesOf files before ls × IsNotLoaded files name s why
