-- What a program writes to the error output about a fault.
use Rattle.std.specs.Prelude.{◌≡◌, ◌++◌, ℕ, List, [], Option, if◌then◌else◌}
use Rattle.std.specs.Io.KnownBytes.{append_known}
use Rattle.clap.specs.Words.{Text}
use Rattle.beam_tools.specs.Fault.{is_verbose, message_of}
use Rattle.beam_tools.specs.Place.{place_text}
use Rattle.beam_tools.specs.declared.fault.RunFault.{RunFault}
use Rattle.beam_tools.specs.declared.program.Program.{Program}

-- the message of a fault, and its place, if the words ask for it; `text` is that of the listing that was read, if one was
abbrev pub report_text : Program → List Text → List ℕ → RunFault → List ℕ
report_text p words text f = message_of p f ++ (if is_verbose words then place_text text f else [])

-- the message and the place, and nothing else, were written to the error output
abbrev pub IsReported : Program → List Text → List ℕ → RunFault → Option (List ℕ) → Option (List ℕ) → Type 0
IsReported p words text f old new = new ≡ append_known old (report_text p words text f)
