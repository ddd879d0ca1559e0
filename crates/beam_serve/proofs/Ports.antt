-- Faults that are of any port.
use Rattle.std.proofs.Common.{ℕ, List, Option}
use Rattle.beam_tools.specs.Prelude.{IsOfPort, StartingSays}
use Rattle.beam_tools.specs.declared.job.JobFault.{JobFault}
use Rattle.beam_tools.specs.declared.job.JobFault.TheVariants as fault

pub starting_is : (port : Option ℕ) (module_name function_name : List ℕ) (f : JobFault) → StartingSays module_name function_name f → IsOfPort port f
starting_is port m n fault.LongName h = tt
starting_is port m n fault.NoMemory h = tt
starting_is port m n (fault.Pipe why os_error) h = absurd h
starting_is port m n (fault.Net p os_error) h = absurd h
starting_is port m n (fault.Http p os_error) h = absurd h
starting_is port m n (fault.Token os_error) h = absurd h
starting_is port m n (fault.File f) h = absurd h
starting_is port m n (fault.Start refused) h = absurd h
starting_is port m n (fault.Journal f) h = absurd h
starting_is port m n (fault.Socket f) h = absurd h
starting_is port m n (fault.NoProcess name) h = absurd h
starting_is port m n (fault.LongView name) h = absurd h
starting_is port m n fault.JournalFull h = absurd h
starting_is port m n fault.Mismatch h = absurd h
starting_is port m n fault.ProcessesOut h = absurd h
starting_is port m n fault.Unwritten h = absurd h
