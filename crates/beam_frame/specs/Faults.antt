-- The errors of this crate, and the faults of frames.
use Rattle.std.specs.Prelude.{◌≡◌, ℕ, Option, Some, None, Result, Ok, Err}
use Rattle.beam_machine.specs.declared.command.FrameFault.{FrameFault}
use Rattle.beam_machine.specs.Prelude.{FirstFrame, one_frame, bad_frame}
use Rattle.beam_machine.specs.declared.command.FrameFault.TheVariants as faults
use Rattle.beam_frame.specs.declared.error.FrameError.{FrameError}
use Rattle.beam_frame.specs.declared.error.FrameError.TheVariants.{TooLong, BadKind, BadCommand, NoMemory, Failed}

abbrev pub number_of : FrameError → ℕ
number_of TooLong = 1
number_of BadKind = 2
number_of BadCommand = 3
number_of NoMemory = 4
number_of Failed = 5

-- the error of a fault
abbrev pub error_of : FrameFault → FrameError
error_of faults.TooLong = TooLong
error_of faults.BadKind = BadKind
error_of faults.BadCommand = BadCommand

-- the fault of a frame that an error names
abbrev pub fault_of : FrameError → Option FrameFault
fault_of TooLong = Some faults.TooLong
fault_of BadKind = Some faults.BadKind
fault_of BadCommand = Some faults.BadCommand
fault_of NoMemory = None
fault_of Failed = None

-- a body isn't read: it spells no command of its kind, or memory was refused
abbrev pub Misses : {Y : Type 0} → FrameError → Option Y → Type 0
Misses BadCommand read = read ≡ None
Misses NoMemory read = Unit {0}
Misses TooLong read = ⊥
Misses BadKind read = ⊥
Misses Failed read = ⊥

-- the view of the result is what the body spells, unless memory ran out
abbrev pub Gives : {X Y : Type 0} → (X → Y) → Result X FrameError → Option Y → Type 0
Gives view (Ok x) read = read ≡ Some (view x)
Gives view (Err e) read = Misses e read

-- the frame at the front has a body of a known kind, whose reading may take memory
abbrev pub HasBody : FirstFrame → Type 0
HasBody (one_frame c rest) = Unit {0}
HasBody (bad_frame faults.BadCommand) = Unit {0}
HasBody found = ⊥

-- the error is the fault of the frame at the front
abbrev pub IsErrorOf : FrameError → FirstFrame → Type 0
IsErrorOf TooLong found = found ≡ bad_frame faults.TooLong
IsErrorOf BadKind found = found ≡ bad_frame faults.BadKind
IsErrorOf BadCommand found = found ≡ bad_frame faults.BadCommand
IsErrorOf NoMemory found = HasBody found
IsErrorOf Failed found = ⊥
