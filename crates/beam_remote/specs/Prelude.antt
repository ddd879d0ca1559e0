-- The definitions of this crate that specs and proofs above cite, passed on from one place. Declares nothing.
pub use Rattle.beam_remote.specs.DeviceHistory.{EachRead, Moment, appended, one_read}
pub use Rattle.beam_remote.specs.Found.{IsNeeded, StopsReading, StopsTelling, TellsFault}
pub use Rattle.beam_remote.specs.Serving.{AllAnswered, Answered, AreFrames, ArePrepared, AreUnprepared, EndsAt, IsFrame, IsPrepared, IsServed, IsStopped, IsUnloaded, IsUnprepared, Serves, StopsFor, reply_frame, reply_frames}
pub use Rattle.beam_remote.specs.Tape.{AreTaken, Tape, moment_of, moments_of, with_read}
