-- What a call of a device makes of the transcript so far.
use Rattle.std.specs.Prelude.{ℕ, List, [], ◌∷◌, ◌++◌}
use Rattle.beam_transcript.specs.declared.transcript.Transcript.{Transcript}
use Rattle.beam_transcript.specs.declared.note.Note.{Note}
use Rattle.beam_transcript.specs.declared.note.Note.TheVariants.{Read, Written}

abbrev pub empty : Transcript
empty = record { read = []; written = []; moments = [] }

-- a read that gave these bytes, and the moment at which it began
abbrev pub after_read : Transcript → List ℕ → Transcript
after_read so_far bytes = record so_far { read = so_far.read ++ bytes; moments = so_far.moments ++ record { read = so_far.read; written = so_far.written } ∷ [] }

-- a write that took these bytes
abbrev pub after_write : Transcript → List ℕ → Transcript
after_write so_far bytes = record so_far { written = so_far.written ++ bytes }

abbrev pub noted : Transcript → Note → Transcript
noted so_far (Read bytes) = after_read so_far bytes.now
noted so_far (Written bytes) = after_write so_far bytes.now
