-- The first of the files of a body.
use Rattle.std.specs.Prelude.{ℕ, nat_lt, if◌then◌else◌, List, length, take, drop, Option, Some, None}

-- a file of that size at the front of bytes, and the bytes after it
abbrev pub sized_file : ℕ → List ℕ → Option (List ℕ × List ℕ)
sized_file size bytes = if nat_lt (length bytes) size then None else Some (take size bytes, drop size bytes)
