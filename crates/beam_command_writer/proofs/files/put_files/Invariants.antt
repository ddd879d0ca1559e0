use Rattle.std.proofs.Common.{◌≡◌, ◌++◌, drop}
use Rattle.std.specs.List.{flat_map}
use Rattle.beam_command_writer.specs.Bodies.{sized_bytes}
use Rattle.beam_command_writer.proofs.files.put_files.Given as goal

abbrev pub invariant-loop-file : goal.invariant-loop-file
invariant-loop-file l = l.out.items ++ flat_map sized_bytes (drop l.file-index l.files) ≡ l.fn.out.items ++ flat_map sized_bytes l.files
