use Rattle.std.proofs.Common.{◌≡◌, List, take}
use Rattle.clap.specs.Walk.{Text, texts}
use Rattle.beam_model.specs.Prelude.{Listing}
use Rattle.beam_tools.specs.Prelude.{AreFilesOf, Loads}
use Rattle.beam_tools.proofs.load.load_files.Given as goal

abbrev pub invariant-loop-name : goal.invariant-loop-name
invariant-loop-name g l = record {
  loaded : (ls : List Listing) × Loads l.fn.core ls l.core × AreFilesOf (g.F.Files.contents l.fn.files) (texts (take l.name-index l.names)) ls;
  keeps : (n : Text) → g.F.Files.contents l.files n ≡ g.F.Files.contents l.fn.files n;
}
