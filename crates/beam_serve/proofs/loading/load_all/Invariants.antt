use Rattle.std.proofs.Common.{◌≡◌, ℕ, List, take}
use Rattle.beam_serve.specs.Loading.{LoadsFiles, texts}
use Rattle.beam_serve.proofs.loading.load_all.Given as goal

abbrev pub invariant-loop-name : goal.invariant-loop-name
invariant-loop-name g l = record {
  loaded : LoadsFiles (g.F.Files.contents l.fn.files) (texts (take l.name-index l.names)) l.fn.desk l.desk;
  keeps : (n : List ℕ) → g.F.Files.contents l.files n ≡ g.F.Files.contents l.fn.files n;
}
