use Rattle.std.proofs.Common.{◌≡◌, ◌++◌, drop, true, is_some, option_map}
use Rattle.std.specs.List.{AllByRecursion}
use Rattle.beam_machine.specs.Prelude.{read, read_all}
use Rattle.beam_proc.proofs.process.Process.read_all.Given as goal

-- the values so far, and then those of the rest; each source has a value
abbrev pub invariant-loop-source : goal.invariant-loop-source
invariant-loop-source l = record {
  values : option_map (λ ts. l.values.items ++ ts) (read_all l.self (drop l.source-index l.sources)) ≡ read_all l.self l.sources;
  there : AllByRecursion (λ s. is_some (read l.self s) ≡ true) (drop l.source-index l.sources);
}
