-- The atoms that each process needs.
use Rattle.std.specs.Prelude.{◌≡◌, codes, true, false}
use Rattle.beam_machine.specs.Prelude.{normal, killed}
use Rattle.beam_model.specs.Prelude.{truth}
use Rattle.beam_proc.specs.declared.known.Atoms.{Atoms}

abbrev pub AreKnown : Atoms → Type 0
AreKnown atoms = (atoms.normal ≡ normal) × (atoms.killed ≡ killed) × (atoms.is_so ≡ truth true) × (atoms.is_not_so ≡ truth false)
    × (atoms.node ≡ codes "nonode@nohost")
