use Rattle.std.proofs.Common.{◌≡◌, List, ◌++◌, length, unwrap_or}
use Rattle.indexmap.specs.IndexMap.{get}
use Rattle.beam_model.specs.declared.function.Function.{Function}
use Rattle.beam_model.specs.declared.function.Signature.{Signature}
use Rattle.beam_model.specs.Prelude.{same_signature, entry_label_of}
use Rattle.beam_listing.proofs.entries.entries.Given as goal

abbrev pub decreases-loop-function : goal.decreases-loop-function
decreases-loop-function l = length l.rest

-- the functions after the remaining ones have their entries
abbrev pub invariant-loop-function : goal.invariant-loop-function
invariant-loop-function l = (done : List Function) × (l.functions ≡ l.rest ++ done) × ((s : Signature) → unwrap_or (get same_signature l.entries s) 0 ≡ entry_label_of done s)
