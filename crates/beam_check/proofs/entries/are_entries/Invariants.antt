use Rattle.std.proofs.Common.{◌≡◌, length}
use Rattle.std.specs.List.{list_any, list_all}
use Rattle.beam_model.specs.Prelude.{is_entry, is_entry_of}
use Rattle.beam_model.specs.declared.function.Function.{Function}
use Rattle.beam_check.proofs.entries.are_entries.Given as goal

abbrev pub invariant-loop-export : goal.invariant-loop-export
invariant-loop-export l = record {
  rest : list_all (is_entry_of l.fn.functions.items) l.rest ≡ list_all (is_entry_of l.fn.functions.items) l.fn.exports;
  set : (q : Function) → list_any (is_entry q) l.entries.keys ≡ list_any (λ f. is_entry f q) l.fn.functions.items;
}

abbrev pub decreases-loop-export : goal.decreases-loop-export
decreases-loop-export l = length l.rest
