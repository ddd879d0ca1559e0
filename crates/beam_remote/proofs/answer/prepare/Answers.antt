use Rattle.std.proofs.Common.{◌≡◌, ◌∙◌, ℕ, List, false, rules, subst, sym, true≢false}
use Rattle.beam_disasm.specs.Refusals.{Refuses, is_memory}
use Rattle.beam_model.specs.Prelude.{listing_of_file, IsFile}
use Rattle.beam_remote.proofs.answer.prepare.Goals as goal

pub returns-else-is_memory-clause-err : goal.returns-else-is_memory-clause-err
returns-else-is_memory-clause-err c =
    let same : c.as_slice.result.now ≡ c.args.file.now = search rules in
    let is_fault : is_memory c.in-Err.error ≡ false = search rules in
    record {
      error = c.in-Err.error;
      stands = subst (λ (bytes : List ℕ). Refuses c.in-Err.error (listing_of_file bytes)) same c.in-Err.ensures.fault;
      is_fault = is_fault;
      has_layer = search rules;
      has_number = search rules;
      unloadable = λ l prepared.
          true≢false (sym (c.in-Err.ensures.only l (subst (λ (bytes : List ℕ). IsFile bytes l) (sym same) prepared.is_file) prepared.well_formed) ∙ is_fault);
    }
