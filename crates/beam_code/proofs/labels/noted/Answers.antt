use Rattle.std.proofs.Common.{◌≡◌, ℕ, suc, ◌-◌, ◌<◌, ◌≤◌, cond, Option, Some, [], ◌∷◌, ◌++◌, length, get_or, drop, sym, ap, ap₂, arith, ◌∙◌}
use Rattle.std.specs.Ordering.{nat_cmp}
use Rattle.std.proofs.lemmas.Option.{get_or_from_slice_get}
use Rattle.std.specs.BTreeMap.{get}
use Rattle.beam_model.specs.Prelude.{is_this_number, label_of}
use Rattle.beam_code.specs.Prelude.{byte_after}
use Rattle.beam_code.proofs.LabelBytes.{noted_more}
use Rattle.beam_code.proofs.labels.noted.Goals as goal

pub loop-at-preserved : goal.loop-at-preserved
loop-at-preserved c =
    let at = c.loop-at.at in
    let test : 0 < at = c.loop-at-test.true in
    let inv = c.loop-at.invariant in
    let within : at ≤ length c.args.instructions.now = inv.within in
    let same : length c.args.starts.now ≡ length c.args.instructions.now = c.requires in
    let next : suc (at - 1) ≡ at = omega (arith, test) in
    record {
      within = omega (arith, within);
      after = sym (get_or_from_slice_get c.args.starts.now (at - 1) c.get-after.result c.args.end c.get-after.ensures);
      noted = λ label.
          let more = noted_more label c.args.instructions.now c.args.starts.now c.args.end (at - 1) c.index-instructions-at.result same (omega (arith, test, within)) c.index-instructions-at.is in
          let old = ap (λ (k : ℕ). byte_after label (drop k c.args.instructions.now) (drop 1 (drop k c.args.starts.now) ++ c.args.end ∷ [])) next in
          let after = ap (λ (k : ℕ). get_or c.args.starts.now k c.args.end) next in
          c.in_ok-note.ensures label
          ∙ ap (λ (l : Option ℕ). cond (is_this_number label l) (Some c.loop-at.after) (get nat_cmp c.loop-at.bytes label)) c.label.ensures
          ∙ ap₂ (λ (a : ℕ) (o : Option ℕ). cond (is_this_number label (label_of c.index-instructions-at.result)) (Some a) o) (inv.after ∙ sym after) (inv.noted label ∙ sym old)
          ∙ sym more;
    }
