use Rattle.std.proofs.Common.{rules, ◌≡◌, ◌+◌, ◌-◌, ◌<◌, ◌≤◌, ◌++◌, [], ◌∷◌, Some, None, ap, ◌∙◌, option_map, slice_get}
use Rattle.beam_looks.specs.Modules.{module_row, modules_after}
use Rattle.beam_looks.proofs.After.{goes_over, whole}
use Rattle.beam_looks.proofs.Modules.{next_row, no_row}
use Rattle.beam_looks.proofs.module_rows.modules_after.Goals as goal

-- none is left where there is no next module
pub returns-in-None : goal.returns-in-None
returns-in-None c =
    let code = c.args.table.now in
    let end = c.in-Some.end in
    let index = c.loop-index.index in
    let none : None ≡ option_map (module_row code) (slice_get code index) = search rules in
    λ bound. whole c.loop-index.rows.items (modules_after code index (end - index)) (modules_after code c.args.after c.args.most) c.loop-index.invariant.rows
    (no_row code index (end - index) none)

-- the next row is the first of those that are left
pub loop-index-preserved : goal.loop-index-preserved
loop-index-preserved c =
    let code = c.args.table.now in
    let end = c.in-Some.end in
    let index = c.loop-index.index in
    let row = c.in-Some-2.row in
    let some : Some row ≡ option_map (module_row code) (slice_get code index) = search rules in
    let less : index < end = search rules in
    let bounds : (c.args.after ≤ index + 1) × (index + 1 ≤ end) × (end ≡ c.args.after + c.args.most) = search rules in
    let pushed : c.push.new.self.items ≡ c.loop-index.rows.items ++ (row ∷ []) = search rules in
    record {
      bounds = bounds;
      rows = ap (λ l. l ++ modules_after code (index + 1) (end - (index + 1))) pushed
          ∙ goes_over c.loop-index.rows.items (modules_after code index (end - index)) (modules_after code (index + 1) (end - (index + 1)))
          (modules_after code c.args.after c.args.most) row c.loop-index.invariant.rows (next_row code index end row some less);
    }
