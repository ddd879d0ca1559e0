use Rattle.std.proofs.Common.{◌≡◌, ◌∙◌, ap, append_assoc, refl, rules, sym, ℕ, List, ◌++◌}
use Rattle.beam_lemmas.proofs.AnyError.{on_err}
use Rattle.beam_model.specs.declared.function.Export.{Export}
use Rattle.beam_model.specs.declared.instruction.Instruction.{Instruction}
use Rattle.beam_model.specs.Prelude.{Listing, exports_line, instructions_text, labels_lines, listing_text, module_line}
use Rattle.beam_print.proofs.Begun.{begun_longer, begun_on, between, closed, err_more, go_on, not_begun, ok_more, stopped}
use Rattle.beam_print.proofs.listing_text.write_forms.Goals as goal

-- the text of the listing, in the pieces in which it is written
pieces : (old start : List ℕ) (l : Listing) (name : List ℕ) (exports : List Export) (count : ℕ) (instructions : List Instruction)
    → start ≡ old ++ module_line name → name ≡ l.name → exports ≡ l.exports → count ≡ l.label_count → instructions ≡ l.instructions
    → old ++ listing_text l ≡ (start ++ exports_line exports) ++ (labels_lines count ++ instructions_text instructions)
unfolding listing_text
pieces old start l name exports count instructions is name_is exports_are count_is instructions_are =
    let heads : List ℕ = module_line l.name ++ exports_line l.exports in
    let labels : List ℕ = labels_lines l.label_count in
    ap (λ (t : List ℕ). old ++ t) (append_assoc heads labels (instructions_text l.instructions))
    ∙ between old start (module_line l.name) (exports_line l.exports) (labels ++ instructions_text l.instructions)
    (is ∙ ap (λ (t : List ℕ). old ++ module_line t) name_is)
    ∙ ap (λ (es : List Export). (start ++ exports_line es) ++ (labels ++ instructions_text l.instructions)) (sym exports_are)
    ∙ ap (λ (n : ℕ). (start ++ exports_line exports) ++ (labels_lines n ++ instructions_text l.instructions)) (sym count_is)
    ∙ ap (λ (is : List Instruction). (start ++ exports_line exports) ++ (labels_lines count ++ instructions_text is)) (sym instructions_are)

pub returns-in_err-print_module-clause-begun : goal.returns-in_err-print_module-clause-begun
returns-in_err-print_module-clause-begun g c = not_begun _ _ _

pub returns-in_err-write_exports_line-clause-begun : goal.returns-in_err-write_exports_line-clause-begun
returns-in_err-write_exports_line-clause-begun g c =
    let l = c.args.listing.now in
    let start : List ℕ = c.print_module.new.out.items in
    let exports = c.deref.result.now in
    let name_is : c.listing.inside.module ≡ l.name = search rules in
    let exports_are : exports ≡ l.exports = search rules in
    on_err _ _ (begun_longer _ _ (start ++ exports_line exports) (labels_lines l.label_count ++ instructions_text l.instructions) _
    c.in_err-write_exports_line.ensures.begun
    (pieces c.args.waiting.now.items start l c.listing.inside.module exports l.label_count l.instructions c.in_ok-print_module.ensures name_is
    exports_are refl refl))

pub returns-in_err-print_labels-clause-begun : goal.returns-in_err-print_labels-clause-begun
returns-in_err-print_labels-clause-begun g c =
    let l = c.args.listing.now in
    let start : List ℕ = c.print_module.new.out.items in
    let exports = c.deref.result.now in
    let name_is : c.listing.inside.module ≡ l.name = search rules in
    let exports_are : exports ≡ l.exports = search rules in
    on_err _ _ (stopped _ _ (start ++ exports_line exports) c.write_exports_line.new.waiting.items
    (labels_lines l.label_count ++ instructions_text l.instructions) _ c.in_ok-write_exports_line.ensures.written
    (pieces c.args.waiting.now.items start l c.listing.inside.module exports l.label_count l.instructions c.in_ok-print_module.ensures name_is
    exports_are refl refl))

pub returns-clause-written : goal.returns-clause-written
returns-clause-written g c =
    let l = c.args.listing.now in
    let start : List ℕ = c.print_module.new.out.items in
    let exports = c.deref.result.now in
    let name_is : c.listing.inside.module ≡ l.name = search rules in
    let exports_are : exports ≡ l.exports = search rules in
    let instructions = c.deref-2.result.now in
    let count : ℕ = c.listing.inside.label_count in
    let count_is : count ≡ l.label_count = search rules in
    let instructions_are : instructions ≡ l.instructions = search rules in
    let waiting : List ℕ = c.print_labels.new.out.items ++ instructions_text instructions in
    let up_to = closed _ _ (start ++ exports_line exports) c.write_exports_line.new.waiting.items (labels_lines count ++ instructions_text instructions)
    (c.args.waiting.now.items ++ listing_text l) waiting c.in_ok-write_exports_line.ensures.written
    (pieces c.args.waiting.now.items start l c.listing.inside.module exports count instructions c.in_ok-print_module.ensures name_is exports_are count_is
    instructions_are)
    (ap (λ (t : List ℕ). t ++ instructions_text instructions) c.in_ok-print_labels.ensures
    ∙ append_assoc c.write_exports_line.new.waiting.items (labels_lines count) (instructions_text instructions)) in
    ok_more c.write_instructions.result _ _ (λ h. go_on _ _ _ _ waiting _ up_to h) c.write_instructions.ensures.written

pub returns-clause-begun : goal.returns-clause-begun
returns-clause-begun g c =
    let l = c.args.listing.now in
    let start : List ℕ = c.print_module.new.out.items in
    let exports = c.deref.result.now in
    let name_is : c.listing.inside.module ≡ l.name = search rules in
    let exports_are : exports ≡ l.exports = search rules in
    let instructions = c.deref-2.result.now in
    let count : ℕ = c.listing.inside.label_count in
    let count_is : count ≡ l.label_count = search rules in
    let instructions_are : instructions ≡ l.instructions = search rules in
    let waiting : List ℕ = c.print_labels.new.out.items ++ instructions_text instructions in
    let up_to = closed _ _ (start ++ exports_line exports) c.write_exports_line.new.waiting.items (labels_lines count ++ instructions_text instructions)
    (c.args.waiting.now.items ++ listing_text l) waiting c.in_ok-write_exports_line.ensures.written
    (pieces c.args.waiting.now.items start l c.listing.inside.module exports count instructions c.in_ok-print_module.ensures name_is exports_are count_is
    instructions_are)
    (ap (λ (t : List ℕ). t ++ instructions_text instructions) c.in_ok-print_labels.ensures
    ∙ append_assoc c.write_exports_line.new.waiting.items (labels_lines count) (instructions_text instructions)) in
    err_more c.write_instructions.result _ _ (λ h. begun_on _ _ _ _ waiting up_to h) c.write_instructions.ensures.begun
