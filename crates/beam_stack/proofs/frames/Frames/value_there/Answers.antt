use Rattle.std.proofs.Common.{◌≡◌, ◌<◌, ◌-◌, ℕ, length, is_some, slice_get, Some, ap, sym, ◌∙◌, subst, arith}
use Rattle.std.proofs.lemmas.Option.{slice_get-get_or}
use Rattle.beam_machine.specs.Prelude.{read_slots}
use Rattle.beam_stack.specs.Prelude.{newest_y, y_count, Word, frames_of}
use Rattle.beam_stack.proofs.Registers.{nonempty, value_is, value_within}
use Rattle.beam_stack.proofs.frames.Frames.value_there.Goals as goal

pub value_there-requires : goal.value_there-requires
value_there-requires c =
    let items = c.self.inside.words.items in
    let r = c.args.register in
    let word : Word = c.index.result.now in
    let within : r < y_count (frames_of items) = subst (λ fs. r < y_count fs) (sym c.self.view_is) (value_within (newest_y c.args.self.now) r c.requires) in
    let long : c.len.result ≡ length items = c.len.ensures ∙ c.self.inside.words.ok.0 in
    let some : 0 < length items = nonempty items r within in
    let at : ℕ = c.len.result - 1 - r in
    let inside : at < length items = omega (arith, some, long) in
    let found : slice_get items (length items - 1 - r) ≡ Some word =
    ap (λ n. slice_get items (n - 1 - r)) (sym long) ∙ (slice_get-get_or items at word inside ∙ ap Some (sym c.index.ensures)) in
    ap is_some (value_is r items word within found ∙ ap (λ fs. read_slots (newest_y fs) r) c.self.view_is) ∙ c.requires

pub returns : goal.returns
returns c =
    let items = c.self.inside.words.items in
    let r = c.args.register in
    let word : Word = c.index.result.now in
    let within : r < y_count (frames_of items) = subst (λ fs. r < y_count fs) (sym c.self.view_is) (value_within (newest_y c.args.self.now) r c.requires) in
    let long : c.len.result ≡ length items = c.len.ensures ∙ c.self.inside.words.ok.0 in
    let some : 0 < length items = nonempty items r within in
    let at : ℕ = c.len.result - 1 - r in
    let inside : at < length items = omega (arith, some, long) in
    let found : slice_get items (length items - 1 - r) ≡ Some word =
    ap (λ n. slice_get items (n - 1 - r)) (sym long) ∙ (slice_get-get_or items at word inside ∙ ap Some (sym c.index.ensures)) in
    sym (value_is r items word within found ∙ ap (λ fs. read_slots (newest_y fs) r) c.self.view_is) ∙ c.value_there.ensures
