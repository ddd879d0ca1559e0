use Rattle.std.proofs.Common.{◌≡◌, ℕ, ◌<◌, ◌≤◌, ◌-◌, length, option_and_then, slice_get, Some, ap, sym, ◌∙◌, arith, ltb-true, ltb-false}
use Rattle.std.proofs.lemmas.Option.{slice_get-get_or}
use Rattle.beam_stack.specs.Prelude.{newest_y, y_count, slot_at, frames_of, slot_in}
use Rattle.beam_stack.proofs.Registers.{slot_is, no_slot, nonempty}
use Rattle.beam_stack.proofs.frames.Frames.register.Goals as goal

pub returns-then-has : goal.returns-then-has
returns-then-has c =
    let items = c.self.inside.words.items in
    let r = c.args.register in
    let within : r < y_count (frames_of items) = omega (arith, ltb-true r (y_count c.args.self.now) (sym c.has.ensures ∙ c.if-has.true), ap y_count c.self.view_is) in
    let long : c.len.result ≡ length items = c.len.ensures ∙ c.self.inside.words.ok.0 in
    let some : 0 < length items = nonempty items r within in
    let at : ℕ = c.len.result - 1 - r in
    let inside : at < length items = omega (arith, some, long) in
    let found : slice_get items (length items - 1 - r) ≡ Some c.index.result.now =
    ap (λ n. slice_get items (n - 1 - r)) (sym long) ∙ (slice_get-get_or items at c.index.result.now inside ∙ ap Some (sym c.index.ensures)) in
    ap (option_and_then slot_in) (sym found)
    ∙ slot_is r items within ∙ ap (λ fs. slot_at (newest_y fs) r) c.self.view_is

pub returns-else-has : goal.returns-else-has
returns-else-has c =
    let past : y_count c.args.self.now ≤ c.args.register = omega (arith, ltb-false c.args.register (y_count c.args.self.now) (sym c.has.ensures ∙ c.if-has.false)) in
    sym (no_slot c.args.self.now c.args.register past)
