use Rattle.std.proofs.Common.{◌≡◌, ◌<◌, ◌-◌, length, slice_set, ap, sym, ◌∙◌, subst, length-set, arith}
use Rattle.beam_stack.specs.Prelude.{y_count, with_slot, frames_of, IsStack, word_of}
use Rattle.beam_stack.proofs.Registers.{put_frames, put_stack}
use Rattle.beam_stack.proofs.frames.Frames.put_slot.Goals as goal

pub invariant_of-self : goal.invariant_of-self
invariant_of-self c =
    let items = c.self.inside.words.items in
    let newest = c.self.inside.newest in
    let r = c.args.register in
    let some : r < y_count (frames_of items) = subst (λ fs. r < y_count fs) (sym c.self.view_is) c.requires in
    let long : c.len.result ≡ length items = c.len.ensures ∙ c.self.inside.words.ok.0 in
    let set : c.write_slot.new.words.items ≡ slice_set items (length items - 1 - r) (word_of c.args.slot) =
    c.write_slot.ensures ∙ ap (λ n. slice_set items (n - 1 - r) (word_of c.args.slot)) long in (
      subst (λ ws. IsStack ws newest) (sym set) (put_stack items newest r c.args.slot c.self.invariant.0 some),
      omega (arith, ap length set, length-set items (length items - 1 - r) (word_of c.args.slot), c.self.invariant.1),
    )

pub returns : goal.returns
returns c =
    let items = c.self.inside.words.items in
    let r = c.args.register in
    let some : r < y_count (frames_of items) = subst (λ fs. r < y_count fs) (sym c.self.view_is) c.requires in
    let long : c.len.result ≡ length items = c.len.ensures ∙ c.self.inside.words.ok.0 in
    let set : c.write_slot.new.words.items ≡ slice_set items (length items - 1 - r) (word_of c.args.slot) =
    c.write_slot.ensures ∙ ap (λ n. slice_set items (n - 1 - r) (word_of c.args.slot)) long in
    ap frames_of set ∙ put_frames items r c.args.slot some ∙ ap (λ fs. with_slot fs r c.args.slot) c.self.view_is
