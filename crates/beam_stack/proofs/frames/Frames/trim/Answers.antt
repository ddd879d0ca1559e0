use Rattle.std.proofs.Common.{◌≡◌, ◌≤◌, ◌-◌, length, take, drop, option_map, ap, sym, ◌∙◌, subst}
use Rattle.beam_stack.specs.Prelude.{newest_y, y_count, frames_of, IsStack}
use Rattle.beam_machine.specs.Prelude.{with_y}
use Rattle.beam_stack.proofs.Lists.{take_most}
use Rattle.beam_stack.proofs.Registers.{trim_frames, trim_stack}
use Rattle.beam_stack.proofs.frames.Frames.trim.Goals as goal

pub invariant_of-self : goal.invariant_of-self
invariant_of-self c =
    let items = c.self.inside.words.items in
    let newest = c.self.inside.newest in
    let n = c.args.dropped in
    let some : n ≤ y_count (frames_of items) = subst (λ fs. n ≤ y_count fs) (sym c.self.view_is) c.requires in
    let long : c.len.result ≡ length items = c.len.ensures ∙ c.self.inside.words.ok.0 in
    let cut : c.truncate_words.new.words.items ≡ take (length items - n) items = c.truncate_words.ensures ∙ ap (λ m. take (m - n) items) long in (
      subst (λ ws. IsStack ws newest) (sym cut) (trim_stack items newest n c.self.invariant.0 some),
      subst (λ ws. length ws ≤ 65536) (sym cut) (take_most (length items - n) 65536 items c.self.invariant.1),
    )

pub returns : goal.returns
returns c =
    let items = c.self.inside.words.items in
    let n = c.args.dropped in
    let some : n ≤ y_count (frames_of items) = subst (λ fs. n ≤ y_count fs) (sym c.self.view_is) c.requires in
    let long : c.len.result ≡ length items = c.len.ensures ∙ c.self.inside.words.ok.0 in
    ap frames_of (c.truncate_words.ensures ∙ ap (λ m. take (m - n) items) long) ∙ trim_frames items n some
    ∙ ap (λ fs. with_y fs (option_map (drop n) (newest_y fs))) c.self.view_is
