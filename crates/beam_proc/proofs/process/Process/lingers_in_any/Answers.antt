use Rattle.std.proofs.Common.{rules, ◌≡◌, ap, sym, ◌∙◌}
use Rattle.std.specs.List.{list_any}
use Rattle.beam_machine.specs.Prelude.{is_frame_in}
use Rattle.beam_proc.proofs.Several.{by_parts}
use Rattle.beam_proc.proofs.process.Process.lingers_in_any.Goals.{then-goes_in_any, else-goes_in_any}
use Rattle.beam_proc.proofs.process.Process.lingers_in_any.Goals as goal

pub returns-then-wakes_in_any : goal.returns-then-wakes_in_any
returns-then-wakes_in_any c =
    let parts = by_parts c.args.numbers.now.keys c.args.self.now in
    elim c.if-goes_in_any.branch [
      | then-goes_in_any w ↦ search rules
      | else-goes_in_any w ↦ search rules
    ] ∙ sym parts

pub returns-else-wakes_in_any : goal.returns-else-wakes_in_any
returns-else-wakes_in_any c =
    let numbers = c.args.numbers.now.keys in
    let parts = by_parts numbers c.args.self.now in
    let frames : c.are_in_any.result ≡ list_any (λ n. list_any (is_frame_in n) c.args.self.now.frames) numbers
    = c.are_in_any.ensures ∙ ap (λ p. list_any (λ n. list_any (is_frame_in n) p.frames) numbers) c.self.view_is in
    elim c.if-goes_in_any.branch [
      | then-goes_in_any w ↦ search rules
      | else-goes_in_any w ↦ search rules
    ] ∙ sym parts
