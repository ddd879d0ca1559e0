-- Whether a process lingers in one of several instances, part by part.
use Rattle.std.proofs.Common.{◌≡◌, ℕ, ◌||◌, List, ap, ◌∙◌}
use Rattle.std.specs.List.{list_any}
use Rattle.beam_machine.specs.Prelude.{Process, goes_in, is_deadline_in, is_frame_in, lingers}
use Rattle.beam_stack.proofs.Anys.{either}

pub by_parts : (numbers : List ℕ) (p : Process) → list_any (λ n. lingers n p) numbers
    ≡ (list_any (λ n. goes_in n p.goes) numbers || (list_any (λ n. is_deadline_in n p.deadline) numbers || list_any (λ n. list_any (is_frame_in n) p.frames) numbers))
by_parts numbers p =
    either (λ n. goes_in n p.goes) (λ n. is_deadline_in n p.deadline || list_any (is_frame_in n) p.frames) numbers
    ∙ ap (λ b. list_any (λ n. goes_in n p.goes) numbers || b) (either (λ n. is_deadline_in n p.deadline) (λ n. list_any (is_frame_in n) p.frames) numbers)
