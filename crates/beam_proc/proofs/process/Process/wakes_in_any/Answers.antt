use Rattle.std.proofs.Common.{ap, sym, ◌∙◌}
use Rattle.std.specs.List.{list_any}
use Rattle.beam_machine.specs.Prelude.{is_deadline_in}
use Rattle.beam_stack.proofs.Anys.{none}
use Rattle.beam_proc.proofs.process.Process.wakes_in_any.Goals as goal

pub returns-in-None : goal.returns-in-None
returns-in-None c =
    let numbers = c.args.numbers.now.keys in
    none numbers ∙ (ap (λ d. list_any (λ n. is_deadline_in n d) numbers) (sym c.in-None.is) ∙ ap (λ p. list_any (λ n. is_deadline_in n p.deadline) numbers) c.self.view_is)
