use Rattle.std.proofs.Common.{ap, sym, ◌∙◌}
use Rattle.std.specs.List.{list_any}
use Rattle.beam_machine.specs.Prelude.{lingers}
use Rattle.beam_stack.proofs.Anys.{none}
use Rattle.beam_proc.specs.Prelude.{process_in}
use Rattle.beam_proc.proofs.entry.ProcessEntry.lingers_in_any.Goals as goal

pub returns-in-Ended : goal.returns-in-Ended
returns-in-Ended c =
    let numbers = c.args.numbers.now.keys in
    none numbers ∙ (ap (λ k. list_any (λ n. lingers n (process_in k)) numbers) (sym c.in-Ended.is) ∙ ap (λ p. list_any (λ n. lingers n p) numbers) c.self.view_is)
