use Rattle.std.proofs.Common.{ap, sym, ◌∙◌}
use Rattle.std.specs.List.{list_any}
use Rattle.beam_machine.specs.Prelude.{goes_in}
use Rattle.beam_stack.proofs.Anys.{none}
use Rattle.beam_proc.proofs.process.Process.goes_in_any.Goals as goal

pub returns-in-Enter : goal.returns-in-Enter
returns-in-Enter c =
    let numbers = c.args.numbers.now.keys in
    none numbers ∙ (ap (λ g. list_any (λ n. goes_in n g) numbers) (sym c.in-Enter.is) ∙ ap (λ p. list_any (λ n. goes_in n p.goes) numbers) c.self.view_is)

pub returns-in-Nowhere : goal.returns-in-Nowhere
returns-in-Nowhere c =
    let numbers = c.args.numbers.now.keys in
    none numbers ∙ (ap (λ g. list_any (λ n. goes_in n g) numbers) (sym c.in-Nowhere.is) ∙ ap (λ p. list_any (λ n. goes_in n p.goes) numbers) c.self.view_is)
