use Rattle.std.proofs.Common.{ap, sym, ◌∙◌}
use Rattle.std.specs.List.{list_any}
use Rattle.beam_stack.specs.Prelude.{word_in, is_word_in}
use Rattle.beam_stack.proofs.Anys.{none}
use Rattle.beam_stack.proofs.word.Word.is_in_any.Goals as goal

pub returns-in-First : goal.returns-in-First
returns-in-First c =
    let numbers = c.args.numbers.now.keys in
    none numbers ∙ (ap (λ i. list_any (λ n. is_word_in n (word_in i)) numbers) (sym c.in-First.is) ∙ ap (λ w. list_any (λ n. is_word_in n w) numbers) c.self.view_is)

pub returns-in-Value : goal.returns-in-Value
returns-in-Value c =
    let numbers = c.args.numbers.now.keys in
    none numbers ∙ (ap (λ i. list_any (λ n. is_word_in n (word_in i)) numbers) (sym c.in-Value.is) ∙ ap (λ w. list_any (λ n. is_word_in n w) numbers) c.self.view_is)
