use Rattle.std.proofs.Common.{◌≡◌, ◌++◌, [], ◌∷◌, length, ap, ◌∙◌}
use Rattle.beam_stack.specs.Prelude.{marked}
use Rattle.beam_stack.proofs.Lists.{get_last, set_last}
use Rattle.beam_stack.proofs.word.mark_last.Goals as goal

pub returns-clause-last : goal.returns-clause-last
returns-clause-last c = λ front head is.
    let items = c.args.words.now.items in
    let long : c.len-last.result ≡ length items = c.len-last.ensures ∙ c.args.words.now.ok.0 in
    set_last items front head c.mark.new.self c.len-last.result long is
    ∙ ap (λ w. front ++ w ∷ []) (c.mark.ensures ∙ ap (marked c.args.flag) (c.index_mut.ensures.value ∙ get_last items front head _ c.len-last.result long is))
