use Rattle.std.proofs.Common.{List, ℕ, sym, ap, subst, ◌∙◌}
use Rattle.beam_model.specs.Prelude.{Reading, list_by, pairs_at}
use Rattle.beam_term.specs.Prelude.{TermValue}
use Rattle.beam_erltext.specs.Puts.{BeginsWith}
use Rattle.beam_erltext.proofs.Pairs.{term_list}
use Rattle.beam_erltext.proofs.read.read_front.Goals as goal

pub returns-in-91-clause-front : goal.returns-in-91-clause-front
returns-in-91-clause-front c =
    let is =
    term_list c.args.depth_left c.args.text.now c.in-Some.first.now c.in-Some.others.now c.in-Some.ensures.cases.0 c.in-91.is
    ∙ ap (λ (cs : List ℕ). list_by (pairs_at c.args.depth_left) cs) (sym c.skip_blanks.ensures) in
    subst (λ (r : Reading TermValue). BeginsWith c.args.depth_left r c.list_front.result) (sym is) (c.list_front.ensures.front c.args.depth_left)
