use Rattle.std.proofs.Common.{◌≡◌, List, [], ap, ◌∙◌, arith}
use Rattle.beam_term.specs.Prelude.{TermValue, tuple_of, depth_of}
use Rattle.beam_erltext.proofs.read.tuple_front.Goals as goal

pub returns-clause-fits : goal.returns-clause-fits
returns-clause-fits c =
    let empty : c.in_ok-empty.empty ≡ tuple_of [] = c.in_ok-empty.ensures.ok ∙ ap (λ (xs : List TermValue). tuple_of xs) c.new.ensures.items in
    omega (arith, ap depth_of empty, c.if-depth_left-eq0.false)
