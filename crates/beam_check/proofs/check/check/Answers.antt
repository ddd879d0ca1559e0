use Rattle.std.proofs.Common.{◌≡◌, false, sym, ◌∙◌}
use Rattle.std.proofs.lemmas.Option.{MatchOption-at_none}
use Rattle.beam_model.specs.Prelude.{are_heads_lawful, are_exports_lawful}
use Rattle.beam_check.proofs.WellFormed.{heads_lawful, exports_lawful}
use Rattle.beam_check.proofs.check.check.Goals as goal

pub returns-in_default-clause-only : goal.returns-in_default-clause-only
returns-in_default-clause-only c = λ w.
    let unlawful : are_heads_lawful c.args.listing.now ≡ false = MatchOption-at_none _ _ c.in_default.is c.in_ok-functions.ensures in
    let both = sym unlawful ∙ heads_lawful c.args.listing.now w in
    absurd cc

pub returns-then-not-branch-2-clause-only : goal.returns-then-not-branch-2-clause-only
returns-then-not-branch-2-clause-only c = λ w.
    let unlawful : are_exports_lawful c.args.listing.now ≡ false = sym c.in_ok-are_exports_lawful.ensures ∙ c.if-not-branch-2.true in
    let both = sym unlawful ∙ exports_lawful c.args.listing.now w in
    absurd cc
