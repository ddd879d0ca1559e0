use Rattle.std.proofs.Common.{◌≡◌, ◌-◌, length}
use Rattle.beam_model.specs.Prelude.{body_from, no_body}
use Rattle.beam_listing.specs.Prelude.{body_of}
use Rattle.beam_listing.proofs.read.functions.Given as goal

abbrev pub invariant-loop : goal.invariant-loop
invariant-loop l = body_from (length l.text - l.counter) (body_of l.body) l.rest ≡ body_from (length l.text) no_body l.text
