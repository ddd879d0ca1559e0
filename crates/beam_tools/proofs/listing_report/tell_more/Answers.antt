use Rattle.std.proofs.Common.{◌∙◌}
use Rattle.beam_tools.proofs.listing_report.tell_more.Goals as goal

pub returns : goal.returns
returns g c = (c.deref.result.now, c.tell.ensures, λ no. c.deref.ensures.value ∙ c.more-lines.ensures no)
