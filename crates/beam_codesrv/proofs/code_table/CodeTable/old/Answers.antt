use Rattle.std.proofs.Common.{sym, ap, ◌∙◌, option_and_then}
use Rattle.beam_codesrv.specs.Homes.{number_of}
use Rattle.beam_codesrv.proofs.Homes.{old_found}
use Rattle.beam_codesrv.proofs.code_table.CodeTable.old.Goals as goal

pub returns-in_err-get : goal.returns-in_err-get
returns-in_err-get c =
    rw (c.from_residual.ensures, ← c.self.view_is) (ap (λ o. number_of (option_and_then (λ v. v.1) o)) c.in_err-get.ensures.value ∙ sym (ap number_of (old_found c.self.inside.modules.entries c.args.name.now)))

pub returns : goal.returns
returns c =
    rw (← c.self.view_is) (c.old_number.ensures ∙ (ap (λ o. number_of (option_and_then (λ v. v.1) o)) c.in_ok-get.ensures.value ∙ sym (ap number_of (old_found c.self.inside.modules.entries c.args.name.now))))
