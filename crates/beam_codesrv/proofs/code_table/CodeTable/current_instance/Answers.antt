use Rattle.std.proofs.Common.{sym, ap, ◌∙◌, option_and_then}
use Rattle.beam_codesrv.proofs.Homes.{current_found}
use Rattle.beam_codesrv.proofs.code_table.CodeTable.current_instance.Goals as goal

pub returns-in_err-get : goal.returns-in_err-get
returns-in_err-get c =
    rw (c.from_residual.ensures, ← c.self.view_is) (ap (option_and_then (λ v. v.0)) c.in_err-get.ensures.value ∙ sym (current_found c.self.inside.modules.entries c.args.name.now))

pub returns : goal.returns
returns c =
    rw (← c.self.view_is) (c.current.ensures ∙ (ap (option_and_then (λ v. v.0)) c.in_ok-get.ensures.value ∙ sym (current_found c.self.inside.modules.entries c.args.name.now)))
