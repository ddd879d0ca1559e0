use Rattle.std.proofs.Common.{None, ap, ◌∙◌}
use Rattle.beam_codesrv.proofs.Homes.{not_there, changed_there}
use Rattle.beam_codesrv.proofs.code_table.purge_in.Goals as goal

pub returns-in_err-get_mut-clause-entries : goal.returns-in_err-get_mut-clause-entries
returns-in_err-get_mut-clause-entries c =
    ap (λ m. m.entries) c.get_mut.follows.holds-at-none ∙ not_there (λ v. (v.0, None)) c.args.name.now c.args.modules.now.entries c.in_err-get_mut.ensures.value

pub returns-clause-entries : goal.returns-clause-entries
returns-clause-entries c =
    let w = c.purge.new.self in
    changed_there (λ v. (v.0, None)) c.args.name.now c.args.modules.now.entries (c.get_mut.follows.lender w).entries c.in_ok-get_mut.field-0.now w c.in_ok-get_mut.ensures.value (c.get_mut.follows.holds w).0 c.purge.ensures.moved
