use Rattle.std.proofs.Common.{rules, sym, ap, subst, ◌∙◌}
use Rattle.std.proofs.lemmas.Option.{same_Some}
use Rattle.beam_machine.specs.Prelude.{Process}
use Rattle.beam_rows.specs.Prelude.{AlwaysFinds}
use Rattle.beam_rows.proofs.Finding.{framed_finds}
use Rattle.beam_state.specs.Prelude.{node}
use Rattle.beam_state.proofs.Responding.{runs_there}
use Rattle.beam_core.proofs.Located.{leads_follows}
use Rattle.beam_core.proofs.Monitors.{leads_part}
use Rattle.beam_core.proofs.short.private.Goals as goal

-- the closure requires of a process that it runs, and always finds what it names
pub change-requires-clause-callable : goal.change-requires-clause-callable
change-requires-clause-callable c = λ p there lent is.
    let state = c.args.state.now in
    let found = runs_there state.processes c.args.pid c.requires.runs in
    let same = same_Some found.0 p (sym found.1.0 ∙ there) in
    let runs = ap (λ (q : Process). q.status) (is ∙ sym same) ∙ found.1.1 in
    let finds = subst (AlwaysFinds c.args.code.now) (sym is) (framed_finds (node c.args.code.now state) c.args.pid p c.requires.framed there) in
    (runs, finds)

pub change-requires-clause-keeps : goal.change-requires-clause-keeps
change-requires-clause-keeps c = λ p q r runs given. leads_follows c.args.code.now r.count p q runs (search rules)

pub change-requires-clause-monitors : goal.change-requires-clause-monitors
change-requires-clause-monitors c = λ p q r runs given. leads_part c.args.code.now r.count p q (search rules)
