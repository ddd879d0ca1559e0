use Rattle.std.proofs.Common.{◌≡◌, ◌<◌, sym, ◌∙◌, arith, filter}
use Rattle.beam_state.specs.Prelude.{is_key_of}
use Rattle.beam_state.proofs.Notified.{none_made, told_monitored, unmonitored, untold}
use Rattle.beam_state.proofs.ends.has_notices.Goals as goal

pub returns-in-Some-clause-some : goal.returns-in-Some-clause-some
returns-in-Some-clause-some c = λ e.
    told_monitored c.args.processes.now c.args.pid (filter (is_key_of c.args.pid) c.in-Some.monitor_index.now)
    (sym (rw c.as_slice.ensures at c.one_is_told.ensures) ∙ e)

pub returns-in-Some-clause-none : goal.returns-in-Some-clause-none
returns-in-Some-clause-none c = λ e.
    let few : c.args.references < 4294967296 = omega arith in
    untold c.in-Some.monitor_index.now c.args.processes.now c.args.pid c.args.references
    (λ pid count reason few lawful. c.in-Some.ensures pid count reason few lawful) few c.requires.lawful (sym (rw c.as_slice.ensures at c.one_is_told.ensures) ∙ e)

pub returns-then-references-gt0-clause-none : goal.returns-then-references-gt0-clause-none
returns-then-references-gt0-clause-none c = λ e.
    unmonitored c.args.processes.now c.args.pid (sym (rw c.as_slice-then-references-gt0.ensures at c.is_monitored.ensures) ∙ e)

pub returns-else-references-gt0-clause-none : goal.returns-else-references-gt0-clause-none
returns-else-references-gt0-clause-none c = λ e.
    let none : c.args.references ≡ 0 = omega (arith, c.if-references-gt0.false) in
    none_made c.args.processes.now c.args.pid c.args.references none c.requires.lawful
