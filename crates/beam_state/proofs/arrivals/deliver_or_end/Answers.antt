use Rattle.std.proofs.Common.{◌≡◌, [], slice_get, subst, IfSome}
use Rattle.std.proofs.Math.ListN.{set}
use Rattle.beam_machine.specs.Prelude.{delivered}
use Rattle.beam_proc.specs.Prelude.{ending}
use Rattle.beam_state.proofs.Delivered.{Arrives, ends, goes_on, if_ok}
use Rattle.beam_state.proofs.arrivals.deliver_or_end.Goals as goal

pub returns-in_ok-_ended-in-Some-clause-ok : goal.returns-in_ok-_ended-in-Some-clause-ok
returns-in_ok-_ended-in-Some-clause-ok c =
    let ps = c.args.processes.now in
    let end = subst (λ o. IfSome (slice_get ps c.args.index) (λ p. o ≡ ending p.pid p.transit)) c.in-Some.is c.in_ok-reason.ensures in
    ends ps c.end_at.new.processes c.args.index c.args.pid c.requires.located c.requires.within c.requires.lives c.in-Some.reason c.in_ok-_ended-in-Some._ended end (rw c.nil.ensures at c.in_ok-_ended-in-Some.ensures)

pub returns-in-None-clause-ok : goal.returns-in-None-clause-ok
returns-in-None-clause-ok c =
    let ps = c.args.processes.now in
    let end = subst (λ o. IfSome (slice_get ps c.args.index) (λ p. o ≡ ending p.pid p.transit)) c.in-None.is c.in_ok-reason.ensures in
    if_ok c.deliver_at.result (IfSome (slice_get ps c.args.index) (λ p. c.deliver_at.new.processes ≡ set ps c.args.index (delivered (record p { transit = [] }) p.transit))) (Arrives ps c.args.index c.args.pid c.deliver_at.new.processes)
    (goes_on ps c.deliver_at.new.processes c.args.index c.args.pid c.requires.located c.requires.within c.requires.lives end) c.deliver_at.ensures.ok
