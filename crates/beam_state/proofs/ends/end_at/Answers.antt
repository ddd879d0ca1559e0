use Rattle.std.proofs.Common.{◌≡◌, false, rules}
use Rattle.beam_machine.specs.Prelude.{is_ended}
use Rattle.beam_state.proofs.Ended.{ended_keeps, mid_within, mid_lives, ended_ok, ended_err}
use Rattle.beam_state.proofs.ends.end_at.Goals as goal

pub change-requires-clause-within : goal.change-requires-clause-within
change-requires-clause-within c =
    mid_within c.args.processes.now c.tell.new.processes c.args.index c.args.pid c.args.reason c.new.result.items c.in_ok-told.told.items c.requires.located c.requires.lawful.0 c.new.ensures.items
    c.in_ok-told.ensures.ok.0 c.in_ok-told.ensures.ok.1 c.requires.within

pub change-requires-clause-lives : goal.change-requires-clause-lives
change-requires-clause-lives c =
    mid_lives c.args.processes.now c.tell.new.processes c.args.index c.args.pid c.args.reason c.new.result.items c.in_ok-told.told.items c.requires.located c.requires.lawful.0 c.new.ensures.items
    c.in_ok-told.ensures.ok.0 c.in_ok-told.ensures.ok.1 (λ p. is_ended p.status ≡ false) c.requires.lives

pub change-requires-clause-keeps : goal.change-requires-clause-keeps
change-requires-clause-keeps c = λ p q result there ended. ended_keeps p q c.args.reason c.args.value result (search rules)

pub returns-in-Ok : goal.returns-in-Ok
returns-in-Ok c =
    ended_ok c.args.processes.now c.tell.new.processes c.args.index c.args.pid c.args.reason c.new.result.items c.in_ok-told.told.items c.requires.located c.requires.lawful.0 c.new.ensures.items
    c.in_ok-told.ensures.ok.0 c.in_ok-told.ensures.ok.1 c.change.new.self c.in-Ok.then c.args.value c.requires.within (search rules)

pub returns : goal.returns
returns c =
    ended_err c.args.processes.now c.tell.new.processes c.args.index c.args.pid c.args.reason c.new.result.items c.in_ok-told.told.items c.requires.located c.requires.lawful.0 c.new.ensures.items
    c.in_ok-told.ensures.ok.0 c.in_ok-told.ensures.ok.1 c.change.new.self c.take_all_back.new.processes c.in-Err.refused c.args.value c.requires.within (search rules) (search rules)
