use Rattle.std.proofs.Common.{sym, ap, refl, ◌∙◌, true, false}
use Rattle.std.specs.Option.{option_copied, is_some}
use Rattle.beam_shared.proofs.Refusing.{refusal_is}
use Rattle.beam_shared.proofs.checking_out.process_to_check_out.Goals as goal

pub returns-then-is_some-clause-err : goal.returns-then-is_some-clause-err
returns-then-is_some-clause-err c =
    let there = sym c.live.ensures ∙ ap option_copied c.in-Some.is in
    let busy = sym (ap is_some c.entry_of.ensures) ∙ (sym c.is_some.ensures ∙ c.if-is_some.true) in
    refusal_is c.args.debugger.now.state c.args.checked_out.now c.args.pid c.in-Some.process.now true _ _ there busy refl refl

pub returns-then-is_held-clause-err : goal.returns-then-is_held-clause-err
returns-then-is_held-clause-err c =
    let there = sym c.live.ensures ∙ ap option_copied c.in-Some.is in
    let busy = sym (ap is_some c.entry_of.ensures) ∙ (sym c.is_some.ensures ∙ c.if-is_some.false) in
    let held = sym c.is_held.ensures ∙ c.if-is_held.true in
    refusal_is c.args.debugger.now.state c.args.checked_out.now c.args.pid c.in-Some.process.now false true _ there busy held refl

pub returns-then-is_runnable-clause-may : goal.returns-then-is_runnable-clause-may
returns-then-is_runnable-clause-may c =
    let there = sym c.live.ensures ∙ ap option_copied c.in-Some.is in
    let busy = sym (ap is_some c.entry_of.ensures) ∙ (sym c.is_some.ensures ∙ c.if-is_some.false) in
    let held = sym c.is_held.ensures ∙ c.if-is_held.false in
    let goes = sym c.is_runnable.ensures ∙ c.if-is_runnable.true in
    refusal_is c.args.debugger.now.state c.args.checked_out.now c.args.pid c.in-Some.process.now false false true there busy held goes

pub returns-else-is_runnable-clause-err : goal.returns-else-is_runnable-clause-err
returns-else-is_runnable-clause-err c =
    let there = sym c.live.ensures ∙ ap option_copied c.in-Some.is in
    let busy = sym (ap is_some c.entry_of.ensures) ∙ (sym c.is_some.ensures ∙ c.if-is_some.false) in
    let held = sym c.is_held.ensures ∙ c.if-is_held.false in
    let goes = sym c.is_runnable.ensures ∙ c.if-is_runnable.false in
    refusal_is c.args.debugger.now.state c.args.checked_out.now c.args.pid c.in-Some.process.now false false false there busy held goes
