use Rattle.std.proofs.Common.{◌≡◌, Some, ap, sym, ◌∙◌, option_map}
use Rattle.std.specs.Option.{option_copied}
use Rattle.beam_machine.specs.Prelude.{monitor_of}
use Rattle.beam_proc.specs.Prelude.{but_of, message_by}
use Rattle.beam_proc.proofs.Arriving.{down_brings}
use Rattle.beam_proc.proofs.delivering.message_by.Goals as goal

pub returns-in_ok-down_message-in-Some-clause-message : goal.returns-in_ok-down_message-in-Some-clause-message
returns-in_ok-down_message-in-Some-clause-message c =
    let ms = but_of c.args.seen.now.keys c.args.monitors.now in
    let pid : Some c.in-Some.pid.now ≡ option_map (λ m. m.pid) (monitor_of c.in-Down.reference ms) =
    sym (ap option_copied c.in-Some.is) ∙ c.in_ok-pid-in-Down.ensures.pid in
    ap Some c.in_ok-down_message-in-Some.ensures
    ∙ (down_brings c.in-Down.reference c.in-Down.reason ms c.in-Some.pid.now pid ∙ ap (message_by ms) (sym c.in-Down.is))
