use Rattle.std.proofs.Common.{sym, ap, ◌∙◌, option_map}
use Rattle.std.specs.Option.{option_or}
use Rattle.beam_machine.specs.Prelude.{monitor_of}
use Rattle.beam_watches.proofs.Parts.{read_both}
use Rattle.beam_watches.proofs.monitors.Monitors.get.Goals as goal

pub returns-in-Some : goal.returns-in-Some
returns-in-Some c =
    let rest = option_map (λ m. m.pid) (monitor_of c.args.reference c.self.inside.newest) in
    rw (← c.self.view_is) (ap (λ o. option_or o rest) c.in-Some.ensures ∙ sym (read_both c.args.reference c.self.inside.older c.self.inside.newest))

pub returns-in-None : goal.returns-in-None
returns-in-None c =
    let rest = option_map (λ m. m.pid) (monitor_of c.args.reference c.self.inside.newest) in
    rw (← c.self.view_is)
    (c.get-in-None.ensures ∙ ap (λ o. option_or o rest) c.in-None.ensures ∙ sym (read_both c.args.reference c.self.inside.older c.self.inside.newest))
