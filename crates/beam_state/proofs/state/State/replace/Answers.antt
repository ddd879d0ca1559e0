use Rattle.std.proofs.Common.{◌≡◌, Some, sym, ap, subst, ◌∙◌, is_some}
use Rattle.beam_machine.specs.Prelude.{Process, process_of, with_process, live_process}
use Rattle.beam_laws.specs.Prelude.{Rise, with_name_and_transit}
use Rattle.beam_state.specs.Prelude.{Parts, parts, with_processes, CanReplace}
use Rattle.beam_state.proofs.Replacing.{Replaced, is_live, keeps_there, replaced_lawful, replaced_is}
use Rattle.beam_state.proofs.state.State.replace.Goals as goal

pub living-index-requires : goal.living-index-requires
living-index-requires c =
    ap (λ ps. is_some (live_process ps c.args.pid)) c.as_slice.ensures
    ∙ is_live c.self.inside.processes c.args.pid c.args.process (subst (λ (s : Parts). CanReplace s.processes c.args.pid c.args.process) (sym c.self.view_is) c.requires.can)

pub replace-requires-clause-keeps : goal.replace-requires-clause-keeps
replace-requires-clause-keeps c =
    let can = subst (λ (s : Parts). CanReplace s.processes c.args.pid c.args.process) (sym c.self.view_is) c.requires.can in
    keeps_there c.self.inside.processes c.args.pid c.args.process can c.living-index.result c.living-index.ensures.0

pub invariant_of-self : goal.invariant_of-self
invariant_of-self c =
    let can = subst (λ (s : Parts). CanReplace s.processes c.args.pid c.args.process) (sym c.self.view_is) c.requires.can in
    let does : Replaced c.self.inside.processes c.living-index.result c.args.process c.replace.new.self c.replace.result = c.replace.ensures in
    let rise : Rise 0 c.self.inside.references c.args.process.monitors = subst (λ (s : Parts). Rise 0 s.references c.args.process.monitors) (sym c.self.view_is) c.requires.rise in
    replaced_lawful c.self.inside.processes c.args.pid c.args.process can c.living-index.result c.living-index.ensures.0 c.self.inside.references c.replace.new.self c.replace.result does rise c.self.invariant

pub returns : goal.returns
returns c = λ q there.
    let ps = c.self.inside.processes in
    let can = subst (λ (s : Parts). CanReplace s.processes c.args.pid c.args.process) (sym c.self.view_is) c.requires.can in
    let old : process_of ps c.args.pid ≡ Some q = subst (λ (s : Parts). process_of s.processes c.args.pid ≡ Some q) (sym c.self.view_is) there in
    let done : Replaced ps c.living-index.result c.args.process c.replace.new.self c.replace.result = c.replace.ensures in
    let does = replaced_is ps c.args.pid c.args.process can c.living-index.result c.living-index.ensures.0 c.replace.new.self c.replace.result q done old in
    let put : Process = with_name_and_transit q.name q.transit c.args.process in (
      ap (λ qs. parts qs c.self.inside.clock c.self.inside.instances c.self.inside.references) does.0 ∙ ap (λ (s : Parts). with_processes s (with_process s.processes c.args.pid put)) c.self.view_is,
      does.1,
    )
