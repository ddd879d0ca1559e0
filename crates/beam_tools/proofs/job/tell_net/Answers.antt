use Rattle.std.proofs.Common.{rules, ◌≡◌, ◌∙◌, ap, codes, ℕ, List, ◌++◌}
use Rattle.std.specs.Fmt.{decimal}
use Rattle.std.specs.Io.KnownBytes.{append_known}
use Rattle.beam_tools.proofs.job.tell_net.Goals as goal

pub returns : goal.returns
returns g c =
    let number : c.as_bytes-port_text.result.now ≡ decimal c.args.port = search rules in
    let after : List ℕ → List ℕ = λ t. codes "beamnode: 127.0.0.1:" ++ t ++ codes ": NetFailed\n" in
    c.tell_three.ensures ∙ ap (λ (t : List ℕ). append_known (g.E.Errors.told c.args.errors.now) (after t)) number
