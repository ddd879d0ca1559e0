use Rattle.std.proofs.Common.{rules, ◌≡◌, ◌∙◌, ap, codes, ℕ, List, ◌++◌}
use Rattle.std.specs.Io.KnownBytes.{append_known}
use Rattle.beam_tools.specs.Prelude.{newline, refusal_name}
use Rattle.beam_tools.proofs.job.tell_start.Goals as goal

pub returns : goal.returns
returns g c =
    let told = g.E.Errors.told c.args.errors.now in
    let name : c.as_bytes.result.now ≡ refusal_name c.args.refused = search rules in
    c.tell_three.ensures ∙ ap (λ (t : List ℕ). append_known told (codes "beamnode: serve: " ++ t ++ newline)) name
