use Rattle.std.proofs.Common.{rules, ◌≡◌, ◌∙◌, ap, ℕ, List, ◌++◌}
use Rattle.std.specs.Fmt.{decimal}
use Rattle.std.specs.Io.KnownBytes.{append_known}
use Rattle.beam_tools.proofs.place.tell_number.Goals as goal

pub returns : goal.returns
returns g c =
    let number : c.as_bytes-number_text.result.now ≡ decimal c.args.number = search rules in
    c.tell_two.ensures ∙ ap (λ (t : List ℕ). append_known (g.E.Errors.told c.args.errors.now) (c.args.before.now ++ t)) number
