use Rattle.std.proofs.Common.{◌≡◌, sym, ◌∙◌, arith}
use Rattle.std.specs.Prelude.{IsTrue}
use Rattle.std.specs.Str.{bytes_eq}
use Rattle.std.proofs.lemmas.Grind.{common_steps}
use Rattle.std.proofs.lemmas.Slice.Eq.{bytes_eq-Decides}
use Rattle.beam_http.proofs.text.is_same.Goals as goal

pub returns : goal.returns
returns c =
    let one = c.args.one.now in
    let other = c.args.other.now in
    let compared : c.loop-i.is_same ≡ bytes_eq one other = grind (arith, common_steps) in
    let decides = bytes_eq-Decides one other in
    (λ (same : IsTrue c.loop-i.is_same). decides.0 (sym compared ∙ same), λ (equal : one ≡ other). compared ∙ decides.1 equal)
