use Rattle.std.proofs.Common.{◌≡◌, ◌≤◌, ◌∷◌, ◌++◌, length, refl, arith}
use Rattle.std.proofs.lemmas.Grind.{common_steps}
use Rattle.beam_tables.proofs.Texts.{written}
use Rattle.beam_tables.proofs.put.put_atom.Goals as goal

pub returns : goal.returns
returns c =
    let size : c.in-Ok.size ≡ length c.args.atom.now = grind (arith, common_steps, c.in-Ok.ensures, c.as_bytes-text.ensures.value, c.as_str.ensures.value) in
    let short : length c.args.atom.now ≤ 255 = grind (arith, common_steps, c.in-Ok.ensures, c.as_bytes-text.ensures.value, c.as_str.ensures.value) in
    let whole : c.args.out.now.items ++ length c.args.atom.now ∷ c.args.atom.now ≡ c.extend_from_slice.new.self.items = grind (arith, common_steps, size, c.as_bytes-text.ensures.value, c.as_str.ensures.value, c.in_ok-push.ensures.items, c.in_ok-extend_from_slice.ensures.items) in
    rw (written c.args.atom.now c.as_str.ensures.lawful.utf8 short, whole) refl
