use Rattle.std.proofs.Common.{◌∙◌}
use Rattle.beam_term.specs.Prelude.{texts_by_chars}
use Rattle.beam_term.proofs.atom.AtomOrd.cmp.Goals as goal

pub returns-clause-by_code_points : goal.returns-clause-by_code_points
returns-clause-by_code_points c =
    let e = rw (c.as_str-text.ensures.value, c.as_str-other_text.ensures.value) at c.cmp.ensures in
    e ∙ texts_by_chars c.args.self.now c.args.other.now c.as_str-text.ensures.lawful.utf8 c.as_str-other_text.ensures.lawful.utf8
