use Rattle.std.proofs.Common.{rules, ◌≤◌, ap, length}
use Rattle.beam_tools.proofs.Whole.{whole}
use Rattle.beam_tools.proofs.files.read_whole.Goals as goal

pub returns-clause-whole : goal.returns-clause-whole
returns-clause-whole g c =
    let few : length c.read_to_end.new.buf.items ≤ 8388608 = search rules in
    whole c.take-file.result.limit (g.R.Read.remaining c.args.file) (g.R.Read.remaining c.take-file.result.inner) c.new-bytes.result.items c.read_to_end.new.buf.items
    c.take-file.ensures.limit (ap g.R.Read.remaining c.take-file.ensures.inner) c.new-bytes.ensures.items c.in_default.ensures.bytes few
