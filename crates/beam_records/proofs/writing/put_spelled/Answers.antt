use Rattle.std.proofs.lemmas.Result.{on_ok_weaker}
use Rattle.beam_records.specs.JournalFile.{framed}
use Rattle.beam_records.proofs.Written.{adds}
use Rattle.beam_records.proofs.writing.put_spelled.Goals as goal

pub returns-clause-ok : goal.returns-clause-ok
returns-clause-ok c =
    on_ok_weaker c.put_body.result
    (λ stands e h. adds c.args.out.now.items c.put_body.new.out.items c.args.kind c.args.body.now c.args.command.now (record { event = e; seat = c.args.seat }) c.requires.seat
    c.requires.short (framed c.args.kind c.args.body.now c.args.command.now c.requires.spelled) h stands)
    c.put_body.ensures.ok
