use Rattle.std.proofs.Common.{rules, ◌<◌, ◌^◌}
use Rattle.std.proofs.lemmas.Result.{on_ok_weaker}
use Rattle.byteorder.specs.Endian.{big_bytes}
use Rattle.beam_records.proofs.Written.{at_body, adds_timeout}
use Rattle.beam_records.proofs.short_kinds.put_timeout.Goals as goal

pub returns-clause-ok : goal.returns-clause-ok
returns-clause-ok c =
    let fits : c.args.pid < 2 ^ 32 = search rules in
    on_ok_weaker c.put_body.result
    (λ e. adds_timeout c.args.out.now.items c.put_body.new.out.items c.args.pid c.args.seat c.requires fits
    (at_body c.args.out.now.items c.put_body.new.out.items c.args.seat 11 c.long_number.result (big_bytes 4 c.args.pid) c.long_number.ensures e))
    c.put_body.ensures.ok
