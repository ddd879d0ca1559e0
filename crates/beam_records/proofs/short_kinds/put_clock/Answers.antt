use Rattle.std.proofs.Common.{rules, ◌<◌, ◌^◌}
use Rattle.std.proofs.lemmas.Result.{on_ok_weaker}
use Rattle.byteorder.specs.Endian.{big_bytes}
use Rattle.beam_records.proofs.Written.{at_body, adds_clock}
use Rattle.beam_records.proofs.short_kinds.put_clock.Goals as goal

pub returns-clause-ok : goal.returns-clause-ok
returns-clause-ok c =
    let fits : c.args.now < 2 ^ 64 = search rules in
    on_ok_weaker c.put_body.result
    (λ e. adds_clock c.args.out.now.items c.put_body.new.out.items c.args.now c.args.seat c.requires fits
    (at_body c.args.out.now.items c.put_body.new.out.items c.args.seat 10 c.time.result (big_bytes 8 c.args.now) c.time.ensures e))
    c.put_body.ensures.ok
