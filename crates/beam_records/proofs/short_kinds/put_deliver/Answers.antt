use Rattle.std.proofs.Common.{rules, ◌≡◌, ◌<◌, ◌^◌, ◌∙◌, ap}
use Rattle.std.proofs.lemmas.Result.{on_ok_weaker}
use Rattle.byteorder.specs.Endian.{big_bytes}
use Rattle.beam_records.proofs.Written.{at_body, short_deliver_at, adds_short_deliver, adds_deliver}
use Rattle.beam_records.proofs.short_kinds.put_deliver.Goals as goal

pub returns-then-pid-clause-ok : goal.returns-then-pid-clause-ok
returns-then-pid-clause-ok c =
    let fits : c.args.pid < 2 ^ 32 = search rules in
    on_ok_weaker c.put_body.result
    (λ e. adds_deliver c.args.out.now.items c.put_body.new.out.items c.args.pid c.args.seat c.requires fits
    (at_body c.args.out.now.items c.put_body.new.out.items c.args.seat 9 c.long_number.result (big_bytes 4 c.args.pid) c.long_number.ensures e))
    c.put_body.ensures.ok

pub returns-clause-ok : goal.returns-clause-ok
returns-clause-ok c =
    let fits : c.args.pid < 2 ^ 16 = search rules in
    let same : c.short_number.result ≡ big_bytes 2 c.args.pid = c.short_number.ensures ∙ ap (big_bytes 2) c.narrow.ensures in
    on_ok_weaker c.put_body-2.result
    (λ e. adds_short_deliver c.args.out.now.items c.put_body-2.new.out.items c.args.pid c.args.seat c.requires fits
    (at_body c.args.out.now.items c.put_body-2.new.out.items c.args.seat 33 c.short_number.result (big_bytes 2 c.args.pid) same e))
    c.put_body-2.ensures.ok

pub returns-clause-short : goal.returns-clause-short
returns-clause-short c =
    let same : c.short_number.result ≡ big_bytes 2 c.args.pid = c.short_number.ensures ∙ ap (big_bytes 2) c.narrow.ensures in
    λ fits. on_ok_weaker c.put_body-2.result
    (λ e. short_deliver_at c.args.out.now.items c.put_body-2.new.out.items c.args.seat (big_bytes 2 c.args.pid)
    (at_body c.args.out.now.items c.put_body-2.new.out.items c.args.seat 33 c.short_number.result (big_bytes 2 c.args.pid) same e))
    c.put_body-2.ensures.ok
