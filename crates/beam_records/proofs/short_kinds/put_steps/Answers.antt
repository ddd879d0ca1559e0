use Rattle.std.proofs.Common.{rules, ◌≡◌, ◌<◌, ◌^◌, ◌++◌, ◌∙◌}
use Rattle.std.proofs.lemmas.Result.{on_ok_weaker}
use Rattle.byteorder.specs.Endian.{big_bytes}
use Rattle.beam_records.proofs.Written.{at_body, short_steps_at, adds_short_steps, adds_steps}
use Rattle.beam_records.proofs.short_kinds.put_steps.Goals as goal

pub returns-then-pid-clause-ok : goal.returns-then-pid-clause-ok
returns-then-pid-clause-ok c =
    let pid_fits : c.args.pid < 2 ^ 32 = search rules in
    let rows_fits : c.args.rows < 2 ^ 32 = search rules in
    on_ok_weaker c.put_body.result
    (λ e. adds_steps c.args.out.now.items c.put_body.new.out.items c.args.pid c.args.rows c.args.seat c.requires pid_fits rows_fits
    (at_body c.args.out.now.items c.put_body.new.out.items c.args.seat 8 c.long_numbers.result (big_bytes 4 c.args.pid ++ big_bytes 4 c.args.rows) c.long_numbers.ensures e))
    c.put_body.ensures.ok

pub returns-then-rows-clause-ok : goal.returns-then-rows-clause-ok
returns-then-rows-clause-ok c =
    let pid_fits : c.args.pid < 2 ^ 32 = search rules in
    let rows_fits : c.args.rows < 2 ^ 32 = search rules in
    on_ok_weaker c.put_body-then-rows.result
    (λ e. adds_steps c.args.out.now.items c.put_body-then-rows.new.out.items c.args.pid c.args.rows c.args.seat c.requires pid_fits rows_fits
    (at_body c.args.out.now.items c.put_body-then-rows.new.out.items c.args.seat 8 c.long_numbers-then-rows.result (big_bytes 4 c.args.pid ++ big_bytes 4 c.args.rows) c.long_numbers-then-rows.ensures e))
    c.put_body-then-rows.ensures.ok

pub returns-clause-ok : goal.returns-clause-ok
returns-clause-ok c =
    let pid_fits : c.args.pid < 2 ^ 16 = search rules in
    let rows_fits : c.args.rows < 2 ^ 16 = search rules in
    let same : c.short_numbers.result ≡ big_bytes 2 c.args.pid ++ big_bytes 2 c.args.rows =
    c.short_numbers.ensures ∙ (λ i. big_bytes 2 (c.narrow.ensures i) ++ big_bytes 2 (c.narrow-2.ensures i)) in
    on_ok_weaker c.put_body-2.result
    (λ e. adds_short_steps c.args.out.now.items c.put_body-2.new.out.items c.args.pid c.args.rows c.args.seat c.requires pid_fits rows_fits
    (at_body c.args.out.now.items c.put_body-2.new.out.items c.args.seat 32 c.short_numbers.result (big_bytes 2 c.args.pid ++ big_bytes 2 c.args.rows) same e))
    c.put_body-2.ensures.ok

pub returns-clause-short : goal.returns-clause-short
returns-clause-short c =
    let same : c.short_numbers.result ≡ big_bytes 2 c.args.pid ++ big_bytes 2 c.args.rows =
    c.short_numbers.ensures ∙ (λ i. big_bytes 2 (c.narrow.ensures i) ++ big_bytes 2 (c.narrow-2.ensures i)) in
    λ p r. on_ok_weaker c.put_body-2.result
    (λ e. short_steps_at c.args.out.now.items c.put_body-2.new.out.items c.args.seat (big_bytes 2 c.args.pid ++ big_bytes 2 c.args.rows)
    (at_body c.args.out.now.items c.put_body-2.new.out.items c.args.seat 32 c.short_numbers.result (big_bytes 2 c.args.pid ++ big_bytes 2 c.args.rows) same e))
    c.put_body-2.ensures.ok
