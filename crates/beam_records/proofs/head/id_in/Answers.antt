use Rattle.std.proofs.Common.{rules, ◌≡◌, ◌<◌, ◌^◌, ◌++◌, length}
use Rattle.byteorder.specs.Endian.{big_bytes}
use Rattle.beam_records.proofs.Heads.{other_number}
use Rattle.beam_records.proofs.head.id_in.Goals as goal

pub returns-then-first-ne0 : goal.returns-then-first-ne0
returns-then-first-ne0 c =
    let stands : c.args.bytes.now ≡ c.split_at.result.0.now ++ c.split_at.result.1.now = search rules in
    let wide : length c.split_at.result.0.now ≡ 16 = search rules in
    let number : c.split_at.result.1.now ≡ big_bytes 8 c.in-Some.first ++ c.in-Some._rest.now = search rules in
    let fits : c.in-Some.first < 2 ^ 64 = search rules in
    other_number c.args.bytes.now c.split_at.result.0.now c.split_at.result.1.now c.in-Some._rest.now c.in-Some.first stands wide number fits c.if-first-ne0.true
