use Rattle.std.proofs.Common.{rules, ◌≡◌, ◌<◌, ◌^◌, ◌++◌}
use Rattle.byteorder.specs.Endian.{big_bytes}
use Rattle.beam_records.proofs.Fronts.{found_or_none, sized_at, below_size}
use Rattle.beam_records.proofs.opening.sized_in.Goals as goal

pub returns : goal.returns
returns c =
    let fits : c.in-Some.size < 2 ^ 32 = search rules in
    let stands : c.args.bytes.now ≡ big_bytes 4 c.in-Some.size ++ c.in-Some.rest.now = search rules in
    found_or_none c.bytes_in.result
    (λ few a r h. below_size c.args.bytes.now c.in-Some.size c.in-Some.rest.now a r fits stands few h)
    (λ p h. sized_at c.args.bytes.now c.in-Some.size c.in-Some.rest.now p.0.now p.1.now fits stands h.0 h.1)
    c.bytes_in.ensures
