use Rattle.std.proofs.Common.{rules, ◌≡◌, ◌∙◌, ◌≤◌, length, drop, ℕ, List, sym}
use Rattle.beam_blocks.specs.Blocks.{number_at, after_header, one_block}
use Rattle.beam_blocks.proofs.RoundTrip.{header_at}
use Rattle.beam_blocks.proofs.reading.block_in.Goals as goal

pub returns-clause-found : goal.returns-clause-found
returns-clause-found c =
    let bytes : List ℕ = c.args.bytes.now in
    let long : 16 ≤ length bytes = search rules in
    let count : c.number-count.result ≡ number_at 0 bytes = search rules in
    let mirror : c.number-mirror.result ≡ number_at 4 bytes = search rules in
    let low : c.number-first.result ≡ number_at 8 bytes = search rules in
    let high : c.number-second.result ≡ number_at 12 bytes = search rules in
    let parts : c.split_at.result.1.now ≡ drop 16 bytes = search rules in
    let found : after_header c.number-count.result c.number-mirror.result c.number-first.result c.number-second.result c.split_at.result.1.now ≡ one_block c.in_ok-content.content.now c.in_ok-content.rest.now = c.in_ok-content.ensures.found in
    let same : after_header (number_at 0 bytes) (number_at 4 bytes) (number_at 8 bytes) (number_at 12 bytes) (drop 16 bytes)
    ≡ after_header c.number-count.result c.number-mirror.result c.number-first.result c.number-second.result c.split_at.result.1.now
    = λ i. after_header (sym count i) (sym mirror i) (sym low i) (sym high i) (sym parts i) in
    header_at bytes long ∙ same ∙ found
