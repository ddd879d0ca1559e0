use Rattle.std.proofs.Common.{◌<◌, length, arith}
use Rattle.std.proofs.lemmas.Result.{err_from_is_err_and}
use Rattle.beam_model.specs.Prelude.{empty_form, Chunk, with_chunks, chunk_takes, after_chunk, is_done}
use Rattle.beam_iff.specs.Chunks.{form_of}
use Rattle.beam_iff.proofs.Loop.{ends_at_chunk, ends_in_chunk}
use Rattle.beam_iff.proofs.read.all_chunks.Goals as goal

pub returns-in_err-name : goal.returns-in_err-name
returns-in_err-name c =
    let p = err_from_is_err_and c.from_residual.result c.from_residual.ensures.1 in
    let some : 0 < length c.loop-rest.rest.now = grind (arith, c.loop-rest-test.true, c.is_empty.ensures) in
    rw (p.1, p.2) (ends_at_chunk c.in_err-name.field-0.0 c.loop-rest.invariant.0 (form_of c.loop-rest.chunks) c.loop-rest.rest.now (with_chunks (length c.args.bytes.now) empty_form c.args.bytes.now) c.in_err-name.ensures some c.loop-rest.invariant.1 c.loop-rest.invariant.2)

pub returns-in_err-chunks : goal.returns-in_err-chunks
returns-in_err-chunks c =
    let p = err_from_is_err_and c.from_residual-in_err-chunks.result c.from_residual-in_err-chunks.ensures.1 in
    let chunk : Chunk = record { name = c.in_ok-name.name.now; content = c.in_ok-name.content.now } in
    rw (p.1, p.2) (ends_in_chunk c.in_err-chunks.field-0.0 c.loop-rest.invariant.0 (form_of c.loop-rest.chunks) c.loop-rest.rest.now c.in_ok-name.behind.now chunk (with_chunks (length c.args.bytes.now) empty_form c.args.bytes.now) c.in_ok-name.ensures c.in_err-chunks.ensures c.loop-rest.invariant.1 c.loop-rest.invariant.2)

pub loop-rest-smaller : goal.loop-rest-smaller
loop-rest-smaller c =
    let chunk : Chunk = record { name = c.in_ok-name.name.now; content = c.in_ok-name.content.now } in
    omega (arith, chunk_takes c.loop-rest.rest.now c.in_ok-name.behind.now chunk c.in_ok-name.ensures)

pub loop-rest-preserved : goal.loop-rest-preserved
loop-rest-preserved c =
    let chunk : Chunk = record { name = c.in_ok-name.name.now; content = c.in_ok-name.content.now } in
    after_chunk c.loop-rest.invariant.0 (form_of c.loop-rest.chunks) (form_of c.in_ok-chunks.chunks) c.loop-rest.rest.now c.in_ok-name.behind.now chunk (with_chunks (length c.args.bytes.now) empty_form c.args.bytes.now) c.in_ok-name.ensures c.in_ok-chunks.ensures c.loop-rest.invariant.1 c.loop-rest.invariant.2

pub returns : goal.returns
returns c =
    is_done c.loop-rest.invariant.0 (form_of c.loop-rest.chunks) c.loop-rest.rest.now (with_chunks (length c.args.bytes.now) empty_form c.args.bytes.now) (grind (arith, c.loop-rest-test.false, c.is_empty.ensures)) c.loop-rest.invariant.2
