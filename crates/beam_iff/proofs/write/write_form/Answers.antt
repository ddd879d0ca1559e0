use Rattle.std.proofs.Common.{◌≡◌, ◌<◌, ◌^◌, rules, length, ap, ◌∙◌, arith}
use Rattle.std.proofs.lemmas.Grind.{common_steps}
use Rattle.beam_model.specs.Prelude.{form_body, form_bytes, form_at, read_again}
use Rattle.beam_iff.specs.Chunks.{form_of}
use Rattle.beam_iff.proofs.write.write_form.Goals as goal

pub returns-clause-read_back : goal.returns-clause-read_back
returns-clause-read_back c =
    let file : c.extend_from_slice-2.new.self.items ≡ form_bytes (form_of c.args.chunks.now) = search rules in
    let fits : length (form_body (form_of c.args.chunks.now)) < 2 ^ 32 = grind (arith, common_steps, c.in_ok-put_size.ensures.fits, c.in_ok-body.ensures.ok, c.len.ensures) in
    ap form_at file ∙ read_again (form_of c.args.chunks.now) fits
