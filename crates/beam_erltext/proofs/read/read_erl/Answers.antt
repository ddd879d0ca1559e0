use Rattle.std.proofs.Common.{◌≡◌, ap, ◌∙◌, sym, Ok, Err}
use Rattle.beam_model.specs.Prelude.{read_text, line_of, at_line, term_of_text}
use Rattle.beam_erltext.proofs.ReadingSound.{text_spelled}
use Rattle.beam_erltext.proofs.ReadingComplete.{text_found}
use Rattle.beam_erltext.proofs.read.read_erl.Goals as goal

pub returns-in-Ok-clause-spelled : goal.returns-in-Ok-clause-spelled
returns-in-Ok-clause-spelled c =
    text_spelled c.args.text.now c.in-Ok.term (ap (at_line c.args.text.now) (ap read_text (sym c.as_bytes.ensures.value) ∙ c.in-Ok.ensures))

pub returns-in-Ok-clause-found : goal.returns-in-Ok-clause-found
returns-in-Ok-clause-found c =
    let text = c.args.text.now in
    let read : term_of_text text ≡ Ok c.in-Ok.term = ap (at_line text) (ap read_text (sym c.as_bytes.ensures.value) ∙ c.in-Ok.ensures) in
    λ t lawful spelled. let found : term_of_text text ≡ Ok t = text_found text t lawful spelled in cc

pub returns-in-Err-At-clause-found : goal.returns-in-Err-At-clause-found
returns-in-Err-At-clause-found c =
    let text = c.args.text.now in
    let fault : read_text c.as_bytes.result.now ≡ Err c.in-Err-At.left = rw c.in-Err-At.field-0-is at c.in-Err-At.ensures in
    let read : term_of_text text ≡ Err (line_of text c.in-Err-At.left) = ap (at_line text) (ap read_text (sym c.as_bytes.ensures.value) ∙ fault) in
    λ t lawful spelled. let found : term_of_text text ≡ Ok t = text_found text t lawful spelled in absurd cc
