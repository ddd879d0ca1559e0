use Rattle.std.proofs.Common.{lit<, ◌==◌, ◌∙◌, ◌≡◌, false, slice_index, sym}
use Rattle.beam_tools.proofs.Modes.{mode_read, no_mode_read}
use Rattle.beam_tools.proofs.serve_options.mode_of.Goals as goal

pub returns-in-Ok : goal.returns-in-Ok
returns-in-Ok c =
    let text = c.args.text.now in
    let no_plus : (slice_index text 0 == 43) ≡ false = sym (c.starts_with.ensures.byte (lit< tt) (lit< tt) (λ w o h. h)) ∙ c.if-starts_with.false in
    mode_read text c.in-Ok.mode no_plus c.if-text-gt4.false c.in-Ok.ensures.value.0.0 c.in-Ok.ensures.value.1 c.if-mode-le-MOST_MODE.true

pub returns-in-Err : goal.returns-in-Err
returns-in-Err c =
    let text = c.args.text.now in
    let no_plus : (slice_index text 0 == 43) ≡ false = sym (c.starts_with.ensures.byte (lit< tt) (lit< tt) (λ w o h. h)) ∙ c.if-starts_with.false in
    no_mode_read text no_plus c.in-Err.ensures.value
