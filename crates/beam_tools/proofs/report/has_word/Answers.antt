use Rattle.std.proofs.Common.{◌∙◌, Bor}
use Rattle.std.specs.Str.{bytes_eq}
use Rattle.clap.proofs.WalkLemmas.{list_any-map}
use Rattle.clap.specs.Walk.{Text}
use Rattle.beam_tools.proofs.report.has_word.Goals as goal

pub returns : goal.returns
returns c =
    let text : Bor Text → Text = λ s. s.now in
    c.contains.ensures.value ∙ list_any-map (λ w. bytes_eq w c.args.word.now) text c.args.words.now
