use Rattle.std.proofs.Common.{ℕ, List, Bor, refl, sym, subst}
use Rattle.std.proofs.lemmas.Result.{on_ok_weaker}
use Rattle.beam_tools.specs.Prelude.{Contents}
use Rattle.beam_serve.specs.Loading.{Begins, LoadsFiles, texts}
use Rattle.beam_serve.proofs.NodeStart.{begins_with}
use Rattle.beam_serve.proofs.loading.load_and_start.Goals as goal

pub returns-in-Some-clause-begun : goal.returns-in-Some-clause-begun
returns-in-Some-clause-begun g c =
    let files : Contents = g.F.Files.contents c.args.files.now in
    let names : List (List ℕ) = texts c.args.line.now.files.items in
    let loaded : LoadsFiles files names c.args.desk.now c.load_all.new.desk
    = subst (λ (ns : List (Bor (List ℕ))). LoadsFiles files (texts ns) c.args.desk.now c.load_all.new.desk) c.deref.ensures.value c.in_ok-load_all.ensures.loaded in
    on_ok_weaker c.start_process.result
    (λ kept. subst (λ start. Begins files names start c.args.desk.now c.start_process.new.desk) (sym c.in-Some.is)
    (begins_with files names c.in-Some.start c.args.desk.now c.load_all.new.desk c.start_process.new.desk _ loaded refl kept))
    c.start_process.ensures.started
