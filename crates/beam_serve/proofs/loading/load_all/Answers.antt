use Rattle.std.proofs.Common.{◌∙◌, ℕ, List, [], Bor, get_or, refl}
use Rattle.beam_tools.specs.Prelude.{Contents}
use Rattle.beam_serve.proofs.NodeStart.{file_before, none_loaded, one_more_file}
use Rattle.beam_serve.proofs.loading.load_all.Goals as goal

pub loop-name-init : goal.loop-name-init
loop-name-init g c = record { loaded = none_loaded _ _; keeps = λ n. refl }

pub loop-name-preserved : goal.loop-name-preserved
loop-name-preserved g c =
    let files : Contents = g.F.Files.contents c.args.files.now in
    let seen : Contents = g.F.Files.contents c.loop-name.files in
    let d : Bor (List ℕ) = record { ref_ptr = (0, 0); now = [] } in
    let name : List ℕ = (get_or c.args.names.now c.loop-name.name-index d).now in
    let loaded = c.in_default.ensures.loaded in
    record {
      loaded = one_more_file files c.args.names.now c.loop-name.name-index d c.args.desk.now c.loop-name.desk c.load.new.desk loaded.0
          c.loop-name-test.true c.loop-name.invariant.loaded
          (file_before seen files name loaded.0 c.loop-name.invariant.keeps loaded.1) loaded.2 loaded.3;
      keeps = λ n. c.load.ensures.keeps n ∙ c.loop-name.invariant.keeps n;
    }
