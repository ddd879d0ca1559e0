use Rattle.std.proofs.Common.{◌∙◌, [], Bor, get_or}
use Rattle.clap.specs.Walk.{Text}
use Rattle.beam_tools.specs.Prelude.{Contents}
use Rattle.beam_tools.proofs.Loaded.{first_unloaded, one_more_load, same_file}
use Rattle.beam_tools.proofs.load.load_files.Goals as goal

pub loop-name-preserved : goal.loop-name-preserved
loop-name-preserved g c =
    let files : Contents = g.F.Files.contents c.args.files.now in
    let seen : Contents = g.F.Files.contents c.loop-name.files in
    let d : Bor Text = record { ref_ptr = (0, 0); now = [] } in
    let name : Text = (get_or c.args.names.now c.loop-name.name-index d).now in
    let file = c.in_default.ensures.loaded in
    record {
      loaded = one_more_load files c.args.names.now c.loop-name.name-index d c.args.core.now c.loop-name.core c.load_file.new.core
          c.loop-name-test.true c.loop-name.invariant.loaded
          (file.0, same_file seen files name file.0 c.loop-name.invariant.keeps file.1, file.2, file.3);
      keeps = λ n. c.in_default.ensures.keeps n ∙ c.loop-name.invariant.keeps n;
    }

pub returns-in-Err-clause-first : goal.returns-in-Err-clause-first
returns-in-Err-clause-first g c =
    let d : Bor Text = record { ref_ptr = (0, 0); now = [] } in
    first_unloaded (g.F.Files.contents c.args.files.now) (g.F.Files.contents c.loop-name.files) c.args.names.now c.loop-name.name-index d c.args.core.now
    c.loop-name.core c.in-Err.why c.loop-name-test.true c.loop-name.invariant.keeps c.loop-name.invariant.loaded c.in-Err.ensures.refused
