use Rattle.std.proofs.Common.{arith, inl, refl}
use Rattle.clap.specs.Walk.{texts}
use Rattle.beam_tools.specs.Node.{Prints}
use Rattle.beam_tools.proofs.Faults.{exit_said}
use Rattle.beam_tools.proofs.Jobs.{always_left, each_done}
use Rattle.beam_tools.proofs.Left.{same_above}
use Rattle.beam_tools.proofs.node.node_run.Goals as goal

-- ---- what is printed, or left to be done

pub returns-in-Ok-clause-silent : goal.returns-in-Ok-clause-silent
returns-in-Ok-clause-silent g c = always_left c.in-Ok.job _ refl

pub returns-in-Ok-clause-done : goal.returns-in-Ok-clause-done
returns-in-Ok-clause-done g c = each_done c.in-Ok.job _ _ (λ status h zero. h.1) c.in-Ok.ensures.done

pub returns-in-Ok-clause-quiet : goal.returns-in-Ok-clause-quiet
returns-in-Ok-clause-quiet g c = each_done c.in-Ok.job _ _ (λ status h zero. refl) c.in-Ok.ensures.done

pub returns-in-Ok-clause-fault : goal.returns-in-Ok-clause-fault
returns-in-Ok-clause-fault g c = each_done c.in-Ok.job _ _ (λ status h other. absurd (other h.0)) c.in-Ok.ensures.done

pub returns-in-Ok-clause-exit : goal.returns-in-Ok-clause-exit
returns-in-Ok-clause-exit g c = each_done c.in-Ok.job _ _ (λ status h three. absurd (omega arith)) c.in-Ok.ensures.done

pub returns-in-Ok-clause-stuck : goal.returns-in-Ok-clause-stuck
returns-in-Ok-clause-stuck g c = each_done c.in-Ok.job _ _ (λ status h four. absurd (omega arith)) c.in-Ok.ensures.done

pub returns-in-Ok-clause-spent : goal.returns-in-Ok-clause-spent
returns-in-Ok-clause-spent g c = each_done c.in-Ok.job _ _ (λ status h five. absurd (omega arith)) c.in-Ok.ensures.done

pub returns-in-Ok-clause-wrong : goal.returns-in-Ok-clause-wrong
returns-in-Ok-clause-wrong g c = each_done c.in-Ok.job _ _ (λ status h two. absurd (omega arith)) c.in-Ok.ensures.done

pub returns-in-Ok-clause-untouched : goal.returns-in-Ok-clause-untouched
returns-in-Ok-clause-untouched g c = each_done c.in-Ok.job _ _ (λ status h above. absurd (omega arith)) c.in-Ok.ensures.done

pub returns-in-Ok-clause-known : goal.returns-in-Ok-clause-known
returns-in-Ok-clause-known g c = each_done c.in-Ok.job _ _ (λ status h. inl h.0) c.in-Ok.ensures.done

-- ---- a fault

pub returns-in-Err-clause-exit : goal.returns-in-Err-clause-exit
returns-in-Err-clause-exit g c =
    exit_said (g.F.Files.contents c.args.files.now) (texts c.args.words.now) c.in-Err.fault c.report.result c.in-Err.ensures.fault c.report.ensures.status

pub returns-in-Err-clause-untouched : goal.returns-in-Err-clause-untouched
returns-in-Err-clause-untouched g c = λ above.
    same_above g.O.Write.contents (Prints (g.F.Files.contents c.args.files.now) (texts c.args.words.now)) c.in-Err.fault c.args.output.now c.give.new.output
    c.report.result c.in-Err.ensures.left c.report.ensures.status above
