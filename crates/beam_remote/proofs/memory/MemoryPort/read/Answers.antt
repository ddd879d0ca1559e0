use Rattle.std.proofs.Common.{◌∙◌, Some, ap}
use Rattle.beam_remote.specs.Prelude.{Tape, moments_of}
use Rattle.beam_remote.proofs.Moments.{read_more}
use Rattle.beam_remote.proofs.memory.MemoryPort.read.Goals as goal

pub returns-clause-moments : goal.returns-clause-moments
returns-clause-moments c =
    ap (λ (t : Tape). Some (moments_of t)) c.give.ensures.gives
    ∙ ap (λ (t : Tape). Some (moments_of t)) c.in_ok-begin_read.ensures.begins ∙ ap Some (read_more c.args.self.now)
