use Rattle.std.proofs.Common.{◌<◌, ◌++◌, length, arith}
use Rattle.beam_mailbox.specs.Chunks.{joined}
use Rattle.beam_mailbox.proofs.Pointer.{at_following}
use Rattle.beam_mailbox.proofs.Mailbox.next.Goals as goal

pub invariant_of-self : goal.invariant_of-self
invariant_of-self c =
    let before : c.self.inside.position < c.self.inside.count = omega (arith, c.if-self.false, c.self.invariant.3) in
    let more : c.self.inside.position < length (joined c.self.inside.chunks.items ++ c.self.inside.last.items) = omega (arith, before, c.self.invariant.0) in (
      c.self.invariant.0,
      c.self.invariant.1,
      at_following c.self.inside.chunks.items c.self.inside.last.items c.self.inside.chunk c.self.inside.place c.self.inside.position c.following-chunk.result.0 c.following-chunk.result.1 c.self.invariant.1 more c.following-chunk.ensures.over c.following-chunk.ensures.inside c.self.invariant.2,
      omega (arith, before),
    )
