use Rattle.std.proofs.Common.{◌≡◌, ◌<◌, ◌+◌, ◌∙◌, ℕ, List, ◌++◌, ap, append_assoc, arith, length, length-append, take, length-take-le}
use Rattle.beam_frame.specs.Reader.{Reader}
use Rattle.beam_remote.proofs.Bytes.{joined}
use Rattle.beam_remote.proofs.Frames.{none_is_short}
use Rattle.beam_remote.proofs.Moments.{read_needed}
use Rattle.beam_remote.proofs.reading.next_command.Goals as goal

pub loop-command-smaller : goal.loop-command-smaller
loop-command-smaller g c =
    let count = c.in-Ok.count in
    let piece = take count c.read.new.buffer in
    let none = c.in-Ok-None.ensures.none c.in-Ok-None.field-0-is in
    let short : length c.loop-command.reader.pending < 8388612 = none_is_short c.loop-command.reader.pending none.1 in
    let same : length c.next.new.self.pending ≡ length c.loop-command.reader.pending = ap (λ (r : Reader). length r.pending) none.2 in
    let grown : length c.feed.new.self.pending ≡ length c.next.new.self.pending + length piece =
    ap (λ (r : Reader). length r.pending) c.in-Ok-feed.ensures.ok.1 ∙ length-append c.next.new.self.pending piece in
    let some : length piece ≡ count = length-take-le count c.read.new.buffer (omega (arith, c.in-Ok.ensures.count, c.read.auto.buffer)) in
    omega (arith, short, same, grown, some, c.if-count-eq0.false)

pub returns-in_default-feed-clause-found : goal.returns-in_default-feed-clause-found
returns-in_default-feed-clause-found g c =
    let before = c.loop-command.invariant.read in
    let piece = take c.in-Ok.count c.read.new.buffer in
    (before.0 ++ piece, joined _ _ _ before.0 piece before.1 c.in-Ok.ensures.input, tt)

pub returns-then-is_empty-clause-needed : goal.returns-then-is_empty-clause-needed
returns-then-is_empty-clause-needed g c =
    read_needed c.args.reader.now.pending c.loop-command.reader.pending c.loop-command.invariant.read.0 _ _ _ _ _ _ _ c.loop-command.invariant.needed
    c.in-Ok.ensures.moments c.loop-command.invariant.read.1 c.loop-command.invariant.read.2 (c.in-Ok-None.ensures.none c.in-Ok-None.field-0-is).1
    c.loop-command.invariant.output

pub returns-else-is_empty-clause-needed : goal.returns-else-is_empty-clause-needed
returns-else-is_empty-clause-needed g c =
    read_needed c.args.reader.now.pending c.loop-command.reader.pending c.loop-command.invariant.read.0 _ _ _ _ _ _ _ c.loop-command.invariant.needed
    c.in-Ok.ensures.moments c.loop-command.invariant.read.1 c.loop-command.invariant.read.2 (c.in-Ok-None.ensures.none c.in-Ok-None.field-0-is).1
    c.loop-command.invariant.output

pub returns-in_default-feed-clause-needed : goal.returns-in_default-feed-clause-needed
returns-in_default-feed-clause-needed g c =
    read_needed c.args.reader.now.pending c.loop-command.reader.pending c.loop-command.invariant.read.0 _ _ _ _ _ _ _ c.loop-command.invariant.needed
    c.in-Ok.ensures.moments c.loop-command.invariant.read.1 c.loop-command.invariant.read.2 (c.in-Ok-None.ensures.none c.in-Ok-None.field-0-is).1
    c.loop-command.invariant.output

pub loop-command-preserved : goal.loop-command-preserved
loop-command-preserved g c =
    let before = c.loop-command.invariant.read in
    let piece = take c.in-Ok.count c.read.new.buffer in
    let none = c.in-Ok-None.ensures.none c.in-Ok-None.field-0-is in
    record {
      read = (
        before.0 ++ piece,
        joined _ _ _ before.0 piece before.1 c.in-Ok.ensures.input,
        ap (λ (r : Reader). r.pending) c.in-Ok-feed.ensures.ok.1 ∙ ap (λ (r : Reader). r.pending ++ piece) none.2
            ∙ ap (λ (p : List ℕ). p ++ piece) before.2 ∙ append_assoc c.args.reader.now.pending before.0 piece,
      );
      needed = read_needed c.args.reader.now.pending c.loop-command.reader.pending before.0 _ _ _ _ _ _ _ c.loop-command.invariant.needed
          c.in-Ok.ensures.moments before.1 before.2 none.1 c.loop-command.invariant.output;
      output = c.in-Ok.ensures.output ∙ c.loop-command.invariant.output;
      failed = c.in-Ok.ensures.failed ∙ c.loop-command.invariant.failed;
      waits = ap (λ (r : Reader). r.failed) c.in-Ok-feed.ensures.ok.1;
    }
