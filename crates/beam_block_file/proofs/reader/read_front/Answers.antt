use Rattle.std.proofs.Common.{◌<◌, ◌^◌, IfSome, List, Option, ap, arith, length, length-append, subst, sym, ℕ}
use Rattle.beam_block_file.specs.Fronts.{IsUnsettled, front_in}
use Rattle.beam_block_file.specs.Shelves.{StandAt}
use Rattle.beam_block_file.proofs.KnownFronts.{unsettled_short}
use Rattle.beam_block_file.proofs.KnownReads.{front_settled}
use Rattle.beam_block_file.proofs.reader.read_front.Goals as goal

pub returns-then-is_settled-clause-front : goal.returns-then-is_settled-clause-front
returns-then-is_settled-clause-front g c =
    let told : Option (List ℕ) = g.S.Shelf.bytes c.args.shelf.now in
    let pending : List ℕ = c.deref.result.now in
    let stands : IfSome told (StandAt c.args.at pending) =
    subst (λ (l : List ℕ). IfSome told (StandAt c.args.at l)) (sym c.deref.ensures.value) c.loop-front.invariant.stands in
    front_settled told c.args.at pending c.front_of-front.result stands c.front_of-front.ensures.front c.front_of-front.ensures.block
    (c.is_settled.ensures.settled c.if-is_settled.true)

pub loop-front-smaller : goal.loop-front-smaller
loop-front-smaller g c =
    let pending : List ℕ = c.deref.result.now in
    let unsettled : IsUnsettled (front_in pending) =
    subst IsUnsettled c.front_of-front.ensures.front (c.is_settled.ensures.unsettled c.if-is_settled.false) in
    let short : length pending < 2 ^ 33 = unsettled_short pending unsettled in
    let more = c.in_ok-count.ensures.more in
    omega (arith, short, ap length c.deref.ensures.value, more.1, ap length more.2, length-append c.loop-front.pending.items more.0, c.if-count-eq0.false)
