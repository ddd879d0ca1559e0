use Rattle.std.proofs.Common.{◌≡◌, ◌-◌, ◌∙◌, List, Option, ap, drop, length, subst, take, ℕ}
use Rattle.beam_block_file.specs.Fronts.{IfBlock, IsFirst, front_in}
use Rattle.beam_block_file.proofs.BytesAdded.{all_left}
use Rattle.beam_block_file.proofs.KnownReads.{front_settled}
use Rattle.beam_block_file.proofs.reader.find_front.Goals as goal

pub returns-then-is_settled-clause-front : goal.returns-then-is_settled-clause-front
returns-then-is_settled-clause-front g c =
    let told : Option (List ℕ) = g.S.Shelf.bytes c.args.shelf.now in
    let start : ℕ = c.args.start.now in
    let bytes : List ℕ = c.deref.result.now in
    let pending : List ℕ = drop start c.args.buffer.now.items in
    let same : take (length bytes - start) (drop start bytes) ≡ pending = all_left bytes start ∙ ap (drop start) c.deref.ensures.value in
    front_settled told c.args.at pending c.front_of-front.result c.requires.stands (c.front_of-front.ensures.front ∙ ap front_in same)
    (subst (λ (l : List ℕ). IfBlock c.front_of-front.result (λ n. IsFirst n l)) same c.front_of-front.ensures.block)
    (c.is_settled.ensures.settled c.if-is_settled.true)
