use Rattle.std.proofs.Common.{◌≡◌, ◌+◌, ◌-◌, ◌∙◌, IfSome, List, [], Option, ap, arith, drop, drop-drop, length-drop, option_map, refl, subst, sym, take, ℕ}
use Rattle.beam_block_file.specs.declared.front.Front.{Front}
use Rattle.beam_block_file.specs.declared.front.Front.TheVariants.{Nothing}
use Rattle.beam_block_file.specs.Fronts.{IfBlock, IsFirst, front_in}
use Rattle.beam_block_file.specs.Shelves.{StandAt}
use Rattle.beam_block_file.specs.StoredBlocks.{BlocksRead, HasBlocks, IsNext, known_blocks, with_next}
use Rattle.beam_block_file.proofs.KnownReads.{content_is, is_next, next_has, next_known, next_stands, nothing_known}
use Rattle.beam_block_file.proofs.reader.BlockReader.next.Goals as goal

pub invariant_of-self-in-Block : goal.invariant_of-self-in-Block
invariant_of-self-in-Block g c =
    let told : Option (List ℕ) = g.S.Shelf.bytes c.self.inside.shelf in
    let at : ℕ = c.self.inside.at in
    let n : ℕ = c.in-Block.count in
    let start : ℕ = c.find_front.new.start in
    let items : List ℕ = c.find_front.new.buffer.items in
    let pending : List ℕ = drop start items in
    let first : IsFirst n pending = subst (λ (x : Front). IfBlock x (λ m. IsFirst m pending)) c.in-Block.is c.in_ok-front.ensures.block in
    let stands : IfSome told (StandAt at pending) = c.in_ok-front.ensures.stands in
    let left : IfSome told (StandAt (at + (16 + n)) (drop (start + (16 + n)) items)) =
    subst (λ (l : List ℕ). IfSome told (StandAt (at + (16 + n)) l)) (drop-drop (16 + n) start items) (next_stands told at (at + (16 + n)) n pending c.self.invariant.3 stands first refl) in (
      omega arith,
      omega (arith, first.fits, length-drop start items, c.in_ok-front.ensures.start),
      omega (arith, first.fits, length-drop start items, length-drop (start + (16 + n)) items, c.in_ok-front.ensures.start, c.in_ok-front.ensures.place),
      subst (λ (o : Option (List ℕ)). IfSome o (HasBlocks (at + (16 + n)))) (sym c.in_ok-front.ensures.same)
          (next_has told at (at + (16 + n)) n pending c.self.invariant.3 stands first refl),
      subst (λ (o : Option (List ℕ)). IfSome o (StandAt (at + (16 + n)) (drop (start + (16 + n)) items))) (sym c.in_ok-front.ensures.same) left,
    )

pub returns-in-Block-clause-block : goal.returns-in-Block-clause-block
returns-in-Block-clause-block g c = λ found.
    let told : Option (List ℕ) = g.S.Shelf.bytes c.self.inside.shelf in
    let at : ℕ = c.self.inside.at in
    let n : ℕ = c.in-Block.count in
    let start : ℕ = c.find_front.new.start in
    let items : List ℕ = c.find_front.new.buffer.items in
    let pending : List ℕ = drop start items in
    let first : IsFirst n pending = subst (λ (x : Front). IfBlock x (λ m. IsFirst m pending)) c.in-Block.is c.in_ok-front.ensures.block in
    let content : List ℕ = take n (drop ((start + (16 + n)) - n) items) in
    let is : content ≡ first.content = content_is items start n first in
    subst (λ (s : BlocksRead). IfSome s.known (IsNext content)) c.self.view_is
    (subst (λ (l : List ℕ). IfSome (option_map (known_blocks at) told) (IsNext l)) (sym is) (is_next told at n pending c.self.invariant.3 c.in_ok-front.ensures.stands first))

pub returns-in-Block-clause-known : goal.returns-in-Block-clause-known
returns-in-Block-clause-known g c = λ found.
    let told : Option (List ℕ) = g.S.Shelf.bytes c.self.inside.shelf in
    let at : ℕ = c.self.inside.at in
    let n : ℕ = c.in-Block.count in
    let start : ℕ = c.find_front.new.start in
    let items : List ℕ = c.find_front.new.buffer.items in
    let pending : List ℕ = drop start items in
    let first : IsFirst n pending = subst (λ (x : Front). IfBlock x (λ m. IsFirst m pending)) c.in-Block.is c.in_ok-front.ensures.block in
    let content : List ℕ = take n (drop ((start + (16 + n)) - n) items) in
    let is : content ≡ first.content = content_is items start n first in
    ap (option_map (known_blocks (at + (16 + n)))) c.in_ok-front.ensures.same
    ∙ next_known told at (at + (16 + n)) n pending c.self.invariant.3 c.in_ok-front.ensures.stands first refl
    ∙ ap (λ (l : List ℕ). option_map (with_next l) (option_map (known_blocks at) told)) (sym is)
    ∙ ap (λ (s : BlocksRead). option_map (with_next content) s.known) c.self.view_is

pub returns-in-Nothing-clause-none : goal.returns-in-Nothing-clause-none
returns-in-Nothing-clause-none g c = λ found.
    let told : Option (List ℕ) = g.S.Shelf.bytes c.self.inside.shelf in
    let at : ℕ = c.self.inside.at in
    let front : IfSome told (λ b. Nothing ≡ front_in (drop at b)) =
    subst (λ (x : Front). IfSome told (λ b. x ≡ front_in (drop at b))) c.in-Nothing.is c.in_ok-front.ensures.front in
    subst (λ (s : BlocksRead). IfSome s.known (λ k. k.rest ≡ [])) c.self.view_is (nothing_known told at front)
