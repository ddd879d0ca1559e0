use Rattle.std.proofs.Common.{◌≡◌, ◌∙◌, IfSome, List, [], Option, ap, length, option_map, subst, sym, take, ℕ}
use Rattle.beam_block_file.specs.StoredBlocks.{BlocksRead, HasBlocks, known_blocks, with_rest}
use Rattle.beam_block_file.proofs.KnownFiles.{cut_has, cut_known, cut_whole}
use Rattle.beam_block_file.proofs.reader.BlockReader.into_file.Goals as goal

pub invariant_of-result : goal.invariant_of-result
invariant_of-result g c =
    let told : Option (List ℕ) = g.S.Shelf.bytes c.self.inside.shelf in
    let at : ℕ = c.self.inside.at in
    let now : g.S.Shelf.bytes c.sync.new.self ≡ option_map (take at) told = c.in_ok-sync.ensures.same ∙ c.in_ok-cut.ensures.cut in (
      subst (λ (o : Option (List ℕ)). IfSome o (HasBlocks at)) (sym now) (cut_has told at c.self.invariant.3),
      λ whole. subst (λ (o : Option (List ℕ)). IfSome o (λ b. length b ≡ at)) (sym now) (cut_whole told at c.self.invariant.3),
    )

pub returns-clause-known : goal.returns-clause-known
returns-clause-known g c =
    let told : Option (List ℕ) = g.S.Shelf.bytes c.self.inside.shelf in
    let at : ℕ = c.self.inside.at in
    let now : g.S.Shelf.bytes c.sync.new.self ≡ option_map (take at) told = c.in_ok-sync.ensures.same ∙ c.in_ok-cut.ensures.cut in
    ap (option_map (known_blocks at)) now ∙ cut_known told at c.self.invariant.3 ∙ ap (λ (s : BlocksRead). option_map (with_rest []) s.known) c.self.view_is
