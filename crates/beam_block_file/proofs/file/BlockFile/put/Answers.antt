use Rattle.std.proofs.Common.{◌≡◌, ◌+◌, ◌⊎◌, ◌∙◌, IfSome, List, Option, ap, arith, length, option_map, subst, sym, take, ℕ}
use Rattle.beam_blocks.specs.Blocks.{block}
use Rattle.beam_block_file.specs.Shelves.{IsBegun, appended}
use Rattle.beam_block_file.specs.StoredBlocks.{HasBlocks, IsKept, StoredBlocks, known_blocks, with_block}
use Rattle.beam_block_file.proofs.KnownFiles.{left_kept, length_of_block, put_has, put_known, put_whole}
use Rattle.beam_block_file.proofs.file.BlockFile.put.Goals as goal

pub returns-in_default-checked_add-clause-long : goal.returns-in_default-checked_add-clause-long
returns-in_default-checked_add-clause-long g c = λ is. (
  omega (arith, c.in_default-checked_add.ensures, c.len.ensures, c.in-Ok.ensures.size, ap (λ (s : StoredBlocks). s.end) c.self.view_is),
  c.self.view_is,
)

pub returns-in-Err-clause-left : goal.returns-in-Err-clause-left
returns-in-Err-clause-left g c =
    let told : Option (List ℕ) = g.S.Shelf.bytes c.self.inside.shelf in
    let now : Option (List ℕ) = g.S.Shelf.bytes c.add_behind.new.shelf in
    let end : ℕ = c.self.inside.end in
    let content : List ℕ = c.args.content.now in
    let bytes : c.deref.result.now ≡ block content = c.deref.ensures.value ∙ c.in-Ok.ensures.block in
    let left : (now ≡ told) ⊎ IsBegun (option_map (take end) told) (block content) now =
    subst (λ (b : List ℕ). (now ≡ told) ⊎ IsBegun (option_map (take end) told) b now) bytes c.in-Err.ensures.begun in
    subst (λ (s : StoredBlocks). IsKept s.known content (option_map (known_blocks end) now)) c.self.view_is (left_kept told now end content c.self.invariant.0 left)

pub returns-clause-put : goal.returns-clause-put
returns-clause-put g c =
    let told : Option (List ℕ) = g.S.Shelf.bytes c.self.inside.shelf in
    let end : ℕ = c.self.inside.end in
    let content : List ℕ = c.args.content.now in
    let bytes : c.deref.result.now ≡ block content = c.deref.ensures.value ∙ c.in-Ok.ensures.block in
    let end_is : c.in-Some.end ≡ end + length (block content) = omega (arith, c.in-Some.ensures, c.len.ensures, c.in-Ok.ensures.size, length_of_block content) in
    ap (option_map (known_blocks c.in-Some.end)) (c.in_default-add_behind.ensures.whole ∙ ap (appended (option_map (take end) told)) bytes)
    ∙ put_known told end c.in-Some.end content c.self.invariant.0 c.requires end_is
    ∙ ap (λ (s : StoredBlocks). option_map (with_block content) s.known) c.self.view_is

pub returns-clause-end : goal.returns-clause-end
returns-clause-end g c = omega (arith, c.in-Some.ensures, c.len.ensures, c.in-Ok.ensures.size, ap (λ (s : StoredBlocks). s.end) c.self.view_is)

pub invariant_of-self-2 : goal.invariant_of-self-2
invariant_of-self-2 g c =
    let told : Option (List ℕ) = g.S.Shelf.bytes c.self.inside.shelf in
    let end : ℕ = c.self.inside.end in
    let content : List ℕ = c.args.content.now in
    let bytes : c.deref.result.now ≡ block content = c.deref.ensures.value ∙ c.in-Ok.ensures.block in
    let end_is : c.in-Some.end ≡ end + length (block content) = omega (arith, c.in-Some.ensures, c.len.ensures, c.in-Ok.ensures.size, length_of_block content) in
    let now : g.S.Shelf.bytes c.add_behind.new.shelf ≡ appended (option_map (take end) told) (block content) =
    c.in_default-add_behind.ensures.whole ∙ ap (appended (option_map (take end) told)) bytes in (
      subst (λ (o : Option (List ℕ)). IfSome o (HasBlocks c.in-Some.end)) (sym now) (put_has told end c.in-Some.end content c.self.invariant.0 c.requires end_is),
      λ whole. subst (λ (o : Option (List ℕ)). IfSome o (λ b. length b ≡ c.in-Some.end)) (sym now)
          (put_whole told end c.in-Some.end content c.self.invariant.0 end_is),
    )
