use Rattle.std.proofs.Common.{◌≡◌, ℕ, List, ◌++◌, Option, option_map, ap, ◌∙◌}
use Rattle.beam_block_file.specs.StoredBlocks.{KnownBlocks, all_bytes}
use Rattle.beam_records.specs.JournalFile.{head_of}
use Rattle.beam_journal_file.proofs.Heads.{one_block}
use Rattle.beam_journal_file.proofs.writer.write_head.Goals as goal

pub returns-in-Ok : goal.returns-in-Ok
returns-in-Ok g c =
    let content : c.deref.result.now ≡ head_of c.args.id.now = c.deref.ensures.value ∙ (c.in_ok-put_head.ensures.ok ∙ ap (λ (b : List ℕ). b ++ head_of c.args.id.now) c.new-head.ensures.items) in
    record {
      head = c.into_shelf.ensures.bytes ∙ (ap (λ (k : Option KnownBlocks). option_map all_bytes k) (c.in-Ok.ensures.known ∙ c.in_ok-file.ensures.known)
          ∙ one_block (g.S.Shelf.bytes c.args.shelf) c.deref.result.now (head_of c.args.id.now) content);
    }
