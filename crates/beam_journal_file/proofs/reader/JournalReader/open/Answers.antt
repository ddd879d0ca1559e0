use Rattle.std.proofs.Common.{rules, ◌≡◌, ℕ, List, [], ◌∷◌, Option, IfSome, length, option_map, refl, ap, ◌∙◌}
use Rattle.beam_block_file.specs.StoredBlocks.{KnownBlocks, with_next}
use Rattle.beam_records.specs.JournalFile.{head_of}
use Rattle.beam_journal_file.specs.JournalRead.{JournalRead}
use Rattle.beam_journal_file.proofs.Given.{none_read}
use Rattle.beam_journal_file.proofs.Heads.{read_first}
use Rattle.beam_journal_file.proofs.reader.JournalReader.open.Goals as goal

pub returns-clause-read : goal.returns-clause-read
returns-clause-read g c =
    let content = c.next.new.self.content in (
      content,
      c.in-Ok-true.ensures.known c.in-Ok-true.field-0-test ∙ (ap (λ (k : Option KnownBlocks). option_map (with_next content) k) c.new-blocks.ensures.known
          ∙ read_first (g.S.Shelf.bytes c.args.shelf) content),
    )

pub returns-clause-none : goal.returns-clause-none
returns-clause-none g c =
    let known = c.next.new.self.known in
    let head : (id : List ℕ) × (length id ≡ 16) × IfSome known (λ k. k.contents ≡ head_of id ∷ []) = search rules in
    let r : JournalRead = record { known = known; rest = c.new.result.items; number = 0; upto = c.args.upto } in
    none_read r head.0 head.1 head.2 c.new.ensures.items refl
