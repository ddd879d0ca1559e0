use Rattle.std.proofs.Common.{◌≡◌, ◌≢◌, ◌≤◌, ◌<◌, [], Option, IfSome, length, option_map, arith, refl, sym, ap, subst, ◌∙◌}
use Rattle.beam_blocks.specs.Blocks.{AreShort}
use Rattle.beam_block_file.specs.StoredBlocks.{KnownBlocks, with_rest}
use Rattle.beam_journal_file.specs.JournalRead.{JournalRead}
use Rattle.beam_journal_file.specs.WrittenJournal.{WrittenJournal}
use Rattle.beam_journal_file.proofs.Given.{goes_on, none_left, some_left}
use Rattle.beam_journal_file.proofs.reader.JournalReader.into_writer.Goals as goal

pub returns-then-self-len-clause-unread : goal.returns-then-self-len-clause-unread
returns-then-self-len-clause-unread g c =
    let i = c.self.inside in
    let less : i.used < length i.page.items = omega (arith, c.if-self-len.true, c.len.ensures) in
    let left : c.args.self.rest ≢ [] = subst (λ (r : JournalRead). r.rest ≢ []) c.self.view_is (some_left i.used i.page.items less) in
    (λ unread. left, λ some. refl)

pub returns-in-Ok-clause-kept : goal.returns-in-Ok-clause-kept
returns-in-Ok-clause-kept g c =
    let i = c.self.inside in
    let all : length i.page.items ≤ i.used = omega (arith, c.if-self-len.false, c.len.ensures) in
    let over : c.args.self.rest ≡ [] = subst (λ (r : JournalRead). r.rest ≡ []) c.self.view_is (none_left i.used i.page.items all) in
    let same : c.new.result.file.known ≡ c.in-Ok.file.known = ap (λ (j : WrittenJournal). j.file.known) c.new.ensures in
    let known : c.new.result.file.known ≡ option_map (with_rest []) c.args.self.known =
    same ∙ (c.in-Ok.ensures.known ∙ ap (λ (r : JournalRead). option_map (with_rest []) r.known) c.self.view_is) in
    let short : IfSome c.new.result.file.known (λ k. AreShort k.contents) =
    subst (λ (told : Option KnownBlocks). IfSome told (λ k. AreShort k.contents)) (sym same) c.shelf-short.ensures.short in
    goes_on c.args.self c.new.result over known short (ap (λ (j : WrittenJournal). j.written) c.new.ensures ∙ ap (λ (r : JournalRead). r.number) c.self.view_is)
