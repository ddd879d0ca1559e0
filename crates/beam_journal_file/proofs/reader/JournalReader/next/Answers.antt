use Rattle.std.proofs.Common.{rules}
use Rattle.beam_journal_file.specs.JournalRead.{HasRead}
use Rattle.beam_journal_file.proofs.Given.{page_read, record_read}
use Rattle.beam_journal_file.proofs.reader.JournalReader.next.Goals as goal

pub returns-clause-read : goal.returns-clause-read
returns-clause-read g c = λ ss read.
    let ready : HasRead c.else-self-len.self ss = search (rules, page_read) in
    record_read c.else-self-len.self c.next_record.new.self c.in_ok-sent.sent c.in_ok-sent.ensures ss ready
