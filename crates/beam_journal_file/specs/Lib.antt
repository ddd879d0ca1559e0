pub mod JournalRead
pub mod WrittenJournal
