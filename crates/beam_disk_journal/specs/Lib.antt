pub mod WrittenEntries
