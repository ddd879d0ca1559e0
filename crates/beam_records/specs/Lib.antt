pub mod JournalFile
pub mod Pieces
