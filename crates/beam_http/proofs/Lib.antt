pub mod AskedLemmas
pub mod FieldLemmas
