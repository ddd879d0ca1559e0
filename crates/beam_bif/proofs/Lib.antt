pub mod IntegerLemmas
pub mod ElementLemmas
pub mod TupleLemmas
pub mod MadeLemmas
