pub mod Steps
pub mod Options
pub mod Tests
pub mod SameText
pub mod AnyError
