pub mod Answers
pub mod Limits
pub mod Loading
pub mod SessionReplies
