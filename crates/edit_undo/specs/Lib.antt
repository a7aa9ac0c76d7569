pub mod Edits
pub mod Session
pub mod Kept
pub mod Answers
