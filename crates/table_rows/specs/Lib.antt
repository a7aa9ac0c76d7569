pub mod Answers
pub mod Columns
pub mod Places
pub mod Setups
pub mod Refusals
pub mod Names
