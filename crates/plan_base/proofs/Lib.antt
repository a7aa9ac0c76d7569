pub mod Bools
pub mod Outcomes
pub mod Places
pub mod Walks
