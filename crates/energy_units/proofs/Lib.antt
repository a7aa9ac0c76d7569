pub mod Front
pub mod Scale
pub mod Outcome
