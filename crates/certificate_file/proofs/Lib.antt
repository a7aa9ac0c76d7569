pub mod Loops
pub mod Once
pub mod ReadingLemmas
pub mod TreeLemmas
