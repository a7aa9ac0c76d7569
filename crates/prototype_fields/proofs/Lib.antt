pub mod CutLemmas
pub mod Each
pub mod NumbersLemmas
pub mod TreesLemmas
pub mod Yields
