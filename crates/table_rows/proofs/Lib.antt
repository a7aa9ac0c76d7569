pub mod Parts
pub mod Sums
pub mod Fitting
pub mod Positive
pub mod NameLemmas
