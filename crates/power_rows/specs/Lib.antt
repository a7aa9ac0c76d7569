pub mod Inputs
pub mod Power
