pub mod Fields
pub mod Records
pub mod Setups
pub mod Texts
