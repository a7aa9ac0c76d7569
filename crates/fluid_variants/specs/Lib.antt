pub mod Records
pub mod Split
pub mod Variants
pub mod Places
pub mod Naming
pub mod Temperatures
pub mod Contents
