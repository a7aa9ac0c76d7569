pub mod Faults
pub mod Hints
pub mod Lines
pub mod Names
pub mod Places
