pub mod Binds
pub mod Outcomes
pub mod Shape
pub mod formers
pub mod Places
