pub mod Energy
pub mod Split
pub mod Scaled
