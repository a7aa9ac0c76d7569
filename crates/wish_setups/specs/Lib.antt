pub mod Reach
pub mod Fitting
pub mod Choice
