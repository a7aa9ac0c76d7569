pub mod Passing
pub mod Offered
