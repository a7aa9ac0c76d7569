pub mod Told
pub mod Costs
