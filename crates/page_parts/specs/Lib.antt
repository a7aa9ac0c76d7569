pub mod Escape
pub mod Decimals
pub mod Flows
