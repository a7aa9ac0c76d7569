pub mod Faults
pub mod Goods
pub mod Recipes
pub mod Seen
pub mod Technologies
