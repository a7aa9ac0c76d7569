pub mod Goods
pub mod Machines
pub mod Marks
pub mod Coolest
pub mod Kinds
pub mod Indexed
pub mod Alike
