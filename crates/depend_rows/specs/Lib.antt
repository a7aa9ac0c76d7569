pub mod Members
pub mod Goods
pub mod Machines
pub mod Rows
pub mod Touched
