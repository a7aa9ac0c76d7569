pub mod Tree
pub mod Said
pub mod Reading
pub mod Narrow
