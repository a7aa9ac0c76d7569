pub mod Launches
pub mod Clashes
