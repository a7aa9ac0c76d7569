pub mod Names
pub mod Numbers
pub mod Objects
pub mod Seen
pub mod Values
