pub mod Worlds
pub mod Work
pub mod Books
pub mod Remembered
