pub mod Actions
pub mod States
pub mod Effects
pub mod Undoing
pub mod Books
pub mod Entries
pub mod Faults
