pub mod Causes
pub mod Effects
pub mod Undoing
pub mod Steps
pub mod Figures
pub mod Questions
