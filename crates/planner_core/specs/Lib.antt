pub mod Lines
pub mod Planners
pub mod Posing
pub mod Replies
pub mod Told
