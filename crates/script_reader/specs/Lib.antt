pub mod Fields
pub mod Words
pub mod Scan
pub mod Commands
pub mod Reading
pub mod PartWords
pub mod Arguments
pub mod Lines
