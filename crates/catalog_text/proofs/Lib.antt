pub mod Commas
pub mod Known
pub mod Written
