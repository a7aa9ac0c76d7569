pub mod Tables
pub mod Numbers
pub mod Linear
pub mod Changes
