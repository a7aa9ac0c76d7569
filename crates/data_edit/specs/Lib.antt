pub mod Lists
pub mod Faults
pub mod Books
pub mod Edits
pub mod CarriedOut
pub mod Names
