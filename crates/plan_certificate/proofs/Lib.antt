pub mod Sums
pub mod Ends
pub mod Accepted
