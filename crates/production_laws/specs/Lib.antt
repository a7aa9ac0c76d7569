pub mod Amounts
pub mod Balance
pub mod Reached
pub mod Dumped
