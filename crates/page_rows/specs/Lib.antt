pub mod Things
pub mod Setups
pub mod Cells
pub mod Rows
pub mod Numbers
pub mod Amounts
pub mod Labels
pub mod Pieces
