pub mod Worlds
pub mod Kept
pub mod Held
pub mod Laws
pub mod Why
pub mod Found
pub mod Numbers
