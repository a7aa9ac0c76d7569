pub mod Changed
pub mod Lowered
pub mod Places
pub mod Row
pub mod Shared
pub mod Tops
