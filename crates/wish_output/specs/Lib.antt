pub mod Belts
