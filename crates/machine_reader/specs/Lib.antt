pub mod Sections
pub mod Energy
pub mod Machines
pub mod Sound
