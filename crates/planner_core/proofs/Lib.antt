pub mod StepLemmas
pub mod PosingLemmas
pub mod ListLemmas
pub mod Staying
pub mod Telling
