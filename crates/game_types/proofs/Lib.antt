pub mod StepLemmas
pub mod Walks
pub mod ModuleLemmas
pub mod FuelLemmas
pub mod BeaconLemmas
pub mod ChoiceLemmas
pub mod ChoiceLaws
pub mod Bases
