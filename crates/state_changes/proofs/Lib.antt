pub mod NameLemmas
pub mod Changing
pub mod FaultLemmas
