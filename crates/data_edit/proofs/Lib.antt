pub mod EntryLoops
pub mod Soundness
pub mod Sameness
pub mod EffectLaw
pub mod NamesKept
pub mod GameKept
