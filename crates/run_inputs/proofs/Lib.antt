pub mod CertLemmas
pub mod LoadLemmas
pub mod PrepareLemmas
pub mod ReadingLemmas
pub mod ToldLemmas
pub mod CommandLemmas
pub mod NumberLemmas
pub mod OptionLemmas
