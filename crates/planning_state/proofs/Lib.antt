pub mod EntryLemmas
pub mod BelowLemmas
pub mod QuestionLemmas
pub mod WhyLemma
pub mod TableWork
pub mod Kept
pub mod MilestoneLemmas
pub mod SettleLemmas
pub mod HeldLemmas
mod RememberedLemmas
mod StartLemmas
