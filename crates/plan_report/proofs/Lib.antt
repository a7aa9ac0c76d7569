pub mod LineLemmas
pub mod PlanTexts
pub mod Read
pub mod Texts
pub mod WordLemmas
