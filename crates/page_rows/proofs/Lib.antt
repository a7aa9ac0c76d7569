pub mod Below
pub mod NumberLemmas
pub mod LabelLemmas
