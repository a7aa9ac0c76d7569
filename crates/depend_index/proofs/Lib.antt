pub mod KeyLemmas
pub mod MarkLemmas
pub mod Signs
pub mod NoteLemmas
pub mod AlikeLemmas
pub mod CoolestLemmas
