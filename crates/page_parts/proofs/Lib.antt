pub mod EscapeLemmas
pub mod DecimalLemmas
pub mod FlowLemmas
