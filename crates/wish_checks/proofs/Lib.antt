pub mod MetLemmas
pub mod SolverLemmas
