pub mod DrawsLemmas
