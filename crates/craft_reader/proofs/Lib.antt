pub mod FaultsLemmas
