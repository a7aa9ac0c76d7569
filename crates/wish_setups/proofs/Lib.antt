pub mod FitLemmas
pub mod RankLemmas
