pub mod DistinctLemmas
pub mod RankLemmas
pub mod AutoLemmas
pub mod CountLemmas
