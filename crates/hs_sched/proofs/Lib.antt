pub mod PrefixLemmas
pub mod FairnessLemmas
pub mod VisitLemmas
pub mod TurnLemmas
pub mod MovingLemmas
