pub mod ClaimLemmas
pub mod PageLemmas
pub mod RuleLemmas
pub mod Pairs
pub mod Sites
pub mod Tried
