pub mod Pairs
pub mod Deeds
