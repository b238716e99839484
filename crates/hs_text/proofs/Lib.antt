pub mod TextLemmas
pub mod WordLemmas
pub mod Lines
pub mod Pairs
pub mod TidyLines
pub mod DigitLemmas
