pub mod Fates
pub mod Sources
pub mod Sorted
pub mod Kept
pub mod OutcomeText
pub mod TextExamples
pub mod Readable
