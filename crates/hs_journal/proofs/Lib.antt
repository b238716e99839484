pub mod Writing
pub mod Drafts
pub mod Lines
pub mod Keeps
pub mod Kept
pub mod Seen
pub mod Runs
pub mod WholeTexts
