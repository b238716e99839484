pub mod Finishing
pub mod Completion
