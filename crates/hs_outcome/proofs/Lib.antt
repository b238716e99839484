mod Prelude
pub mod Claimed
pub mod Seen
pub mod Rising
pub mod Sent
pub mod Runs
pub mod Adding
pub mod Journals
pub mod Fitting
