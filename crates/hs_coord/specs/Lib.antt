pub mod Messages
pub mod Following
pub mod Orderly
pub mod Kept
pub mod Leading
pub mod Answers
