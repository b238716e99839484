pub mod Commands
pub mod Messages
pub mod Endings
pub mod Answers
