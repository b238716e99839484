pub mod History
pub mod Waiting
