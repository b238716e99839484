pub mod Joining
pub mod Steps
pub mod Repeating
pub mod Told
