pub mod Prelude
pub mod Readers
pub mod Spellings
pub mod Putting
pub mod Finding
pub mod Loops
