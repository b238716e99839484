pub mod Ids
pub mod Values
pub mod Exact
pub mod Keeps
pub mod Reading
