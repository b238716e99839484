pub mod Index
pub mod Touched
pub mod EntryLayout
pub mod RecentLayout
pub mod IndexLayout
pub mod Calls
