pub mod Ranges
pub mod Numbering
pub mod Pieces
pub mod Steps
pub mod Walks
pub mod Found
pub mod Whole
pub mod Examples
