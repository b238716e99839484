pub mod Pages
pub mod Verdict
pub mod Whole
