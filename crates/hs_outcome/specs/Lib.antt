pub mod Outcomes
pub mod Pages
pub mod Claims
pub mod Journals
pub mod Fitting
pub mod Examples
