pub mod Books
pub mod Fates
pub mod Totals
pub mod Making
