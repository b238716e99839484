pub mod Lasts
pub mod Seating
