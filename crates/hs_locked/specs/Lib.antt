pub mod Stored
pub mod Views
pub mod Rule
pub mod Places
pub mod Steps
pub mod Seats
pub mod Making
