pub mod Pages
pub mod Looking
pub mod Searching
pub mod Standings
pub mod Ends
pub mod Steps
pub mod Law
pub mod Stretches
