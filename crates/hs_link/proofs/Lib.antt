pub mod Lists
pub mod Stays
pub mod Moves
pub mod Tells
pub mod Moments
