pub mod Listed
pub mod Moved
pub mod Touching
pub mod Evicting
pub mod LongestEnd
pub mod LookBack
