pub mod Counting
pub mod Finding
pub mod Places
pub mod Order
pub mod Pages
pub mod Parting
pub mod Deeds
