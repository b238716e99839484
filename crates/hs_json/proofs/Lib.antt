pub mod Plain
pub mod Spelled
pub mod Items
pub mod Written
