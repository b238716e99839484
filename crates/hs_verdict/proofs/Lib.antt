pub mod Said
pub mod Slices
