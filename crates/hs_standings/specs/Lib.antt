pub mod Standing
pub mod Closing
