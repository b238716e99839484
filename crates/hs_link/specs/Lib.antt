pub mod Contents
pub mod Ring
pub mod Moments
pub mod Trying
