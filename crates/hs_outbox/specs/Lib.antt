pub mod Queue
pub mod Lives
pub mod Slots
pub mod Layout
pub mod Examples
