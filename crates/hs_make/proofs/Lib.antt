pub mod Sequences
pub mod Drawn
pub mod Clients
pub mod Kept
pub mod Counted
pub mod Valid
