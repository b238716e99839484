pub mod Settings
pub mod Statements
pub mod LookBack
pub mod Reasons
pub mod Faults
pub mod Forward
