pub mod Collected
pub mod Clients
pub mod Views
pub mod Joining
