pub mod Delivering
pub mod InboxLayout
pub mod Examples
