pub mod Rising
pub mod Places
pub mod Accounts
pub mod Handed
pub mod Layouts
