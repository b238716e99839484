pub mod ClientLives
pub mod NodeLives
pub mod Following
pub mod Reports
pub mod Saying
pub mod NullPages
