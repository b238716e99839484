pub mod News
pub mod Claims
pub mod ClaimsLayout
pub mod Lives
