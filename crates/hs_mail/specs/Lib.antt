pub mod Letters
pub mod Lives
pub mod MailLayout
pub mod Examples
