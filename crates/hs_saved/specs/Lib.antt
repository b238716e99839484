pub mod Saved
pub mod SavedLayout
