pub mod Pages
pub mod Tracks
pub mod Kept
pub mod Notes
pub mod NotesLayout
pub mod History
pub mod Segments
