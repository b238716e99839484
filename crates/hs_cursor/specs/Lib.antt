pub mod Rows
pub mod Reading
pub mod Walking
pub mod CursorLayout
