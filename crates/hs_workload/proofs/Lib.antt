mod Prelude
pub mod Numbers
pub mod Exact
pub mod Spelled
pub mod Clear
pub mod Keeps
pub mod Kept
pub mod Seen
pub mod Whole
pub mod Runs
pub mod ReaderAnswers
pub mod Clients
pub mod Faultless
pub mod LinesWritten
pub mod Versions
pub mod Streams
pub mod Lines
pub mod Taking
