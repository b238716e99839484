pub mod Answering
pub mod EndingLemmas
pub mod Completion
pub mod Told
pub mod Unwatching
pub mod Clauses
