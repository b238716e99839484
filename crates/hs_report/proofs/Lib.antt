mod Prelude
pub mod LedgerLines
pub mod Loops
pub mod ByTrace
pub mod Ids
pub mod Reports
pub mod Shapes
pub mod Written
pub mod KeptLemmas
pub mod Readable
