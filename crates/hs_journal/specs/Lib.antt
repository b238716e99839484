pub mod Reasons
pub mod Statements
pub mod Grammar
pub mod LookBack
pub mod Faults
pub mod FaultExamples
pub mod Forward
pub mod Laws
