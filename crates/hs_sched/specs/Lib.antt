pub mod Visits
pub mod Turns
pub mod TurnExamples
pub mod Sending
pub mod Moving
pub mod Fairness
