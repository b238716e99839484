pub mod Runs
pub mod Book
pub mod AllSteps
pub mod Rooms
pub mod Bare
mod Prelude
pub mod Timed
pub mod Timely
pub mod Fitting
pub mod Cutting
pub mod FirstOperations
pub mod Within
pub mod Handing
pub mod OneMore
pub mod Order
pub mod Adding
pub mod Sampling
pub mod Clients
