mod Prelude
pub mod Senders
pub mod Steps
pub mod Sound
pub mod Cuts
pub mod Apart
pub mod Doing
pub mod Samples
pub mod Ports
pub mod Sending
