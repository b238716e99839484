mod Prelude
mod Cuts
mod First
mod Whole
mod Left
mod Finishing
pub mod Tallied
pub mod Passing
pub mod Firsts
pub mod Heard
pub mod Asked
pub mod Sides
pub mod Gave
pub mod Paced
pub mod Stepping
pub mod Behind
pub mod Pages
pub mod Drawing
pub mod Noting
pub mod UnreadOffers
