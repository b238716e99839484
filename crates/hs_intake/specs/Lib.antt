pub mod Intakes
pub mod Taking
pub mod Handing
pub mod IntakeLayout
pub mod Making
pub mod Examples
