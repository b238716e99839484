pub mod ClientSlotSteps
pub mod HubSlotSteps
pub mod NodeSlotSteps
pub mod Pieces
pub mod PortSlotSteps
pub mod Values
