pub mod Nodes
pub mod Told
pub mod Passing
pub mod NodeLayout
pub mod Made
pub mod Examples
