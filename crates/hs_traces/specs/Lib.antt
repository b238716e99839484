pub mod Keys
pub mod Parts
pub mod Shelves
pub mod Traces
pub mod TracesLayout
pub mod History
