pub mod Pool
pub mod Queue
