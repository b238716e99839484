pub mod Cuts
pub mod PageNumbers
pub mod PieceNumbers
pub mod Runs
pub mod PagePieces
pub mod Payloads
pub mod Sizes
