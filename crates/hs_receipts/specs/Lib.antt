pub mod Receipts
pub mod ReceiptsLayout
