pub mod ReceiptText
pub mod Audited
