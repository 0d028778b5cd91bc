pub mod Audits
pub mod Layout
pub mod Runs
pub mod Ledgers
pub mod Rows
