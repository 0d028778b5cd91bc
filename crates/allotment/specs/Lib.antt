pub mod Loans
pub mod LoansKept
pub mod Runs
pub mod Waits
pub mod WaitsKept
