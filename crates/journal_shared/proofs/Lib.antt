pub mod Histories
pub mod Noting
pub mod AllTenants
pub mod Commits
pub mod Crossing
