pub mod Places
pub mod Joins
pub mod Lays
pub mod Naming
pub mod Octets
pub mod Causes
pub mod Runs
pub mod Faultless
