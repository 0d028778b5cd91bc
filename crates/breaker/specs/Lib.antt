pub mod Breaker
pub mod Runs
pub mod Table
