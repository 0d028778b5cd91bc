pub mod Begun
pub mod Blank
pub mod File
pub mod Log
pub mod Memory
pub mod Past
pub mod Sums
