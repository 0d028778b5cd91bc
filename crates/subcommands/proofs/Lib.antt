pub mod AllKept
pub mod LogKept
pub mod Openings
