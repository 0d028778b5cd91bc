pub mod Lines
pub mod Reading
pub mod Sums
pub mod Written
pub mod Laws
pub mod Base
pub mod OneBase
pub mod Faults
