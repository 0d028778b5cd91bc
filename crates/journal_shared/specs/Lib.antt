pub mod Fronts
pub mod Kept
pub mod Progress
pub mod Writes
