pub mod Moves
pub mod Gathered
pub mod History
pub mod Crossing
pub mod Meeting
pub mod Awaiting
pub mod Numbers
pub mod Own
