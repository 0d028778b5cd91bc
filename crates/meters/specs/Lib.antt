pub mod Counts
pub mod Seats
pub mod Rule
