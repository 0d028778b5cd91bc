pub mod Stuck
pub mod Looks
pub mod Going
