pub mod Decoding
pub mod Overlaps
pub mod Putting
pub mod Lanes
pub mod Chunks
