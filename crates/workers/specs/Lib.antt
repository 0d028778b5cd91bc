pub mod Replies
pub mod Counting
pub mod Keeping
pub mod Carrying
pub mod Rolling
pub mod PlaceCounts
pub mod Places
