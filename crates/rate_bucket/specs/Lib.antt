pub mod Bucket
pub mod Running
